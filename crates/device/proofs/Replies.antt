-- A byte that is answered: the machine's reply and what it leaves are those that the code's own steps give on its state.
use mathlib.Core.Path.{◌≡◌, refl, sym, ap, ◌∙◌}
use mathlib.Core.Bool.{Bool, true, false, ◌&&◌, ◌||◌, cond, false≢true}
use mathlib.Core.List.{List, [], ◌∷◌, ◌++◌}
use Prim.Native.Nat.{ℕ, zero, suc, ◌+◌, ◌-◌}
use native.Mathlib.Omega.{arith}
use lib.ListN.{length, take, drop, length-drop, take-append-drop}
use lib.Seq.{length-take-le}
use lib.Dec.{leb, ltb, eqb}
use borrow.Author.Tests.{leb-true, le-leb, eqb-true}
use Rattle.answer.proofs.Parts.{and_left, and_right}
use Rattle.packet.specs.Packet.{packet_of}
use Rattle.reception.specs.declared.Reception.{Reception}
use Rattle.reception.specs.declared.Reception.TheVariants.{Idle, InData, After13h, FirstCheck, SecondCheck}
use Rattle.reception.specs.declared.Line.{Line}
use Rattle.reception.specs.Reception.{line_of, idle, taken}
use Rattle.records.specs.Store.{zeros, all_zero}
use Rattle.records.proofs.Stores.{zeros_are}
use Rattle.execution.specs.Core.{Core, with_load}
use Rattle.execution.specs.Core.Opening.{none}
use Rattle.execution.specs.Execute.{execute, response_of}
use Rattle.execution.specs.Responses.{is_response}
use Rattle.execution.specs.Stored.{Stored, core_of, stored_of}
use Rattle.execution.specs.Promise.{dropped_in, executed, responded}
use Rattle.state.specs.declared.Held.{Held}
use Rattle.state.specs.State.{State, state_as, device_as, stored_in, with_line, with_held, held_as, can_resend}
use Rattle.state.specs.Sound.{held_sound}
use Rattle.device.specs.Machine.{Holding, Stepped, good_packet, payload_of, runs, refuses, completes, cancels, again, takes}
use Rattle.device.specs.Machine.Holding.{nothing, holding}
use Rattle.device.specs.Between.{holding_in, machine_of, held_of, state_of}
use Rattle.gathering.specs.Gathering.{asks_in}
use Rattle.device.specs.Steps.{sent_again, Told', tells, with_device, cancelled, resent, refused, ran, completed, replied_in}
use Rattle.device.proofs.Calling.{can_send}

-- what holds of the tables of a state, and of the length of its held response
pub record Known (x : State) : Type 0 where
  pub back : stored_of (core_of (stored_in x)) ≡ stored_in x
  pub runs_is : (p : List ℕ) → executed p (stored_in x) ≡ stored_of (execute (core_of (stored_in x)) p)
  pub responds_is : (p : List ℕ) → responded p (stored_in x) ≡ response_of (core_of (stored_in x)) p
  pub drops_is : dropped_in (stored_in x) ≡ stored_of (with_load (core_of (stored_in x)) none)
  pub payload_long : length x.device.held.response.payload ≡ 19

-- ---- the held response

-- a held response by its parts
abbrev held_by : ℕ → List ℕ → ℕ → Held
held_by n payload times = record { response = record { payload = payload; length = n }; times = times }

front_zeros : (n : ℕ) (payload : List ℕ) → length payload ≡ 19 → leb n 19 ≡ true → all_zero (drop n payload) ≡ true
    → (take n payload ++ zeros (19 - length (take n payload)) ≡ payload) × (length (take n payload) ≡ n)
front_zeros n payload l e z =
    let h = leb-true n 19 e in
    let k : length (take n payload) ≡ n = length-take-le n payload (omega arith) in
    let d : length (drop n payload) ≡ 19 - length (take n payload) = simp length-drop (omega arith) in
    let f : zeros (19 - length (take n payload)) ≡ drop n payload = ap zeros (sym d) ∙ sym (zeros_are (drop n payload) z) in
    (ap (λ (q : List ℕ). take n payload ++ q) f ∙ take-append-drop n payload, k)

held_by_lem : (n : ℕ) (payload : List ℕ) (times : ℕ) → length payload ≡ 19 → held_sound (held_by n payload times) ≡ true
    → held_of (holding_in n payload times) ≡ held_by n payload times
unfolding held_sound
held_by_lem zero payload times l e =
    let f = front_zeros 0 payload l refl (and_left (all_zero payload) (eqb times 0) e) in
    let t = eqb-true times 0 (and_right (all_zero payload) (eqb times 0) e) in
    λ i. held_by 0 (f.0 i) (sym t i)
held_by_lem (suc n) payload times l e =
    let a = all_zero (drop (suc n) payload) in
    let c = cond (eqb (suc n) 0) (eqb times 0) (is_response (take (suc n) payload) && leb times 3) in
    let f = front_zeros (suc n) payload l (and_left (leb (suc n) 19) (a && c) e) (and_left a c (and_right (leb (suc n) 19) (a && c) e)) in
    λ i. held_by (f.1 i) (f.0 i) times

-- the held response as it is held
pub held_back : (h : Held) → length h.response.payload ≡ 19 → held_sound h ≡ true
    → held_of (holding_in h.response.length h.response.payload h.times) ≡ h
held_back h l e = held_by_lem h.response.length h.response.payload h.times l e

can_by : (n : ℕ) (payload : List ℕ) (times : ℕ) → can_send (holding_in n payload times) ≡ (leb 1 n && ltb times 3)
can_by zero payload times = refl
can_by (suc n) payload times = let e : leb 1 (suc n) ≡ true = le-leb 1 (suc n) (omega arith) in rw e refl

-- there is something to send again where the code finds it so
pub can_is : (h : Held) → can_send (holding_in h.response.length h.response.payload h.times) ≡ can_resend h
can_is h = can_by h.response.length h.response.payload h.times

-- ---- the state of a machine

-- by the held response and the tables
pub state_parts : (line : Line) (store : List ℕ) (r : Holding) (c : Core) (h : Held) (s : Stored) → held_of r ≡ h → stored_of c ≡ s
    → state_of (record { line = line; store = store; response = r; core = c })
    ≡ state_as (device_as line store h s.tables) s.live s.loading
unfolding state_of
state_parts line store r c h s e f = λ i. state_as (device_as line store (e i) (f i).tables) (f i).live (f i).loading

-- what the machine does and what the code's steps do
abbrev Same : Stepped → Told' → Type 0
Same s t = (state_of s.machine ≡ t.state) × (s.reply ≡ t.reply)

-- ---- between packets

again_same : (x : State) (n : ℕ) (payload : List ℕ) (times : ℕ) → Known x → held_of (holding_in n payload times) ≡ held_by n payload times
    → (leb 1 n && ltb times 3) ≡ true
    → Same (again (machine_of x) (holding_in n payload times))
    (tells (with_device x (with_held x.device (sent_again (held_by n payload times)))) (packet_of (take n payload)))
unfolding again machine_of
again_same x zero payload times k e a = absurd (false≢true a)
again_same x (suc n) payload times k e a =
    let t : ltb times 3 ≡ true = and_right (leb 1 (suc n)) (ltb times 3) a in
    let p = take (suc n) payload in
    let m = machine_of x in
    rw t (state_parts m.line m.store (holding p (times + 1)) m.core (sent_again (held_by (suc n) payload times)) (stored_in x) (ap sent_again e) k.back, refl)

idle_same : (x : State) (u v : Bool) (rest : Stepped) → Known x → held_sound x.device.held ≡ true
    → (u || (v && can_resend x.device.held)) ≡ true
    → Same (cond u (cancels (machine_of x)) (cond v (again (machine_of x) (machine_of x).response) rest)) (cond u (cancelled x) (resent x))
unfolding machine_of
idle_same x true v rest k h a =
    let m = machine_of x in
    (state_parts m.line m.store nothing m.core (held_as [] 0) (stored_in x) refl k.back, refl)
idle_same x false true rest k h a =
    let held = x.device.held in
    again_same x held.response.length held.response.payload held.times k (held_back held k.payload_long h) a
idle_same x false false rest k h a = absurd (false≢true a)

-- ---- a complete packet

ran_same : (x : State) → Known x → Same (runs (machine_of x) (payload_of (machine_of x))) (ran x)
unfolding runs machine_of
ran_same x k =
    let m = machine_of x in
    let p = payload_of m in
    let r : response_of m.core p ≡ responded p (stored_in x) = sym (k.responds_is p) in (
      state_parts idle m.store (holding (response_of m.core p) 0) (execute m.core p) (held_as (responded p (stored_in x)) 0) (executed p (stored_in x))
          (ap (λ (q : List ℕ). held_as q 0) r) (sym (k.runs_is p)),
      ap (λ (q : List ℕ). 0x06 ∷ packet_of q) r,
    )

refused_same : (x : State) → Known x → held_sound x.device.held ≡ true → Same (refuses (machine_of x)) (refused x)
unfolding machine_of
refused_same x k h =
    let m = machine_of x in
    (state_parts idle m.store m.response m.core x.device.held (stored_in x) (held_back x.device.held k.payload_long h) k.back, refl)

completed_same : (x : State) (a b : ℕ) → Known x → held_sound x.device.held ≡ true → Same (completes (machine_of x) a b) (completed x a b)
unfolding completes completed machine_of
completed_same x a b k h = cases (good_packet x.device.spoiled (payload_of (machine_of x)) a b)
  where
    cases : (t : Bool) → Same (cond t (runs (machine_of x) (payload_of (machine_of x))) (refuses (machine_of x))) (cond t (ran x) (refused x))
    cases true = ran_same x k
    cases false = refused_same x k h

-- ---- any byte that is answered

-- the state with reception elsewhere
abbrev in_state : State → Reception → State
in_state x r = with_device x (with_line x.device (line_of r x.device.spoiled x.device.count) x.device.store)

-- what is known is known with another line and reception store
pub known_line : (x : State) (line : Line) (store : List ℕ) → Known x → Known (with_device x (with_line x.device line store))
known_line x line store k = record {
  back = k.back;
  runs_is = k.runs_is;
  responds_is = k.responds_is;
  drops_is = k.drops_is;
  payload_long = k.payload_long;
}

reply_same : (r : Reception) (x : State) (b : ℕ) → Known (in_state x r) → held_sound x.device.held ≡ true
    → asks_in r (can_resend x.device.held) b ≡ true
    → Same (takes (machine_of (in_state x r)) b) (replied_in r (in_state x r) b)
unfolding takes taken machine_of
reply_same Idle x b k h a = idle_same (in_state x Idle) (eqb b 0x18) (eqb b 0x15) _ k h a
reply_same InData x b k h a = absurd (false≢true a)
reply_same After13h x b k h a = absurd (false≢true a)
reply_same FirstCheck x b k h a = absurd (false≢true a)
reply_same (SecondCheck c) x b k h a = completed_same (in_state x (SecondCheck c)) c b k h

module _ (x : State) (b : ℕ) (k : Known x) (h : held_sound x.device.held ≡ true) (a : asks_in x.device.reception (can_resend x.device.held) b ≡ true) where
  -- THE STATE after a byte that is answered
  pub replied_state : state_of (takes (machine_of x) b).machine ≡ (replied_in x.device.reception x b).state
  replied_state = (reply_same x.device.reception x b k h a).0

  -- THE REPLY to it
  pub replied_reply : (takes (machine_of x) b).reply ≡ (replied_in x.device.reception x b).reply
  replied_reply = (reply_same x.device.reception x b k h a).1
