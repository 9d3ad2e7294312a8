-- What holds of every device call by its promise: one result, a refused call changes nothing, and a piece is taken within its length.
use mathlib.Core.Path.{◌≡◌, refl, sym, ap, subst, ◌∙◌}
use mathlib.Core.Logic.{◌≢◌}
use mathlib.Core.Bool.{Bool, true, false, cond}
use mathlib.Core.List.{List, [], ◌∷◌}
use Prim.Native.Nat.{ℕ, zero, suc, ◌≤◌}
use native.Mathlib.Omega.{arith}
use lib.ListN.{length}
use Rattle.state.specs.declared.Device.{Device}
use Rattle.state.specs.State.{State}
use Rattle.state.specs.Sound.{refusal_of}
use Rattle.device.specs.Machine.{Machine, Stepped, Called, step, is_none, one_more, call}
use Rattle.device.specs.Events.Event.{byte}
use Rattle.device.specs.Between.{machine_of}
use Rattle.std.specs.Prelude.{Result, Ok, Err}
use Rattle.answer.specs.declared.refusal.Refusal.{Refusal}
use Rattle.answer.proofs.Promises.{some_number, same_number, same_answer}
use Rattle.device.specs.declared.Taken.{Taken}
use Rattle.device.specs.Promise.{Started, Received, Left, after_piece, unless, Gives, Answers, Starts, received, started}
use Rattle.device.specs.Claims.{Unchanged}

-- ---- ONE RESULT: two results of a call that its promise allows for one entry are one

-- `receive`, `timeout` and `restart`: the answer, and every byte of `out` and of both stores
pub answers_one : (x : State) (left : Left) (out : List ℕ) (r s : Received) (a b c a' b' c' : List ℕ)
    → Answers x left out r a b c → Answers x left out s a' b' c' → (r ≡ s) × (a ≡ a') × (b ≡ b') × (c ≡ c')
answers_one x left out r s a b c a' b' c' g h =
    (g.result ∙ sym h.result, g.said ∙ sym h.said, g.live_is ∙ sym h.live_is, g.loading_is ∙ sym h.loading_is)

-- `start`: the answer, and every byte of both stores
pub starts_one : (live loading : List ℕ) (r s : Started) (a b a' b' : List ℕ)
    → Starts live loading r a b → Starts live loading s a' b' → (r ≡ s) × (a ≡ a') × (b ≡ b')
starts_one live loading r s a b a' b' g h =
    (g.result ∙ sym h.result, g.live_is ∙ sym h.live_is, g.loading_is ∙ sym h.loading_is)

-- ---- a refused call

unchanged : (n : ℕ) (x : State) (left : Left) (out : List ℕ) (r : Received) (a b c : List ℕ) → n ≢ 0
    → Gives n (unless n x left) out r a b c → Unchanged x out r a b c
unchanged zero x left out r a b c h g = absurd (h refl)
unchanged (suc n) x left out r a b c h g = record {
  device_stays = ap {B = Device} (λ (q : Received). q.device) g.result;
  none_taken = ap {B = ℕ} (λ (q : Received). q.taken) g.result;
  none_written = ap {B = ℕ} (λ (q : Received). q.written) g.result;
  out_stays = g.said;
  live_stays = g.live_is;
  loading_stays = g.loading_is;
}

-- A REFUSED CALL changes nothing
pub refused_unchanged : (x : State) (left : Left) (out : List ℕ) (r : Received) (out' live' loading' : List ℕ) → refusal_of (length out) x ≢ 0
    → Answers x left out r out' live' loading' → Unchanged x out r out' live' loading'
refused_unchanged x left out r out' live' loading' h g = unchanged (refusal_of (length out) x) x left out r out' live' loading' h g

-- ---- how much of a piece a call takes

taken_more : (s : Stepped) (c : Called) (n : ℕ) (t : Bool) → c.taken ≤ n
    → (1 ≤ (cond t (one_more c) (record { machine = s.machine; taken = 1; reply = s.reply })).taken)
    × ((cond t (one_more c) (record { machine = s.machine; taken = 1; reply = s.reply })).taken ≤ suc n)
taken_more s c n true h = (omega arith, omega arith)
taken_more s c n false h = (omega arith, omega arith)

abbrev Within : List ℕ → Type 0
Within piece = (m : Machine) → (call m piece).taken ≤ length piece

within_none : Within []
unfolding call
within_none m = omega arith

within_more : (b : ℕ) (bs : List ℕ) → Within bs → (m : Machine) → (1 ≤ (call m (b ∷ bs)).taken) × ((call m (b ∷ bs)).taken ≤ length (b ∷ bs))
unfolding call
within_more b bs ih m =
    let s = step m (byte b) in
    taken_more s (call s.machine bs) (length bs) (is_none s.reply) (ih s.machine)

within : (piece : List ℕ) → Within piece
within [] = within_none
within (b ∷ bs) = λ m. (within_more b bs (within bs) m).1

-- no call tells more bytes than the piece has
pub call_taken : (m : Machine) (piece : List ℕ) → (call m piece).taken ≤ length piece
call_taken m piece = within piece m

-- a piece with a byte in it gets on
pub some_taken : (m : Machine) (b : ℕ) (bs : List ℕ) → 1 ≤ (call m (b ∷ bs)).taken
some_taken m b bs = (within_more b bs (within bs) m).0

piece_taken : (n : ℕ) (x : State) (piece : List ℕ) → (unless n x (after_piece piece x)).taken ≤ length piece
unfolding after_piece
piece_taken zero x piece = call_taken (machine_of x) piece
piece_taken (suc n) x piece = omega arith

-- a call is promised to take no more bytes than the piece has
pub taken_within : (x : State) (piece out : List ℕ) (r : Received) (out' live' loading' : List ℕ)
    → Answers x (after_piece piece x) out r out' live' loading' → r.taken ≤ length piece
taken_within x piece out r out' live' loading' g =
    let e : r.taken ≡ (unless (refusal_of (length out) x) x (after_piece piece x)).taken = ap {B = ℕ} (λ (q : Received). q.taken) g.result in
    subst (λ (n : ℕ). n ≤ length piece) (sym e) (piece_taken (refusal_of (length out) x) x piece)

-- ---- an answer in numbers stands for one answer

-- two devices and answers that come to the same numbers are one
pub received_one : (d e : Device) (r s : Result Taken Refusal) → received d r ≡ received e s → (d ≡ e) × (r ≡ s)
received_one d e (Ok t) (Ok u) i = (
  ap (λ (q : Received). q.device) i,
  (λ j. Ok (record { taken = (i j).taken; written = (i j).written })),
)
received_one d e (Ok t) (Err b) i = absurd (some_number b (sym (ap (λ (q : Received). q.refusal) i)))
received_one d e (Err a) (Ok u) i = absurd (some_number a (ap (λ (q : Received). q.refusal) i))
received_one d e (Err a) (Err b) i = (
  ap (λ (q : Received). q.device) i,
  ap (λ (k : Refusal). let z : Result Taken Refusal = Err k in z) (same_number a b (ap (λ (q : Received). q.refusal) i)),
)

pub started_one : (d e : Device) (r s : Result (Unit {0}) Refusal) → started d r ≡ started e s → (d ≡ e) × (r ≡ s)
started_one d e r s i = (ap (λ (q : Started). q.device) i, same_answer r s (ap (λ (q : Started). q.refusal) i))
