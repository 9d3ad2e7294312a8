-- Both ways between the state and the machine: a sound state's machine has that state, and a legal machine's state has that machine and is sound.
use mathlib.Core.Path.{◌≡◌, refl, sym, ap, ◌∙◌}
use mathlib.Core.Bool.{Bool, true, false, not, ◌&&◌, ◌||◌, cond, false≢true}
use mathlib.Core.List.{List, [], ◌∷◌, ◌++◌}
use Prim.Native.Nat.{ℕ, zero, suc, ◌-◌, ◌≤◌}
use native.Mathlib.Omega.{arith}
use lib.ListN.{length, take, drop}
use lib.Seq.{take_at, drop_at}
use lib.Dec.{leb, eqb}
use borrow.Author.Tests.{le-leb, leb-true, eq-eqb, eqb-true, ne_eqb, not-true}
use Rattle.answer.specs.Pieces.{every}
use Rattle.answer.proofs.Parts.{and_left, and_right}
use Rattle.reception.specs.declared.Reception.{Reception}
use Rattle.reception.specs.declared.Reception.TheVariants.{Idle, InData, After13h, FirstCheck, SecondCheck}
use Rattle.records.specs.Store.{zeros, all_zero}
use Rattle.records.proofs.Stores.{zeros_all}
use Rattle.command.specs.Texts.{ascii, starts, all_text}
use Rattle.execution.specs.CommandTable.{same}
use Rattle.execution.specs.Responses.{one_of, six_bytes, gives_version, is_response}
use Rattle.execution.specs.Stored.{stored_of}
use Rattle.execution.specs.Claims.{Sized}
use Rattle.execution.proofs.Between.{core_back, legal_sized, legal_sound, sound_legal as tables-legal}
use Rattle.state.specs.State.{State, line_in, stored_in, is_idle}
use Rattle.state.specs.Sound.{is_sized, line_sound, held_sound, sound}
use Rattle.state.specs.Claims.{Arrays}
use Rattle.state.proofs.Accepting.{sized_both, line_good, held_good, tables_good}
use Rattle.device.specs.Machine.{Holding, Machine}
use Rattle.device.specs.Machine.Holding.{nothing, holding}
use Rattle.device.specs.Between.{holding_in, machine_of, held_of, state_of}
use Rattle.device.specs.Claims.{LegalLine, LegalHolding, Legal}
use Rattle.device.proofs.Replies.{Known, held_back, state_parts}
use Rattle.device.proofs.Knowing.{known}

-- ---- from the state and back

-- a state's machine has that state
pub state_back : (x : State) → Known x → held_sound x.device.held ≡ true → state_of (machine_of x) ≡ x
unfolding machine_of
state_back x k h =
    state_parts (line_in x.device) x.device.store (machine_of x).response (machine_of x).core x.device.held (stored_in x)
    (held_back x.device.held k.payload_long h) k.back

-- ---- a response has 1 to 19 bytes

either : (C : Type 0) (a b : Bool) → (a || b) ≡ true → (a ≡ true → C) → (b ≡ true → C) → C
either C true b e f g = f refl
either C false b e f g = g e

same_long : (q p : List ℕ) → same q p ≡ true → length q ≡ length p
unfolding same
same_long q p e = eqb-true (length q) (length p) (and_left (eqb (length q) (length p)) (starts q p) e)

is_six : List ℕ → Bool
is_six q = eqb (length q) 6

one_six : (p : List ℕ) (qs : List (List ℕ)) → every is_six qs ≡ true → one_of p qs ≡ true → length p ≡ 6
unfolding one_of every is_six
one_six p [] h e = absurd (false≢true e)
one_six p (q ∷ qs) h e =
    either (length p ≡ 6) (same q p) (one_of p qs) e
    (λ f. sym (same_long q p f) ∙ eqb-true (length q) 6 (and_left (is_six q) (every is_six qs) h))
    (one_six p qs (and_right (is_six q) (every is_six qs) h))

all_six : every is_six six_bytes ≡ true
unfolding every is_six
all_six = refl

version_long : (p : List ℕ) → gives_version p ≡ true → length p ≡ 19
unfolding gives_version
version_long p e = eqb-true (length p) 19 (and_left (eqb (length p) 19) (starts (ascii "GTS000010") p && all_text (drop 9 p)) e)

-- a response has at least one byte and at most 19
pub response_long : (p : List ℕ) → is_response p ≡ true → (1 ≤ length p) × (length p ≤ 19)
unfolding is_response
response_long p e =
    either ((1 ≤ length p) × (length p ≤ 19)) (one_of p six_bytes) (gives_version p) e
    (λ f. let l = one_six p six_bytes all_six f in (omega arith, omega arith))
    (λ f. let l = version_long p f in (omega arith, omega arith))

-- ---- a machine that can be

line_sound_lem : (r : Reception) (spoiled : Bool) (count : ℕ) → LegalLine r spoiled count → cond (is_idle r) (eqb count 0 && not spoiled) (leb count 2048) ≡ true
line_sound_lem Idle spoiled count h = rw (h.0, h.1) refl
line_sound_lem InData spoiled count h = le-leb count 2048 h
line_sound_lem After13h spoiled count h = le-leb count 2048 h
line_sound_lem FirstCheck spoiled count h = le-leb count 2048 h
line_sound_lem (SecondCheck a) spoiled count h = le-leb count 2048 h

held_sound_lem : (r : Holding) → LegalHolding r → held_sound (held_of r) ≡ true
unfolding held_sound
held_sound_lem nothing h = unfold all_zero in refl
held_sound_lem (holding p n) h =
    let l = response_long p h.0 in
    let z : all_zero (drop (length p) (p ++ zeros (19 - length p))) ≡ true = ap all_zero (drop_at p (zeros (19 - length p)) (length p) refl) ∙ zeros_all (19 - length p) in
    let f : is_response (take (length p) (p ++ zeros (19 - length p))) ≡ true = ap is_response (take_at p (zeros (19 - length p)) (length p) refl) ∙ h.0 in
    let q : eqb (length p) 0 ≡ false = ne_eqb (length p) 0 (λ e. omega arith) in
    rw (le-leb (length p) 19 l.1, z, q, f, le-leb n 3 h.1) refl

holding_back : (r : Holding) → LegalHolding r → holding_in (held_of r).response.length (held_of r).response.payload (held_of r).times ≡ r
holding_back nothing h = refl
holding_back (holding [] n) h = let l = response_long [] h.0 in absurd (omega arith)
holding_back (holding (x ∷ p) n) h = ap (λ (q : List ℕ). holding q n) (take_at (x ∷ p) (zeros (19 - length (x ∷ p))) (length (x ∷ p)) refl)

-- a legal machine's state has that machine
pub machine_back : (m : Machine) → Legal m → machine_of (state_of m) ≡ m
unfolding machine_of state_of
machine_back m g =
    let a = holding_back m.response g.response_legal in
    let b = core_back m.core g.core_legal in
    λ i. record { line = m.line; store = m.store; response = a i; core = b i }

-- both its stores have their size
pub legal_size : (m : Machine) → Legal m → is_sized (state_of m) ≡ true
unfolding is_sized state_of
legal_size m g =
    let z = legal_sized m.core g.core_legal in
    rw (eq-eqb (length (stored_of m.core).live) 32768 z.live_long, eq-eqb (length (stored_of m.core).loading) 32768 z.loading_long) refl

-- and it is sound
pub legal_good : (m : Machine) → Legal m → sound (state_of m) ≡ true
unfolding sound line_sound state_of
legal_good m g =
    rw (
      line_sound_lem m.line.state m.line.spoiled m.line.count g.line_legal,
      held_sound_lem m.response g.response_legal,
      legal_sound m.core g.core_legal,
    ) refl

-- ---- and from a sound state

line_legal_by : (r : Reception) (spoiled : Bool) (count : ℕ) → cond (is_idle r) (eqb count 0 && not spoiled) (leb count 2048) ≡ true → LegalLine r spoiled count
line_legal_by Idle spoiled count e =
    (not-true spoiled (and_right (eqb count 0) (not spoiled) e), eqb-true count 0 (and_left (eqb count 0) (not spoiled) e))
line_legal_by InData spoiled count e = leb-true count 2048 e
line_legal_by After13h spoiled count e = leb-true count 2048 e
line_legal_by FirstCheck spoiled count e = leb-true count 2048 e
line_legal_by (SecondCheck a) spoiled count e = leb-true count 2048 e

held_legal_by : (n : ℕ) (payload : List ℕ) (times : ℕ)
    → (leb n 19 && (all_zero (drop n payload) && cond (eqb n 0) (eqb times 0) (is_response (take n payload) && leb times 3))) ≡ true → LegalHolding (holding_in n payload times)
held_legal_by zero payload times e = tt
held_legal_by (suc n) payload times e =
    let a = leb (suc n) 19 in
    let b = all_zero (drop (suc n) payload) in
    let c = is_response (take (suc n) payload) && leb times 3 in
    let f : c ≡ true = and_right b c (rw (ne_eqb (suc n) 0 (λ z. omega (arith, z))) at (and_right a _ e)) in
    (and_left (is_response (take (suc n) payload)) (leb times 3) f, leb-true times 3 (and_right (is_response (take (suc n) payload)) (leb times 3) f))

-- THE GOOD STATES ARE THE STATES OF LEGAL MACHINES: a sound state's machine is legal, and has that state
pub sound_legal : (x : State) → Arrays x.device → is_sized x ≡ true → sound x ≡ true → Legal (machine_of x)
unfolding machine_of line_sound held_sound
sound_legal x a z e =
    let (l, m) = sized_both x z in
    let s : Sized (stored_in x) = record { versions_long = a.versions_long; version_long = a.version_long; live_long = l; loading_long = m } in
    record {
      line_legal = line_legal_by x.device.reception x.device.spoiled x.device.count (line_good x e);
      store_long = a.store_long;
      response_legal = held_legal_by x.device.held.response.length x.device.held.response.payload x.device.held.times (held_good x e);
      core_legal = tables-legal (stored_in x) s (tables_good x e);
    }

pub sound_back : (x : State) → Arrays x.device → is_sized x ≡ true → sound x ≡ true → state_of (machine_of x) ≡ x
sound_back x a z e = state_back x (known x a z e) (held_good x e)
