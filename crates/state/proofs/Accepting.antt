-- What is known of a state where a call is not refused.
use mathlib.Core.Path.{◌≡◌, refl}
use mathlib.Core.Bool.{Bool, true, false, not, ◌&&◌, cond}
use Prim.Native.Nat.{ℕ, ◌≤◌}
use native.Mathlib.Omega.{arith}
use lib.ListN.{length}
use lib.Dec.{leb, ltb, eqb}
use borrow.Author.Tests.{ltb-false, leb-true, eqb-true}
use Rattle.answer.proofs.Parts.{and_left, and_right}
use Rattle.execution.specs.Stored.{sound_tables}
use Rattle.state.specs.declared.Held.{Held}
use Rattle.state.specs.declared.Device.{Device}
use Rattle.state.specs.State.{State, stored_in, is_idle}
use Rattle.state.specs.Sound.{is_sized, line_sound, held_sound, sound, refusal_of}

-- ---- no refusal

-- room, stores of their size, and a sound state
pub record Accepted (room : ℕ) (x : State) : Type 0 where
  pub roomy : 64 ≤ room
  pub sized : is_sized x ≡ true
  pub is_sound : sound x ≡ true

pub accepted : (room : ℕ) (x : State) → refusal_of room x ≡ 0 → Accepted room x
unfolding refusal_of
accepted room x e = cases (ltb room 64) refl (is_sized x) refl (sound x) refl e
  where
    cases : (a : Bool) → ltb room 64 ≡ a → (b : Bool) → is_sized x ≡ b → (c : Bool) → sound x ≡ c → ◌≡◌ {A = ℕ} (cond a 1 (cond (not b) 2 (cond (not c) 3 0))) 0 → Accepted room x
    cases true p b q c r f = absurd (omega (arith, f))
    cases false p false q c r f = absurd (omega (arith, f))
    cases false p true q false r f = absurd (omega (arith, f))
    cases false p true q true r f = record { roomy = ltb-false room 64 p; sized = q; is_sound = r }

-- both stores have their size
pub sized_both : (x : State) → is_sized x ≡ true → (length x.live ≡ 32768) × (length x.loading ≡ 32768)
unfolding is_sized
sized_both x e =
    let a = eqb (length x.live) 32768 in
    let b = eqb (length x.loading) 32768 in
    (eqb-true (length x.live) 32768 (and_left a b e), eqb-true (length x.loading) 32768 (and_right a b e))

-- ---- a sound state

-- a held response that is sound is at most 19 bytes
pub held_short : (h : Held) → held_sound h ≡ true → h.response.length ≤ 19
unfolding held_sound
held_short h e = leb-true h.response.length 19 (and_left _ _ e)

-- a sound line has placed at most 2,048 bytes
pub line_short : (d : Device) → line_sound d ≡ true → d.count ≤ 2048
unfolding line_sound
line_short d e = cases (is_idle d.reception) e
  where
    cases : (t : Bool) → cond t (eqb d.count 0 && not d.spoiled) (leb d.count 2048) ≡ true → d.count ≤ 2048
    cases true f = let z = eqb-true d.count 0 (and_left (eqb d.count 0) (not d.spoiled) f) in omega (arith, z)
    cases false f = leb-true d.count 2048 f

-- the rules of a sound state
module _ (x : State) (e : sound x ≡ true) where
  pub line_good : line_sound x.device ≡ true
  unfolding sound
  line_good = and_left (line_sound x.device) (held_sound x.device.held && sound_tables (stored_in x)) e

  pub held_good : held_sound x.device.held ≡ true
  unfolding sound
  held_good = and_left (held_sound x.device.held) (sound_tables (stored_in x)) (and_right (line_sound x.device) (held_sound x.device.held && sound_tables (stored_in x)) e)

  pub tables_good : sound_tables (stored_in x) ≡ true
  unfolding sound
  tables_good = and_right (held_sound x.device.held) (sound_tables (stored_in x)) (and_right (line_sound x.device) (held_sound x.device.held && sound_tables (stored_in x)) e)
