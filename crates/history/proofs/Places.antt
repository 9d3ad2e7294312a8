-- The places of 16h and 17h in a text.
use mathlib.Core.Path.{◌≡◌, refl}
use mathlib.Core.Bool.{Bool, true, false, ◌||◌, cond, true≢false}
use mathlib.Core.List.{List, [], ◌∷◌}
use Prim.Native.Nat.{ℕ, suc, ◌≤◌}
use native.Mathlib.Omega.{arith}
use lib.ListN.{length}
use lib.Dec.{eqb}
use Rattle.history.specs.Text.{has, up_to, after_first, after_last, rest_in}

-- where neither side holds, the first does not
pub or_left : (a b : Bool) → (a || b) ≡ false → a ≡ false
or_left true b e = e
or_left false b e = refl

-- and the second does not
pub or_right : (a b : Bool) → (a || b) ≡ false → b ≡ false
or_right true b e = absurd (true≢false e)
or_right false b e = e

-- with no 16h, all stands after the last
pub last_none : (z : List ℕ) → has 0x16 z ≡ false → after_last 0x16 z ≡ z
unfolding has after_last
last_none [] e = refl
last_none (x ∷ z) e = rw (or_right (eqb x 0x16) (has 0x16 z) e, or_left (eqb x 0x16) (has 0x16 z) e) refl

-- what is nowhere is not after the last 16h
pub last_has : (k : ℕ) (z : List ℕ) → has k z ≡ false → has k (after_last 0x16 z) ≡ false
unfolding has after_last
last_has k [] e = refl
last_has k (x ∷ z) e = cases (has 0x16 z) (eqb x 0x16) (last_has k z (or_right (eqb x k) (has k z) e))
  where
    cases : (t u : Bool) → has k (after_last 0x16 z) ≡ false → has k (cond t (after_last 0x16 z) (cond u z (x ∷ z))) ≡ false
    cases true u ih = ih
    cases false true ih = or_right (eqb x k) (has k z) e
    cases false false ih = e

-- after the last 16h there is no 16h
pub last_no_syn : (z : List ℕ) → has 0x16 (after_last 0x16 z) ≡ false
unfolding has after_last
last_no_syn [] = refl
last_no_syn (x ∷ z) = cases (has 0x16 z) (eqb x 0x16) refl refl (last_no_syn z)
  where
    cases : (t u : Bool) → has 0x16 z ≡ t → eqb x 0x16 ≡ u → has 0x16 (after_last 0x16 z) ≡ false → has 0x16 (cond t (after_last 0x16 z) (cond u z (x ∷ z))) ≡ false
    cases true u h k ih = ih
    cases false true h k ih = h
    cases false false h k ih = rw (h, k) refl

-- before the first 17h there is no 17h
pub up_to_none : (ys : List ℕ) → has 0x17 (up_to 0x17 ys) ≡ false
unfolding has up_to
up_to_none [] = refl
up_to_none (y ∷ ys) = cases (eqb y 0x17) refl (up_to_none ys)
  where
    cases : (t : Bool) → eqb y 0x17 ≡ t → has 0x17 (up_to 0x17 ys) ≡ false → has 0x17 (cond t [] (y ∷ up_to 0x17 ys)) ≡ false
    cases true e ih = refl
    cases false e ih = rw (e, ih) refl

-- what stands after the first k is no longer than the text
pub shorter : (k : ℕ) (xs : List ℕ) → length (after_first k xs) ≤ length xs
unfolding after_first
shorter k [] = omega arith
shorter k (x ∷ xs) = cases (eqb x k) (shorter k xs)
  where
    cases : (t : Bool) → length (after_first k xs) ≤ length xs → length (cond t xs (after_first k xs)) ≤ suc (length xs)
    cases true h = omega arith
    cases false h = omega arith

-- and so what stands after the 17h
pub rest_shorter : (xs : List ℕ) → length (rest_in xs) ≤ length xs
unfolding rest_in
rest_shorter xs =
    let a = shorter 0x17 (after_first 0x16 xs) in
    let b = shorter 0x16 xs in
    omega arith
