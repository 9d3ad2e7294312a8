-- Tags: their size in its place.
use mathlib.Core.Path.{◌≡◌, refl}
use mathlib.Core.Bool.{Bool, true, false, cond}
use mathlib.Core.List.{List, [], ◌∷◌, ◌++◌}
use Prim.Native.Nat.{ℕ, zero, suc, ◌≤◌}
use native.Mathlib.Omega.{arith}
use lib.ListN.{take}
use lib.Dec.{ltb}
use Rattle.objects.specs.Tag.{bad_first, calls_for_more, size_of_two, tag_size}

-- ---- a tag in its place

-- a tag's size by its tests: a bad first byte; whether it calls for more; the size then
abbrev by : Bool → Bool → ℕ → ℕ
by s t m = cond s 0 (cond t m 1)

abbrev two_if : Bool → ℕ
two_if u = cond u 2 0

-- what stands after a tag does not change it
pub tag_append : (xs ys : List ℕ) → (tag_size xs ≡ 0 → ⊥) → tag_size (xs ++ ys) ≡ tag_size xs
unfolding tag_size size_of_two
tag_append [] ys h = absurd (h refl)
tag_append (a ∷ []) ys h = one (bad_first a) (calls_for_more a) h
  where
    one : (s t : Bool) → (by s t 0 ≡ 0 → ⊥) → by s t (size_of_two ys) ≡ by s t 0
    one true t k = refl
    one false false k = refl
    one false true k = absurd (k refl)
tag_append (a ∷ b ∷ xs) ys h = refl

-- nor does it need what stands after it
pub tag_take : (xs : List ℕ) (n : ℕ) → tag_size xs ≤ n → tag_size (take n xs) ≡ tag_size xs
unfolding tag_size size_of_two
tag_take [] zero h = refl
tag_take [] (suc n) h = refl
tag_take (a ∷ xs) zero h = none (by (bad_first a) (calls_for_more a) (size_of_two xs)) h
  where
    none : (m : ℕ) → m ≤ 0 → 0 ≡ m
    none m k = omega arith
tag_take (a ∷ []) (suc n) h = one n
  where
    one : (m : ℕ) → tag_size (take (suc m) (a ∷ [])) ≡ tag_size (a ∷ [])
    one zero = refl
    one (suc m) = refl
tag_take (a ∷ b ∷ xs) (suc zero) h = one (bad_first a) (calls_for_more a) (ltb b 0x80) h
  where
    one : (s t u : Bool) → by s t (two_if u) ≤ 1 → by s t 0 ≡ by s t (two_if u)
    one true t u k = refl
    one false false u k = refl
    one false true false k = refl
    one false true true k = absurd (let z : 2 ≤ 1 = k in omega arith)
tag_take (a ∷ b ∷ xs) (suc (suc n)) h = refl
