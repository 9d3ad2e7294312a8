-- The laws of sums of polynomials.
use mathlib.Core.Path.{◌≡◌, refl, sym, ap, ap₂, ◌∙◌}
use mathlib.Core.Bool.{Bool, true, false}
use mathlib.Core.List.{List, [], ◌∷◌, ◌++◌}
use Prim.Native.Nat.{ℕ, zero, suc, ◌≤◌, ◌<◌}
use native.Mathlib.Nat.{le_of_suc-le-suc, not-suc-le-zero}
use lib.ListN.{length}
use Rattle.crc16.specs.Crc.{xor, ◌⊕◌, zeros}

pub xor_comm : (a b : Bool) → xor a b ≡ xor b a
xor_comm false false = refl
xor_comm false true = refl
xor_comm true false = refl
xor_comm true true = refl

xor_assoc : (a b c : Bool) → xor (xor a b) c ≡ xor a (xor b c)
xor_assoc false b c = refl
xor_assoc true false c = refl
xor_assoc true true false = refl
xor_assoc true true true = refl

pub xor_false : (a : Bool) → xor a false ≡ a
xor_false false = refl
xor_false true = refl

pub sum_nil : (p : List Bool) → p ⊕ [] ≡ p
unfolding ◌⊕◌
sum_nil [] = refl
sum_nil (a ∷ p) = refl

pub sum_comm : (p q : List Bool) → p ⊕ q ≡ q ⊕ p
unfolding ◌⊕◌
sum_comm [] q = sym (sum_nil q)
sum_comm (a ∷ p) [] = refl
sum_comm (a ∷ p) (b ∷ q) = ap₂ ◌∷◌ (xor_comm a b) (sum_comm p q)

pub sum_assoc : (p q s : List Bool) → p ⊕ q ⊕ s ≡ p ⊕ (q ⊕ s)
unfolding ◌⊕◌
sum_assoc [] q s = refl
sum_assoc (a ∷ p) [] s = refl
sum_assoc (a ∷ p) (b ∷ q) [] = refl
sum_assoc (a ∷ p) (b ∷ q) (c ∷ s) = ap₂ ◌∷◌ (xor_assoc a b c) (sum_assoc p q s)

-- the two last of three change places
pub sum_swap : (p q s : List Bool) → p ⊕ q ⊕ s ≡ p ⊕ s ⊕ q
sum_swap p q s = sum_assoc p q s ∙ ap (λ (l : List Bool). p ⊕ l) (sum_comm q s) ∙ sym (sum_assoc p s q)

-- a sum is as long as its longer part
pub sum_length : (p q : List Bool) → length q ≤ length p → length (p ⊕ q) ≡ length p
unfolding ◌⊕◌
sum_length [] [] h = refl
sum_length [] (b ∷ q) h = absurd (not-suc-le-zero h)
sum_length (a ∷ p) [] h = refl
sum_length (a ∷ p) (b ∷ q) h = ap suc (sum_length p q (le_of_suc-le-suc h))

pub sum_zeros : (p : List Bool) (n : ℕ) → n ≤ length p → p ⊕ zeros n ≡ p
unfolding ◌⊕◌ zeros
sum_zeros p zero h = sum_nil p
sum_zeros [] (suc n) h = absurd (not-suc-le-zero h)
sum_zeros (a ∷ p) (suc n) h = ap₂ ◌∷◌ (xor_false a) (sum_zeros p n (le_of_suc-le-suc h))

-- a zero after t changes no sum with a longer list
pub sum_pad : (t p : List Bool) → length t < length p → (t ++ (false ∷ [])) ⊕ p ≡ t ⊕ p
unfolding ◌⊕◌
sum_pad t [] h = absurd (not-suc-le-zero h)
sum_pad [] (b ∷ p) h = refl
sum_pad (a ∷ t) (b ∷ p) h = ap (λ (l : List Bool). xor a b ∷ l) (sum_pad t p (le_of_suc-le-suc h))
