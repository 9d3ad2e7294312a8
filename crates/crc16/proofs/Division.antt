-- The laws of the long division: the remainder of a sum is the sum of the remainders, and the division is one (a polynomial is a
-- multiple of the generator and its remainder, added).
use mathlib.Core.Path.{◌≡◌, refl, sym, ap, ap₂, ◌∙◌}
use mathlib.Core.Bool.{Bool, true, false}
use mathlib.Core.List.{List, [], ◌∷◌, ◌++◌}
use Prim.Native.Nat.{ℕ, zero, suc, ◌+◌, ◌-◌, ◌≤◌}
use native.Mathlib.Nat.{add-sub_cancel}
use native.Mathlib.Omega.{arith}
use lib.ListN.{length, drop}
use Rattle.crc16.specs.Crc.{◌⊕◌, zeros, generator, divide, remainder}
use Rattle.crc16.specs.Claims.{product, quotient}
use Rattle.crc16.proofs.Sums.{sum_comm, sum_assoc, sum_swap, sum_zeros, sum_length}

-- the generator without its leading coefficient
abbrev pub low : List Bool
low = drop 1 generator

-- how many steps a division takes
pub steps : (n : ℕ) (p : List Bool) → length p ≡ n + 16 → remainder p ≡ divide n p
unfolding remainder
steps n p h = ap (λ (k : ℕ). divide k p) (ap (λ (k : ℕ). k - 16) h ∙ add-sub_cancel n 16)

-- ---- linearity

-- subtracting twice is subtracting nothing
pub sum_twice : (p : List Bool) → 16 ≤ length p → p ⊕ low ⊕ low ≡ p
unfolding ◌⊕◌ zeros generator
sum_twice p h = sum_assoc p low low ∙ sum_zeros p 16 h

sum_both : (p q : List Bool) → 16 ≤ length p → p ⊕ low ⊕ (q ⊕ low) ≡ p ⊕ q
sum_both p q h =
    ap (λ (l : List Bool). p ⊕ low ⊕ l) (sum_comm q low) ∙ sym (sum_assoc (p ⊕ low) low q) ∙ ap (λ (l : List Bool). l ⊕ q) (sum_twice p h)

divide_sum : (n : ℕ) (p q : List Bool) → length p ≡ n + 16 → length q ≡ n + 16 → divide n (p ⊕ q) ≡ divide n p ⊕ divide n q
unfolding divide ◌⊕◌ generator
divide_sum zero p q hp hq = refl
divide_sum (suc n) [] q hp hq = absurd (omega arith)
divide_sum (suc n) (a ∷ p) [] hp hq = absurd (omega arith)
divide_sum (suc n) (false ∷ p) (false ∷ q) hp hq = divide_sum n p q (omega arith) (omega arith)
divide_sum (suc n) (false ∷ p) (true ∷ q) hp hq =
    let e : length (q ⊕ low) ≡ length q = sum_length q low (omega arith) in
    ap (divide n) (sum_assoc p q low) ∙ divide_sum n p (q ⊕ low) (omega arith) (omega arith)
divide_sum (suc n) (true ∷ p) (false ∷ q) hp hq =
    let e : length (p ⊕ low) ≡ length p = sum_length p low (omega arith) in
    ap (divide n) (sum_swap p q low) ∙ divide_sum n (p ⊕ low) q (omega arith) (omega arith)
divide_sum (suc n) (true ∷ p) (true ∷ q) hp hq =
    let e : length (p ⊕ low) ≡ length p = sum_length p low (omega arith) in
    let f : length (q ⊕ low) ≡ length q = sum_length q low (omega arith) in
    ap (divide n) (sym (sum_both p q (omega arith)))
    ∙ divide_sum n (p ⊕ low) (q ⊕ low) (omega arith) (omega arith)

-- LINEARITY: the remainder of a sum is the sum of the remainders
pub remainder_sum : (p q : List Bool) → length p ≡ length q → 16 ≤ length p → remainder (p ⊕ q) ≡ remainder p ⊕ remainder q
remainder_sum p q e h =
    let n : ℕ = length p - 16 in
    let hp : length p ≡ n + 16 = omega arith in
    let hq : length q ≡ n + 16 = omega arith in
    steps n (p ⊕ q) (sum_length p q (omega arith) ∙ hp)
    ∙ divide_sum n p q hp hq
    ∙ ap₂ ◌⊕◌ (sym (steps n p hp)) (sym (steps n q hq))

-- ---- the division is one

-- p is the generator times the quotient, and the remainder
division : (n : ℕ) (p : List Bool) → length p ≡ n + 16 → p ≡ product (quotient n p) ⊕ (zeros n ++ divide n p)
unfolding product quotient divide zeros ◌⊕◌ generator
division zero p h = sym (sum_comm (zeros 16) p ∙ sum_zeros p 16 (omega arith))
division (suc n) [] h = absurd (omega arith)
division (suc n) (false ∷ p) h = ap (λ (l : List Bool). false ∷ l) (division n p (omega arith))
division (suc n) (true ∷ p) h =
    let e : length (p ⊕ low) ≡ length p = sum_length p low (omega arith) in
    let m : List Bool = product (quotient n (p ⊕ low)) in
    let r : List Bool = zeros n ++ divide n (p ⊕ low) in
    ap (λ (l : List Bool). true ∷ l)
    (sym (sum_twice p (omega arith)) ∙ ap (λ (l : List Bool). l ⊕ low) (division n (p ⊕ low) (omega arith)) ∙ sum_comm (m ⊕ r) low ∙ sym (sum_assoc low m r))

-- the same of the remainder
pub remainder_is : (p : List Bool) → 16 ≤ length p → p ≡ product (quotient (length p - 16) p) ⊕ (zeros (length p - 16) ++ remainder p)
unfolding remainder
remainder_is p h = division (length p - 16) p (omega arith)

-- it has sixteen coefficients
divide_length : (n : ℕ) (p : List Bool) → length p ≡ n + 16 → length (divide n p) ≡ 16
unfolding divide generator ◌⊕◌
divide_length zero p h = omega arith
divide_length (suc n) [] h = absurd (omega arith)
divide_length (suc n) (false ∷ p) h = divide_length n p (omega arith)
divide_length (suc n) (true ∷ p) h =
    let e : length (p ⊕ low) ≡ length p = sum_length p low (omega arith) in
    divide_length n (p ⊕ low) (omega arith)

pub remainder_length : (p : List Bool) → 16 ≤ length p → length (remainder p) ≡ 16
unfolding remainder
remainder_length p h = divide_length (length p - 16) p (omega arith)
