-- The laws of `specs/Crc.antt`'s bits of a number, under the operations of a register.
use mathlib.Core.Path.{◌≡◌, refl, sym, ap, ap₂, ◌∙◌}
use mathlib.Core.Bool.{Bool, true, false}
use mathlib.Core.List.{List, [], ◌∷◌, ◌++◌}
use Prim.Native.Nat.{ℕ, zero, suc, ◌+◌, ◌*◌, ◌/◌, ◌%◌, ◌^◌, ◌<◌}
use native.Mathlib.Nat.{mod-one, pow-suc, add-zero, zero-add, mul-add-div_right, div-eq_of_lt, mul-add-mod_self_right, mod-eq_of_lt}
use native.Mathlib.Numerals.{add-one, one-add}
use native.Mathlib.Omega.{arith}
use lib.Bits.{bit_and, bit_xor, and_mask, xor_shr, xor_mod}
use lib.Dec.{eqb}
use lib.ListN.{length}
use lib.Pow.{field, mod-mod-pow, mod-pow-add, shl-shr, shr-shr}
use Rattle.crc16.specs.Crc.{xor, ◌⊕◌, odd, bits, digit, number}

pub bits_length : (n x : ℕ) → length (bits n x) ≡ n
unfolding bits
bits_length zero x = refl
bits_length (suc n) x = ap suc (bits_length n x)

-- ---- the lowest bit

odd_mod : (y j : ℕ) → odd (y % 2 ^ suc j) ≡ odd y
unfolding odd
odd_mod y j = ap (λ (n : ℕ). eqb (y % 2 ^ n % 2) 1) (sym (add-one j)) ∙ ap (λ (x : ℕ). eqb x 1) (mod-mod-pow y j 1)

small_xor : (x y : ℕ) → x < 2 → y < 2 → eqb (bit_xor x y) 1 ≡ xor (eqb x 1) (eqb y 1)
small_xor zero y hx hy = refl
small_xor (suc zero) zero hx hy = refl
small_xor (suc zero) (suc zero) hx hy = refl
small_xor (suc zero) (suc (suc y)) hx hy = absurd (omega arith)
small_xor (suc (suc x)) y hx hy = absurd (omega arith)

pub odd_xor : (a b : ℕ) → odd (bit_xor a b) ≡ xor (odd a) (odd b)
unfolding odd
odd_xor a b = ap (λ (x : ℕ). eqb x 1) (xor_mod a b 1) ∙ small_xor (a % 2) (b % 2) (omega arith) (omega arith)

small_digit : (x : ℕ) → x < 2 → digit (eqb x 1) ≡ x
small_digit zero h = refl
small_digit (suc zero) h = refl
small_digit (suc (suc x)) h = absurd (omega arith)

digit_odd : (x : ℕ) → digit (odd x) ≡ x % 2
unfolding odd
digit_odd x = small_digit (x % 2) (omega arith)

-- ---- the operations

-- the bits that are kept
pub bits_mod : (n j x : ℕ) → bits n (x % 2 ^ (j + n)) ≡ bits n x
unfolding bits
bits_mod zero j x = refl
bits_mod (suc n) j x =
    ap (λ (k : ℕ). bits (suc n) (x % 2 ^ k)) (omega arith)
    ∙ ap₂ ◌∷◌ (ap odd (field x (suc j) n) ∙ odd_mod (x / 2 ^ n) j) (bits_mod n (suc j) x)

-- a shift to the left by one
pub bits_shl : (n x : ℕ) → bits (suc n) (x * 2) ≡ bits n x ++ (false ∷ [])
unfolding bits odd
bits_shl zero x = let e : x * 2 / 1 % 2 ≡ 0 = omega arith in ap (λ (k : ℕ). eqb k 1 ∷ []) e
bits_shl (suc n) x =
    ap₂ ◌∷◌
    (ap odd (ap (λ (k : ℕ). x * 2 / 2 ^ k) (sym (one-add n)) ∙ sym (shr-shr (x * 2) 1 n) ∙ ap (λ (k : ℕ). k / 2 ^ n) (shl-shr x 1)))
    (bits_shl n x)

-- an exclusive or
pub bits_xor : (n a b : ℕ) → bits n (bit_xor a b) ≡ bits n a ⊕ bits n b
unfolding bits ◌⊕◌
bits_xor zero a b = refl
bits_xor (suc n) a b = ap₂ ◌∷◌ (ap odd (xor_shr a b n) ∙ odd_xor (a / 2 ^ n) (b / 2 ^ n)) (bits_xor n a b)

-- ---- a number's bits, read as a number

pub number_bits : (n x : ℕ) → number (bits n x) ≡ x % 2 ^ n
unfolding bits number
number_bits zero x = sym (mod-one x)
number_bits (suc n) x =
    ap₂ (λ (a b : ℕ). a + b)
    (ap₂ (λ (d k : ℕ). d * 2 ^ k) (digit_odd (x / 2 ^ n)) (bits_length n x))
    (number_bits n x)
    ∙ sym (mod-pow-add x 1 n)
    ∙ ap (λ (k : ℕ). x % 2 ^ k) (one-add n)

-- ---- bits that are given, by way of their number

pub number_lt : (p : List Bool) → number p < 2 ^ length p
unfolding number
number_lt [] = omega arith
number_lt (false ∷ p) = omega (arith, number_lt p, pow-suc 2 (length p))
number_lt (true ∷ p) = omega (arith, number_lt p, pow-suc 2 (length p))

odd_digit : (b : Bool) → odd (digit b) ≡ b
unfolding odd
odd_digit false = refl
odd_digit true = refl

module _ (b : Bool) (p : List Bool) (h : number p < 2 ^ length p) where
  high : (digit b * 2 ^ length p + number p) / 2 ^ length p ≡ digit b
  high =
      let pos : 0 < 2 ^ length p = omega arith in
      mul-add-div_right pos (digit b) (number p) ∙ ap (λ (n : ℕ). digit b + n) (div-eq_of_lt h) ∙ add-zero (digit b)

  low_part : (digit b * 2 ^ length p + number p) % 2 ^ length p ≡ number p
  low_part = mul-add-mod_self_right (digit b) (2 ^ length p) (number p) ∙ mod-eq_of_lt h

  low_bits : bits (length p) (digit b * 2 ^ length p + number p) ≡ bits (length p) (number p)
  low_bits =
      let x : ℕ = digit b * 2 ^ length p + number p in
      sym (bits_mod (length p) 0 x) ∙ ap (λ (n : ℕ). bits (length p) (x % 2 ^ n)) (zero-add (length p)) ∙ ap (bits (length p)) low_part

pub bits_number : (p : List Bool) → bits (length p) (number p) ≡ p
unfolding bits number
bits_number [] = refl
bits_number (b ∷ p) =
    ap₂ ◌∷◌ (ap odd (high b p (number_lt p)) ∙ odd_digit b) (low_bits b p (number_lt p) ∙ bits_number p)
