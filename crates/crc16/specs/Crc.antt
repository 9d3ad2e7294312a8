-- The check of a payload (scope paper, section Packet): the remainder of a division of polynomials over GF(2).
-- A polynomial is the list of its coefficients, the highest power first; `true` is 1, `false` is 0.
use Rattle.std.specs.Prelude.{ℕ, zero, suc, ◌+◌, ◌-◌, ◌*◌, ◌/◌, ◌%◌, ◌^◌, Bool, true, false, not, List, [], ◌∷◌, ◌++◌, length, drop, replicate, eqb}

-- the sum of two coefficients, which is also their difference
abbrev pub xor : Bool → Bool → Bool
xor false b = b
xor true b = not b

infixl 60 ◌⊕◌
-- the sum, or difference, of two polynomials written from the same power down; the shorter goes on with zeros
unfoldable pub ◌⊕◌ : List Bool → List Bool → List Bool
[] ⊕ q = q
(a ∷ p) ⊕ [] = a ∷ p
(a ∷ p) ⊕ (b ∷ q) = xor a b ∷ (p ⊕ q)

-- n coefficients that are 0
unfoldable pub zeros : ℕ → List Bool
zeros n = replicate n false

-- the polynomial 1021h under its leading term, x^16 + x^12 + x^5 + 1: between its four terms three, six and four powers are absent
unfoldable pub generator : List Bool
unfolding zeros
generator = true ∷ (zeros 3 ++ (true ∷ (zeros 6 ++ (true ∷ (zeros 4 ++ (true ∷ []))))))

-- n steps of long division by the generator: where the leading coefficient is 1 the generator is subtracted, and then the leading
-- coefficient, now 0, is dropped
unfoldable pub divide : ℕ → List Bool → List Bool
divide zero p = p
divide (suc n) [] = []
divide (suc n) (false ∷ p) = divide n p
divide (suc n) (true ∷ p) = divide n (drop 1 ((true ∷ p) ⊕ generator))

-- the remainder of p by the generator: what is left once only sixteen coefficients are
unfoldable pub remainder : List Bool → List Bool
remainder p = divide (length p - 16) p

-- whether the lowest bit of x is set
unfoldable pub odd : ℕ → Bool
odd x = eqb (x % 2) 1

-- the n low bits of x, the highest first
unfoldable pub bits : ℕ → ℕ → List Bool
bits zero x = []
bits (suc n) x = odd (x / 2 ^ n) ∷ bits n x

-- the bits of bytes, one byte after another, each byte's most significant bit first
unfoldable pub bits_of : List ℕ → List Bool
bits_of [] = []
bits_of (x ∷ s) = bits 8 x ++ bits_of s

-- a coefficient as a number
abbrev pub digit : Bool → ℕ
digit false = 0
digit true = 1

-- bits, the highest first, as a number
unfoldable pub number : List Bool → ℕ
number [] = 0
number (b ∷ p) = digit b * 2 ^ length p + number p

-- THE CHECK of a payload: the bits of the payload as it was before substitution and those of ETB 17h, with sixteen zeros after
-- them, are divided; the remainder, read as a number and changed no further, is the check. Nothing stands before the payload: the start is 0.
unfoldable pub check : List ℕ → ℕ
check payload = number (remainder (bits_of (payload ++ (0x17 ∷ [])) ++ zeros 16))
