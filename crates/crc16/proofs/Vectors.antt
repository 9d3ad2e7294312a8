-- Worked examples of the definition, by computation.
use mathlib.Core.Path.{◌≡◌, refl}
use mathlib.Core.List.{[], ◌∷◌, ◌++◌}
use Rattle.crc16.specs.Crc.{◌⊕◌, zeros, generator, divide, remainder, odd, bits, bits_of, number, check}

-- the generator is 1021h with the bit above it
pub generator_number : number generator ≡ 0x1_1021
unfolding number generator zeros
generator_number = refl

-- the public catalogue's vector of this polynomial with start 0: the digits 1 to 9, with no ETB after them
pub catalogue : number (remainder (bits_of (0x31 ∷ 0x32 ∷ 0x33 ∷ 0x34 ∷ 0x35 ∷ 0x36 ∷ 0x37 ∷ 0x38 ∷ 0x39 ∷ []) ++ zeros 16)) ≡ 0x31c3
unfolding number remainder divide ◌⊕◌ bits_of bits odd zeros generator
catalogue = refl

-- the check of OPN, whose packet ends in A8 A9
pub opn : check (0x4f ∷ 0x50 ∷ 0x4e ∷ []) ≡ 0xa8a9
unfolding check number remainder divide ◌⊕◌ bits_of bits odd zeros generator
opn = refl
