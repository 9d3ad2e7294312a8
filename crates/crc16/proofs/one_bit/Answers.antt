-- `crc16::one_bit` meets its contract: one step of the long division.
use mathlib.Core.Path.{◌≡◌, refl, sym, ap, ◌∙◌}
use mathlib.Core.Bool.{Bool, true, false}
use mathlib.Core.List.{List, [], ◌∷◌, ◌++◌}
use Prim.Native.Nat.{ℕ, zero, suc, ◌*◌, ◌/◌, ◌%◌, ◌^◌, ◌<◌}
use native.Mathlib.Omega.{arith}
use lib.Bits.{bit_and, bit_xor, and_mask, and_high}
use lib.Dec.{eqb}
use Rattle.crc16.specs.Crc.{xor, ◌⊕◌, generator, zeros, odd, bits}
use Rattle.crc16.specs.Register.{fed}
use Rattle.crc16.proofs.Sums.{xor_false}
use Rattle.crc16.proofs.Division.{low}
use Rattle.crc16.proofs.Register.{shift, shift_length, fed_nil, fed_cons}
use Rattle.crc16.proofs.Bits.{bits_length, bits_mod, bits_shl, bits_xor}
use Rattle.crc16.proofs.one_bit.Goals as goal

-- `reg & 0x8000` is 0 or not, and so is the highest bit
set : (y : ℕ) → y < 2 → (y * 0x8000 ≡ 0 → ⊥) → eqb y 1 ≡ true
set zero h t = absurd (t refl)
set (suc zero) h t = refl
set (suc (suc y)) h t = absurd (omega arith)

clear : (y : ℕ) → y * 0x8000 ≡ 0 → eqb y 1 ≡ false
clear zero t = refl
clear (suc y) t = absurd (omega arith)

top_set : (reg : ℕ) → (bit_and reg 0x8000 ≡ 0 → ⊥) → odd (reg / 2 ^ 15) ≡ true
unfolding odd
top_set reg t = set (reg / 2 ^ 15 % 2) (omega arith) (λ e. t (and_high reg 1 15 ∙ e))

top-clear : (reg : ℕ) → bit_and reg 0x8000 ≡ 0 → odd (reg / 2 ^ 15) ≡ false
unfolding odd
top-clear reg t = clear (reg / 2 ^ 15 % 2) (sym (and_high reg 1 15) ∙ t)

-- what the long division does, by the highest bit d
division : (reg : ℕ) (d : Bool) → odd (reg / 2 ^ 15) ≡ d → fed (bits 16 reg) (false ∷ []) ≡ shift d (bits 15 reg)
unfolding bits
division reg d e =
    let t : List Bool = bits 15 reg in
    let b : Bool = xor (odd (reg / 2 ^ 15)) false in
    fed_cons (odd (reg / 2 ^ 15)) t false [] (bits_length 15 reg)
    ∙ fed_nil (shift b t) (shift_length b t (bits_length 15 reg))
    ∙ ap (λ (a : Bool). shift a t) (xor_false (odd (reg / 2 ^ 15)) ∙ e)

-- the register, masked and shifted
shifted : (reg : ℕ) → bits 16 (bit_and reg 0x7fff * 2 % 2 ^ 16) ≡ bits 15 reg ++ (false ∷ [])
shifted reg =
    bits_mod 16 0 (bit_and reg 0x7fff * 2) ∙ bits_shl 15 (bit_and reg 0x7fff)
    ∙ ap (λ (l : List Bool). l ++ (false ∷ [])) (ap (bits 15) (and_mask reg 15) ∙ bits_mod 15 0 reg)

subtracted : (reg : ℕ) → bits 16 (bit_xor (bit_and reg 0x7fff * 2 % 2 ^ 16) 0x1021) ≡ (bits 15 reg ++ (false ∷ [])) ⊕ low
unfolding bits odd generator zeros
subtracted reg = bits_xor 16 (bit_and reg 0x7fff * 2 % 2 ^ 16) 0x1021 ∙ ap (λ (l : List Bool). l ⊕ low) (shifted reg)

pub returns-then-register-ne0 : goal.returns-then-register-ne0
returns-then-register-ne0 c =
    let reg = c.args.register in
    subtracted reg ∙ sym (division reg true (top_set reg c.if-register-ne0.true))

pub returns-else-register-ne0 : goal.returns-else-register-ne0
returns-else-register-ne0 c =
    let reg = c.args.register in
    shifted reg ∙ sym (division reg false (top-clear reg c.if-register-ne0.false))
