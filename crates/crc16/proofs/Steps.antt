-- The register byte by byte: what `step` comes to over a text, and that the end of it is the check.
use mathlib.Core.Path.{◌≡◌, refl, sym, ap, ◌∙◌}
use mathlib.Core.Bool.{Bool}
use mathlib.Core.List.{List, [], ◌∷◌, ◌++◌, append-nil, append_assoc}
use Prim.Native.Nat.{ℕ, ◌%◌, ◌^◌, ◌<◌}
use native.Mathlib.Omega.{arith}
use lib.ListN.{length}
use lib.Seq.{append_snoc}
use Rattle.std.specs.Prelude.{fold}
use Rattle.crc16.specs.Crc.{zeros, divide, remainder, odd, bits, bits_of, number, check}
use Rattle.crc16.specs.Register.{fed, stepped, register_after}
use Rattle.crc16.proofs.Bits.{number_bits, bits_number}
use Rattle.crc16.proofs.Register.{fed_append, fed_zeros, fed_length}

-- the bits of bytes after bytes
pub bits_of_append : (s t : List ℕ) → bits_of (s ++ t) ≡ bits_of s ++ bits_of t
unfolding bits_of
bits_of_append [] t = refl
bits_of_append (x ∷ s) t = ap (λ (l : List Bool). bits 8 x ++ l) (bits_of_append s t) ∙ sym (append_assoc (bits 8 x) (bits_of s) (bits_of t))

-- a register of sixteen bits is the number of its bits
pub register_bits : (r : ℕ) (p : List Bool) → r < 2 ^ 16 → bits 16 r ≡ p → r ≡ number p
register_bits r p h e = let n : r % 2 ^ 16 ≡ r = omega arith in sym (number_bits 16 r ∙ n) ∙ ap number e

zeros_long : length (zeros 16) ≡ 16
unfolding zeros
zeros_long = refl

-- the bits of the register after some bytes
register_fed : (s : List ℕ) → bits 16 (register_after s) ≡ fed (zeros 16) (bits_of s)
unfolding register_after
register_fed s =
    let f = fed (zeros 16) (bits_of s) in
    let l : length f ≡ 16 = fed_length (bits_of s) (zeros 16) zeros_long in
    ap (λ (p : List Bool). bits 16 (number p)) (sym (fed_zeros (bits_of s))) ∙ ap (λ (n : ℕ). bits n (number f)) (sym l) ∙ bits_number f

register_is : (s : List ℕ) → number (fed (zeros 16) (bits_of s)) ≡ register_after s
unfolding register_after
register_is s = ap number (fed_zeros (bits_of s))

bits_of_one : (s : List ℕ) (b : ℕ) → bits_of s ++ bits 8 b ≡ bits_of (s ++ (b ∷ []))
unfolding bits_of
bits_of_one s b = ap (λ (l : List Bool). bits_of s ++ l) (sym (append-nil (bits 8 b))) ∙ sym (bits_of_append s (b ∷ []))

-- A TEXT BYTE BY BYTE: a step after some bytes is the register after these and one more
pub step_after : (s : List ℕ) (b : ℕ) → stepped (register_after s) b ≡ register_after (s ++ (b ∷ []))
unfolding stepped
step_after s b =
    ap (λ (r : List Bool). number (fed r (bits 8 b))) (register_fed s)
    ∙ ap number (sym (fed_append (bits_of s) (bits 8 b) (zeros 16) zeros_long) ∙ ap (fed (zeros 16)) (bits_of_one s b))
    ∙ register_is (s ++ (b ∷ []))

-- before the first byte it is 0
pub step_none : register_after [] ≡ 0
unfolding register_after bits_of number remainder divide zeros
step_none = refl

check_is : (p : List ℕ) → register_after (p ++ (0x17 ∷ [])) ≡ check p
unfolding register_after check
check_is p = refl

-- ETB after a payload makes it the check
pub step_check : (p : List ℕ) → stepped (register_after p) 0x17 ≡ check p
step_check p = step_after p 0x17 ∙ check_is p

-- the bytes of a text one after another, by a fold
fold_after : (s t : List ℕ) → fold stepped (register_after s) t ≡ register_after (s ++ t)
fold_after s [] = ap register_after (sym (append-nil s))
fold_after s (b ∷ t) =
    ap (λ (r : ℕ). fold stepped r t) (step_after s b) ∙ fold_after (s ++ (b ∷ [])) t ∙ ap register_after (append_snoc s b t)

pub check_fold : (p : List ℕ) → stepped (fold stepped 0 p) 0x17 ≡ check p
check_fold p =
    ap (λ (r : ℕ). stepped (fold stepped r p) 0x17) (sym step_none)
    ∙ ap (λ (r : ℕ). stepped r 0x17) (fold_after [] p)
    ∙ step_check p
