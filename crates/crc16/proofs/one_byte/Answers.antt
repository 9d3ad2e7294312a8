-- The byte stands in the upper half, and each turn feeds the register a zero.
use mathlib.Core.Path.{◌≡◌, sym, ap, ap₂, ◌∙◌}
use mathlib.Core.Bool.{Bool, false}
use mathlib.Core.List.{List, [], ◌∷◌, ◌++◌, append-nil, append_assoc}
use Prim.Native.Nat.{ℕ, zero, suc, ◌+◌, ◌-◌, ◌*◌, ◌%◌, ◌^◌, ◌<◌}
use native.Mathlib.Nat.{add-zero, add-suc, mul-one, mul_assoc, pow-suc}
use native.Mathlib.Numerals.{add-one}
use native.Mathlib.Omega.{arith}
use borrow.Author.Rules.{rules}
use lib.Bits.{bit_xor}
use lib.ListN.{length, replicate-append-replicate}
use Rattle.crc16.specs.Crc.{◌⊕◌, zeros, bits}
use Rattle.crc16.specs.Register.{fed}
use Rattle.crc16.proofs.Sums.{sum_assoc, sum_length, sum_zeros}
use Rattle.crc16.proofs.Bits.{bits_length, bits_mod, bits_shl, bits_xor}
use Rattle.crc16.proofs.Register.{fed_nil, fed_append, spread, at_once}
use Rattle.crc16.proofs.one_byte.Goals as goal

-- a shift to the left by k
shl : (k n x : ℕ) → bits (n + k) (x * 2 ^ k) ≡ bits n x ++ zeros k
unfolding zeros
shl zero n x = ap₂ bits (add-zero n) (mul-one x) ∙ sym (append-nil (bits n x))
shl (suc k) n x =
    ap₂ bits (add-suc n k) (ap (λ (p : ℕ). x * p) (pow-suc 2 k) ∙ sym (mul_assoc x (2 ^ k) 2))
    ∙ bits_shl (n + k) (x * 2 ^ k)
    ∙ ap (λ (l : List Bool). l ++ (false ∷ [])) (shl k n x)
    ∙ append_assoc (bits n x) (zeros k) (false ∷ [])
    ∙ ap (λ (l : List Bool). bits n x ++ l) (replicate-append-replicate k 1 false ∙ ap zeros (add-one k))

-- the byte in the register's upper half
start : (reg byte : ℕ) → fed (bits 16 reg) (bits 8 byte) ≡ fed (bits 16 (bit_xor reg (byte * 2 ^ 8 % 2 ^ 16))) (zeros 8)
start reg byte =
    let m : List Bool = bits 8 byte in
    let h : length m ≡ 8 = bits_length 8 byte in
    let e : bits 16 (byte * 2 ^ 8 % 2 ^ 16) ≡ m ⊕ zeros 16 =
    bits_mod 16 0 (byte * 2 ^ 8) ∙ shl 8 8 byte ∙ sym (spread m 8) ∙ ap (λ (n : ℕ). m ⊕ zeros (n + 8)) h in
    let f : length (bits 16 reg ⊕ m) ≡ 16 = sum_length (bits 16 reg) m (omega (arith, bits_length 16 reg)) ∙ bits_length 16 reg in
    let g : bits 16 (bit_xor reg (byte * 2 ^ 8 % 2 ^ 16)) ≡ bits 16 reg ⊕ m =
    bits_xor 16 reg (byte * 2 ^ 8 % 2 ^ 16) ∙ ap (λ (l : List Bool). bits 16 reg ⊕ l) e ∙ sym (sum_assoc (bits 16 reg) m (zeros 16))
    ∙ sum_zeros (bits 16 reg ⊕ m) 16 (omega arith) in
    at_once (bits 16 reg) m ∙ ap₂ fed (sym g) (ap zeros h)

-- one zero more
next : (r s k : ℕ) → k < 8 → bits 16 s ≡ fed (bits 16 r) (false ∷ []) → fed (bits 16 r) (zeros (8 - k)) ≡ fed (bits 16 s) (zeros (8 - (k + 1)))
unfolding zeros
next r s k h e =
    let i : 8 - k ≡ suc (8 - (k + 1)) = omega arith in
    ap (λ (n : ℕ). fed (bits 16 r) (zeros n)) i
    ∙ fed_append (false ∷ []) (zeros (8 - (k + 1))) (bits 16 r) (bits_length 16 r)
    ∙ ap (λ (l : List Bool). fed l (zeros (8 - (k + 1)))) (sym e)

pub loop-init : goal.loop-init
loop-init c = (search rules, start c.args.register c.args.byte)

pub loop-preserved : goal.loop-preserved
loop-preserved c =
    let l = c.loop in
    (search rules, l.invariant.1 ∙ next l.r c.one_bit-r.result l.counter (search rules) c.one_bit-r.ensures)

pub returns : goal.returns
unfolding zeros
returns c =
    let l = c.loop in
    let z : 8 - l.counter ≡ 0 = omega arith in
    sym (l.invariant.1 ∙ ap (λ (n : ℕ). fed (bits 16 l.r) (zeros n)) z ∙ fed_nil (bits 16 l.r) (bits_length 16 l.r))
