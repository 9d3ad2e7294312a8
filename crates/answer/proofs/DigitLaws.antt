-- What a digit stands for is 9 at most.
use mathlib.Core.Path.{◌≡◌}
use mathlib.Core.Bool.{true}
use Prim.Native.Nat.{ℕ, ◌≤◌}
use native.Mathlib.Omega.{arith}
use lib.Dec.{leb}
use borrow.Author.Tests.{leb-true}
use Rattle.answer.specs.Digits.{is_digit, digit_of}
use Rattle.answer.proofs.Parts.{and_left, and_right}

pub digit_nine : (b : ℕ) → is_digit b ≡ true → digit_of b ≤ 9
digit_nine b e =
    let g = leb-true 0x30 b (and_left (leb 0x30 b) (leb b 0x39) e) in
    let h = leb-true b 0x39 (and_right (leb 0x30 b) (leb b 0x39) e) in
    omega arith
