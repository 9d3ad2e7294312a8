-- The laws of blocks, read and filled, as pieces: one stands within the bytes. No reader has to believe them, since they are proved.
use Rattle.std.specs.Prelude.{ℕ, ◌+◌, ◌≤◌, ◌≡◌, Bool, true, false, ◌&&◌, cond, List, [], ◌∷◌, ◌++◌, length, leb}
use Rattle.std.proofs.Common.{zero-le}
use Rattle.std.proofs.Math.Nat.{le-add_right, le_trans, add_assoc, zero-add, sub-zero}
use mathlib.Core.Path.{refl, sym, ap, ◌∙◌, subst}
use mathlib.Core.List.{flatten}
use lib.ListN.{length-append}
use borrow.Author.Tests.{leb-true}
use Rattle.answer.specs.Digits.{three_at}
use Rattle.answer.proofs.Pieces.{from_le}
use Rattle.parameters.specs.Parameters.{parameter_in, parameters}
use Rattle.parameters.specs.Within.{parameter_le}
use Rattle.message.specs.Blocks.{is_length, block_in, filled, first_in}

pub block_le : (xs : List ℕ) → block_in xs ≤ length xs
unfolding block_in
block_le xs = cases (leb 3 (length xs)) (is_length xs) (leb (3 + three_at xs) (length xs)) refl
  where
    cases : (a b c : Bool) → leb (3 + three_at xs) (length xs) ≡ c → cond (a && (b && c)) (3 + three_at xs) 0 ≤ length xs
    cases true true true e = leb-true (3 + three_at xs) (length xs) e
    cases true true false e = zero-le
    cases true false c e = zero-le
    cases false b c e = zero-le

filled_le : (n : ℕ) (ps : List (List ℕ)) → filled n ps ≤ n + length (flatten ps)
unfolding filled flatten
filled_le n [] = le-add_right n 0
filled_le n (p ∷ ps) = cases (leb (n + length p) 999) (filled_le (n + length p) ps)
  where
    cases : (t : Bool) → filled (n + length p) ps ≤ n + length p + length (flatten ps) → cond t (filled (n + length p) ps) n ≤ n + length (p ++ flatten ps)
    cases true h = subst (λ (m : ℕ). filled (n + length p) ps ≤ m) (add_assoc n (length p) (length (flatten ps)) ∙ ap (λ (m : ℕ). n + m) (sym (length-append p (flatten ps)))) h
    cases false h = le-add_right n (length (p ++ flatten ps))

pub first_le : (xs : List ℕ) → first_in xs ≤ length xs
unfolding first_in
first_le xs =
    le_trans (subst (λ (m : ℕ). filled 0 (parameters xs) ≤ m) (zero-add (length (flatten (parameters xs)))) (filled_le 0 (parameters xs)))
    (subst (λ (m : ℕ). length (flatten (parameters xs)) ≤ m) (sub-zero (length xs)) (from_le parameter_in parameter_le 0 xs))
