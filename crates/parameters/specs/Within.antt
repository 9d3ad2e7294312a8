-- The law of parameters as pieces: one stands within the bytes. No reader has to believe it, since it is proved.
use Rattle.std.specs.Prelude.{ℕ, ◌+◌, ◌≤◌, ◌≡◌, Bool, true, false, ◌&&◌, cond, List, length, leb}
use mathlib.Core.Path.{refl}
use Rattle.std.proofs.Common.{zero-le}
use borrow.Author.Tests.{leb-true}
use Rattle.parameters.specs.Parameters.{two_at, parameter_in}

pub parameter_le : (xs : List ℕ) → parameter_in xs ≤ length xs
unfolding parameter_in
parameter_le xs = cases (leb 4 (length xs)) (leb (4 + two_at xs 2) (length xs)) refl
  where
    cases : (a b : Bool) → leb (4 + two_at xs 2) (length xs) ≡ b → cond (a && b) (4 + two_at xs 2) 0 ≤ length xs
    cases true true e = leb-true (4 + two_at xs 2) (length xs) e
    cases true false e = zero-le
    cases false b e = zero-le
