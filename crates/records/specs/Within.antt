-- The law that a kind of piece owes its walks: a record stands within the bytes. No reader has to believe it, since it is proved.
use Rattle.std.specs.Prelude.{ℕ, ◌≤◌, ◌≡◌, Bool, true, false, ◌&&◌, cond, List, length, leb}
use mathlib.Core.Path.{refl}
use native.Mathlib.Omega.{arith}
use borrow.Author.Tests.{leb-true}
use Rattle.answer.specs.Digits.{three_at}
use Rattle.records.specs.Record.{length_good, network_good, index_good, starts_record, record_in}

pub record_le : (xs : List ℕ) → record_in xs ≤ length xs
unfolding record_in starts_record
record_le xs = cases (leb 8 (length xs)) (length_good xs) (leb (three_at xs) (length xs)) (network_good xs && index_good xs) refl
  where
    cases : (a b c d : Bool) → leb (three_at xs) (length xs) ≡ c → cond (a && (b && (c && d))) (three_at xs) 0 ≤ length xs
    cases true true true true e = leb-true (three_at xs) (length xs) e
    cases true true true false e = omega arith
    cases true true false d e = omega arith
    cases true false c d e = omega arith
    cases false b c d e = omega arith
