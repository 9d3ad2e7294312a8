-- `records::checking::records_good` meets its contract: what was passed, and the records that are left, are all.
use Rattle.std.proofs.Common.{◌≡◌, ◌+◌, length}
use mathlib.Core.List.{flatten}
use Rattle.answer.specs.Pieces.{every}
use Rattle.records.specs.Record.{recs}
use Rattle.records.specs.Steps.{passes}
use Rattle.records.proofs.checking.records_good.Given as goal

abbrev pub invariant-loop-piece : goal.invariant-loop-piece
invariant-loop-piece l =
    (goal.iterator-loop-piece).can_next l.piece-iterator
    × (goal.iterator-loop-piece).is_finite l.piece-iterator
    × (l.seen + length (flatten (recs l.piece-iterator.rest.now)) ≡ length (flatten (recs l.bytes)))
    × (l.count + length (recs l.piece-iterator.rest.now) ≡ length (recs l.bytes))
    × (every (passes l.network) (recs l.bytes) ≡ every (passes l.network) (recs l.piece-iterator.rest.now))
