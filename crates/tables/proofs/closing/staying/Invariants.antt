-- `tables::closing::staying` meets its contract: with what stays of the records that are left, it is counted whole.
use mathlib.Core.Path.{◌≡◌}
use Prim.Native.Nat.{◌+◌}
use lib.ListN.{length}
use Rattle.tables.specs.Steps.{staying_bytes}
use Rattle.tables.proofs.Staying.{staying_count}
use Rattle.tables.proofs.closing.staying.Given as goal

abbrev pub invariant-loop-piece : goal.invariant-loop-piece
invariant-loop-piece l =
    (goal.iterator-loop-piece).can_next l.piece-iterator
    × (goal.iterator-loop-piece).is_finite l.piece-iterator
    × (l.used + length (staying_bytes l.network l.piece-iterator.rest.now) ≡ length (staying_bytes l.network l.bytes))
    × (l.records + staying_count l.network l.piece-iterator.rest.now ≡ staying_count l.network l.bytes)
