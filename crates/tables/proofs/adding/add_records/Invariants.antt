-- `tables::adding::add_records` meets its contract: the records that are left, added to the store as it is, give the whole.
use mathlib.Core.Path.{◌≡◌}
use Rattle.tables.specs.Steps.{stocked_all}
use Rattle.tables.proofs.Stocking.{both}
use Rattle.tables.proofs.adding.add_records.Given as goal

abbrev pub invariant-loop-bytes : goal.invariant-loop-bytes
invariant-loop-bytes l =
    (goal.iterator-loop-bytes).can_next l.bytes-iterator
    × (goal.iterator-loop-bytes).is_finite l.bytes-iterator
    × (stocked_all l.network (both l.initial.grown l.initial.store) l.records ≡ stocked_all l.network (both l.grown l.store) l.bytes-iterator.rest.now)
