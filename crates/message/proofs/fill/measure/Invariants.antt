-- With the blocks that are still to be filled, those that were counted are all, and so is what they hold.
use Rattle.std.proofs.Common.{◌≡◌, ◌+◌, length}
use mathlib.Core.List.{flatten}
use Rattle.message.specs.Blocks.{fill}
use Rattle.message.proofs.fill.measure.Given as goal

abbrev pub invariant-loop-part : goal.invariant-loop-part
invariant-loop-part l =
    (goal.iterator-loop-part).can_next l.part-iterator
    × (goal.iterator-loop-part).is_finite l.part-iterator
    × (l.blocks + length (fill l.part-iterator.rest.now) ≡ length (fill l.list))
    × (l.end + length (flatten (fill l.part-iterator.rest.now)) ≡ length (flatten (fill l.list)))
