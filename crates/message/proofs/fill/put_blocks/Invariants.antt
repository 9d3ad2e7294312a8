-- Of the blocks, those of what is left are still to be put.
use mathlib.Core.List.{map, flatten}
use Rattle.message.specs.Blocks.{block_of, fill}
use Rattle.message.proofs.Putting.{Putting}
use Rattle.message.proofs.fill.put_blocks.Given as goal

abbrev pub invariant-loop-part : goal.invariant-loop-part
invariant-loop-part l =
    (goal.iterator-loop-part).can_next l.part-iterator
    × (goal.iterator-loop-part).is_finite l.part-iterator
    × Putting (flatten (map block_of (fill l.list))) (flatten (map block_of (fill l.part-iterator.rest.now))) l.initial.out l.start l.out l.at
