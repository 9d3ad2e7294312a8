-- Of what the blocks hold, that of the blocks that are left is still to be put.
use mathlib.Core.List.{flatten}
use Rattle.message.specs.Blocks.{blocks_of}
use Rattle.message.proofs.Putting.{Putting}
use Rattle.message.proofs.block.join.Given as goal

abbrev pub invariant-loop-block : goal.invariant-loop-block
invariant-loop-block l =
    (goal.iterator-loop-block).can_next l.block-iterator
    × (goal.iterator-loop-block).is_finite l.block-iterator
    × Putting (flatten (blocks_of l.body)) (flatten (blocks_of l.block-iterator.rest.now)) l.initial.out 0 l.out l.at
