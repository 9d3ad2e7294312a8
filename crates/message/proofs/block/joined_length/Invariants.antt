-- With what the blocks that are left hold, `sum` is the whole.
use Rattle.std.proofs.Common.{◌≡◌, ◌+◌, length}
use mathlib.Core.List.{flatten}
use Rattle.message.specs.Blocks.{blocks_of}
use Rattle.message.proofs.block.joined_length.Given as goal

abbrev pub invariant-loop-block : goal.invariant-loop-block
invariant-loop-block l =
    (goal.iterator-loop-block).can_next l.block-iterator
    × (goal.iterator-loop-block).is_finite l.block-iterator
    × (l.sum + length (flatten (blocks_of l.block-iterator.rest.now)) ≡ length (flatten (blocks_of l.body)))
