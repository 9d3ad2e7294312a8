-- What goes into the first block is what goes into it once it has n bytes, of the parameters that are left.
use Rattle.std.proofs.Common.{◌≡◌, ◌≤◌}
use Rattle.parameters.specs.Parameters.{parameters}
use Rattle.message.specs.Blocks.{filled}
use Rattle.message.proofs.fill.FilledPiece.size_in.Given as goal

abbrev pub invariant-loop-parameter : goal.invariant-loop-parameter
invariant-loop-parameter l =
    (goal.iterator-loop-parameter).can_next l.parameter-iterator
    × (goal.iterator-loop-parameter).is_finite l.parameter-iterator
    × (l.n ≤ 999)
    × (filled 0 (parameters l.list) ≡ filled l.n (parameters l.parameter-iterator.rest.now))
