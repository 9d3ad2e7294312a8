-- What is left has the same rest as all of it.
use Rattle.std.proofs.Common.{◌≡◌, length}
use Rattle.answer.specs.Pieces.{rest}
use Rattle.answer.proofs.walk.rest_of.Given as goal

abbrev pub invariant-loop-n : goal.invariant-loop-n
invariant-loop-n g l = rest g.P.Piece.size l.fn.s ≡ rest g.P.Piece.size l.left

abbrev pub decreases-loop-n : goal.decreases-loop-n
decreases-loop-n g l = length l.left
