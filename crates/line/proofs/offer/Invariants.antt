-- What is put lies within the buffer.
use Rattle.std.proofs.Common.{length, ◌≤◌}
use Rattle.line.proofs.offer.Given as goal

abbrev pub invariant-loop-rest : goal.invariant-loop-rest
invariant-loop-rest g l = l.used ≤ length l.out

abbrev pub decreases-loop-rest : goal.decreases-loop-rest
decreases-loop-rest g l = length l.rest
