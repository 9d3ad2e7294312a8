-- Each call is at the start of what is left, and less is left after it.
use Rattle.std.proofs.Common.{length}
use Rattle.replay.proofs.run_script.Given as goal

abbrev pub decreases-loop-call : goal.decreases-loop-call
decreases-loop-call g l = length l.rest
