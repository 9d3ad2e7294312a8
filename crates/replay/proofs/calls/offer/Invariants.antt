-- Where bytes are left, some were taken.
use Rattle.std.proofs.Common.{length}
use Rattle.replay.proofs.calls.offer.Given as goal

abbrev pub decreases-loop-got : goal.decreases-loop-got
decreases-loop-got g l = length l.rest
