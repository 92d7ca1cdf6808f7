use Rattle.std.proofs.Common.{length}
use Rattle.batch.proofs.main.Given as goal

abbrev pub decreases-loop-input : goal.decreases-loop-input
decreases-loop-input l = length l.rest
