-- Some lines are passed, none of them the marker.
use Rattle.batch.proofs.Passing.{Passed}
use Rattle.std.proofs.Common.{length}
use Rattle.batch.proofs.first_input.Given as goal

abbrev pub invariant-loop-line : goal.invariant-loop-line
invariant-loop-line l = Passed l.text l.rest

abbrev pub decreases-loop-line : goal.decreases-loop-line
decreases-loop-line l = length l.rest
