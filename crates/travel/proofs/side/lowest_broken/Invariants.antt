-- The sides before n hold, so the lowest broken one is among the rest.
use Rattle.std.proofs.Common.{◌≡◌, drop}
use Rattle.model.specs.Sides.{kept, lowest}
use Rattle.travel.proofs.side.lowest_broken.Given as goal

abbrev pub invariant-loop-n : goal.invariant-loop-n
invariant-loop-n g l =
    lowest (kept l.p) 0 (g.T.Travel.envelope l.travel).sides ≡ lowest (kept l.p) l.n (drop l.n (g.T.Travel.envelope l.travel).sides)
