-- The sides before this one hold, so the lowest broken one is among the rest.
use Rattle.std.proofs.Common.{◌≡◌, length, drop}
use Rattle.model.specs.Sides.{lowest}
use Rattle.certify.proofs.axes.lowest_unshown.Given as goal

abbrev pub invariant-loop-number : goal.invariant-loop-number
invariant-loop-number g l =
    lowest (g.D.Domain.lattice.shows l.state) 0 l.sides ≡ lowest (g.D.Domain.lattice.shows l.state) (length l.yielded) (drop (length l.yielded) l.sides)
