use Rattle.std.proofs.Common.{◌≡◌, ◌++◌, length, take, drop}
use Rattle.sweep.specs.Sweeps.{hulls_with}
use Rattle.certify.proofs.axes.add_to_hulls.Given as goal

abbrev pub invariant-loop-index : goal.invariant-loop-index
invariant-loop-index g l =
    (length l.hulls ≡ length l.fn.hulls)
    × (take (length l.yielded) l.hulls ++ hulls_with g.D.Domain.lattice (length l.yielded) l.state (drop (length l.yielded) l.fn.hulls)
    ≡ hulls_with g.D.Domain.lattice 0 l.state l.fn.hulls)
