use Rattle.std.proofs.Common.{◌≡◌, length, drop}
use Rattle.sweep.specs.Sweeps.{set_all}
use Rattle.certify.proofs.axes.set_axes.Given as goal

abbrev pub invariant-loop-index : goal.invariant-loop-index
invariant-loop-index g l =
    set_all g.D.Domain.lattice 0 l.values l.initial.state ≡ set_all g.D.Domain.lattice (length l.yielded) (drop (length l.yielded) l.values) l.state
