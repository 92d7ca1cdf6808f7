use Rattle.std.proofs.Common.{◌≡◌, length, drop}
use Rattle.sweep.specs.Sweeps.{all_sure}
use Rattle.certify.proofs.axes.all_sure.Given as goal

abbrev pub invariant-loop-value : goal.invariant-loop-value
invariant-loop-value g l =
    all_sure g.D.Domain.lattice l.state l.values ≡ all_sure g.D.Domain.lattice l.state (drop (length l.yielded) l.values)
