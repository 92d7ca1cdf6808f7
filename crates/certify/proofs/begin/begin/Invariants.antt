use Rattle.std.proofs.Common.{◌≡◌, ◌+◌, drop}
use Rattle.model.specs.Environments.{axes}
use Rattle.sweep.specs.Starts.{narrowed}
use Rattle.certify.proofs.begin.begin.Given as goal

abbrev pub invariant-loop-k : goal.invariant-loop-k
invariant-loop-k g l = narrowed g.D.Domain.lattice axes l.allowed l.initial.state ≡ narrowed g.D.Domain.lattice (axes + l.k) (drop l.k l.allowed) l.state
