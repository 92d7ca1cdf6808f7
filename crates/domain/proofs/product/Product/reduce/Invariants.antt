use Rattle.std.proofs.Common.{◌≡◌}
use Rattle.domain.specs.Pairs.{reduce}
use Rattle.domain.proofs.product.Product.reduce.Given as goal

abbrev pub invariant-loop-index : goal.invariant-loop-index
invariant-loop-index g l = l.self ≡ reduce g.A.Domain.lattice g.B.Domain.lattice l.index l.initial.self
