use Rattle.std.proofs.Common.{◌≡◌, take, replicate}
use Rattle.certify.proofs.store.clear.Given as goal

abbrev pub invariant-loop-state : goal.invariant-loop-state
invariant-loop-state g l = take l.state-index l.store ≡ replicate l.state-index g.D.Domain.lattice.none
