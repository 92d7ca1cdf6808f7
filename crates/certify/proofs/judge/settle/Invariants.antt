use Rattle.program.specs.Held.{held}
use Rattle.sweep.specs.Blocks.{blocks}
use Rattle.sweep.specs.Ends.{loop_ranks}
use Rattle.sweep.specs.Sweeps.{Sweep, Settles}
use Rattle.certify.proofs.judge.settle.Given as goal

abbrev pub invariant-loop-start : goal.invariant-loop-start
invariant-loop-start g l =
    (w : Sweep g.row.D.Denot) → Settles g.D.Domain.lattice (blocks (held l.program)) (g.T.Travel.envelope l.sides.travel.now) (held l.program) l.start l.store w
    → Settles g.D.Domain.lattice (blocks (held l.program)) (g.T.Travel.envelope l.sides.travel.now) (held l.program) l.start l.initial.store w

abbrev pub decreases-loop-start : goal.decreases-loop-start
decreases-loop-start g l = loop_ranks g.D.Domain.lattice (blocks (held l.program)) l.store (held l.program)
