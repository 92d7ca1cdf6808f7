use Rattle.std.proofs.Common.{◌≡◌, suc, take, fold}
use Rattle.program.specs.Held.{held}
use Rattle.sweep.specs.Blocks.{blocks}
use Rattle.sweep.specs.Sweeps.{line_step, fresh}
use Rattle.certify.specs.Passes.{sweeping}
use Rattle.certify.proofs.judge.sweep_once.Given as goal

abbrev pub invariant-loop-line : goal.invariant-loop-line
invariant-loop-line g l =
    (l.pass.line ≡ suc l.line-index)
    × (sweeping l.store l.pass
    ≡ fold (line_step g.D.Domain.lattice (blocks (held l.program)) (g.T.Travel.envelope l.sides.travel.now)) (fresh g.D.Domain.lattice l.initial.pass.current l.initial.store) (take l.line-index l.line-items))
