use Rattle.program.specs.Held.{held}
use Rattle.sweep.specs.Blocks.{blocks}
use Rattle.certify.proofs.Sweeping.{all_lines}
use Rattle.certify.proofs.judge.sweep_once.Goals as goal

pub returns : goal.returns
returns g c =
    all_lines g.D.Domain.lattice (blocks (held c.args.program.now)) (g.T.Travel.envelope c.args.sides.now.travel.now) c.args.start c.args.store.now
    c.lines-line-items.result.now (held c.args.program.now) c.loop-line.line-index c.loop-line.store c.loop-line.pass c.lines-line-items.ensures c.loop-line-test.false c.loop-line.invariant.1
