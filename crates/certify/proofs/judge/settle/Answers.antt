use Rattle.std.proofs.Common.{◌≤◌, length, arith}
use Rattle.program.specs.Held.{held}
use Rattle.sweep.specs.Blocks.{blocks, states_for}
use Rattle.certify.proofs.Sweeping.{settled_by, goes_on, falls_by}
use Rattle.certify.proofs.judge.settle.Goals as goal

pub returns-then-not-pass : goal.returns-then-not-pass
returns-then-not-pass g c =
    let lines = held c.args.program.now in
    c.loop-start.invariant _ (settled_by g.D.Domain.lattice (blocks lines) (g.T.Travel.envelope c.args.sides.now.travel.now) lines c.args.start c.loop-start.store _ c.sweep_once-pass.ensures c.if-not-pass.true)

pub loop-start-smaller : goal.loop-start-smaller
loop-start-smaller g c =
    let lines = held c.args.program.now in
    let enough = c.requires.1 in
    let long = c.loop-start.auto.store in
    let room : states_for lines ≤ length c.loop-start.store = omega arith in
    falls_by g.D.Domain.lattice g.met.D.Domain.lawful lines (g.T.Travel.envelope c.args.sides.now.travel.now) c.args.start c.loop-start.store _ c.requires.0 room c.sweep_once-pass.ensures c.if-not-pass.false

pub loop-start-preserved : goal.loop-start-preserved
loop-start-preserved g c w k =
    let lines = held c.args.program.now in
    c.loop-start.invariant w (goes_on g.D.Domain.lattice (blocks lines) (g.T.Travel.envelope c.args.sides.now.travel.now) lines c.args.start c.loop-start.store _ w c.sweep_once-pass.ensures c.if-not-pass.false k)
