use Rattle.std.proofs.Common.{ap}
use Rattle.session.specs.Memory.{Memory, memory}
use Rattle.calls.proofs.Stepping.{step_by}
use Rattle.calls.proofs.single.StepCalls.play.Goals as goal

pub returns-clause-kept : goal.returns-clause-kept
returns-clause-kept g c =
    let done = c.step.ensures in
    let s = c.args.session.now in
    (step_by (g.T.Travel.envelope s.travel) (memory s) (memory c.step.new.self).run c.step.result done.says done.plain done.inside (ap (λ (m : Memory). m.run) done.does), tt)
