use Rattle.session.specs.Memory.{memory}
use Rattle.calls.proofs.Exact.{dries}
use Rattle.calls.proofs.single.DryCalls.play.Goals as goal

pub returns-clause-kept : goal.returns-clause-kept
returns-clause-kept g c =
    let s = c.args.session.now in
    let done = c.dry.ensures in
    ((dries (g.T.Travel.envelope s.travel) (memory s).program c.args.self.now.values c.args.self.now.steps c.dry.result done.says done.ending, tt), tt)
