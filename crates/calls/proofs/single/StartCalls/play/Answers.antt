use Rattle.std.proofs.Common.{◌≡◌, length, arith}
use Rattle.model.specs.Environments.{parameters}
use Rattle.session.specs.Memory.{memory}
use Rattle.calls.specs.Playing.{known}
use Rattle.calls.proofs.Starting.{starts_by}
use Rattle.calls.proofs.single.StartCalls.play.Goals as goal

pub returns-clause-kept : goal.returns-clause-kept
returns-clause-kept g c =
    let six : length c.args.self.now.values ≡ parameters = omega arith in
    ((starts_by (known (memory c.args.session.now)) c.args.self.now.values _ c.args.session.now.ranges.whole six c.start.ensures.says, tt), tt)
