use Rattle.session.specs.Memory.{memory}
use Rattle.calls.proofs.Programs.{line_answered}
use Rattle.calls.proofs.single.LineCalls.play.Goals as goal

pub returns-clause-kept : goal.returns-clause-kept
returns-clause-kept g c = ((line_answered (memory c.args.session.now).program c.args.self.now.text.now _ c.line.ensures.says, tt), tt)
