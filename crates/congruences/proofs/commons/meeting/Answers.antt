use Rattle.std.proofs.Common.{◌∙◌}
use Rattle.congruences.proofs.Meetings.{meets}
use Rattle.congruences.proofs.commons.meeting.Goals as goal

pub returns : goal.returns
returns c = record {
  value = c.solve.ensures.value ∙ meets c.args.x c.args.y c.gap.result c.gap.ensures.same;
  below = c.solve.ensures.below;
}
