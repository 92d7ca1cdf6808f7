use Rattle.std.proofs.Common.{◌∙◌, sym, length-set}
use Rattle.session.specs.Answers.{is_proper}
use Rattle.session.proofs.Proper.{set_passes, allowed_proper}
use Rattle.session.proofs.ranges.Ranges.allow.Goals as goal

pub invariant_of-self : goal.invariant_of-self
invariant_of-self c = record {
  whole = length-set _ _ _ ∙ c.args.self.now.whole;
  proper = set_passes is_proper c.args.self.now.each _ c.args.range (allowed_proper c.args.parameter c.args.range (sym c.in_ok-check_range.ensures.says)) c.args.self.now.proper;
}
