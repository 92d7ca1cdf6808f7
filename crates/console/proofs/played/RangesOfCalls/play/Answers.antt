use Rattle.std.proofs.Common.{◌≡◌, true, false, ◌∷◌, Ok, Some, None, refl, sym, ap, ◌∙◌, subst, arith, rules}
use Rattle.session.specs.declared.refusal.AllowRefusal.{AllowRefusal}
use Rattle.session.specs.Memory.{memory}
use Rattle.calls.specs.declared.single.Allow.{Allow}
use Rattle.calls.proofs.Played.{Played}
use Rattle.console.specs.Asked.{asked_ranges, program_lines}
use Rattle.console.specs.Lines.{lines_of}
use Rattle.console.specs.RangeLines.{range_of}
use Rattle.console.specs.Readings.{is_range}
use Rattle.console.proofs.PlayedEvents.{no_allows, allow_accepted, allow_stopped, all_answered, last_refused, drop_next, asked_next, asked_malformed, asked_end}
use Rattle.console.proofs.played.RangesOfCalls.play.Goals as goal

pub loop-line-init : goal.loop-line-init
loop-line-init g c =
    let s = c.args.session.now in
    record {
      played = subst (Played g.T.Travel.envelope s.travel s.travel (memory s) (memory s)) (sym (no_allows (asked_ranges (lines_of c.args.self.now.text.now)))) (record { kept = tt; left = refl; travel = refl });
      rest = refl;
      behind = refl;
      few = omega arith;
      room = omega arith;
    }

pub loop-line-preserved : goal.loop-line-preserved
loop-line-preserved g c =
    let so_far = c.loop-line.invariant in
    let more = lines_of c.in-Some.more.now in
    let p : is_range c.in-Some.line.now ≡ true = search rules in
    let q : range_of c.in-Some.line.now ≡ Some c.in-Some-read_range.range = sym c.read_range.ensures.is ∙ c.in-Some-read_range.is in
    let next = asked_next (lines_of c.loop-line.rest.now) c.in-Some.line.now more c.in-Some.ensures.lines.0 _ p q in
    let left = so_far.rest ∙ next.0 ∙ ap (λ (x : Allow). x ∷ asked_ranges more) (sym c.into-allow.ensures) in
    let shorter = c.in-Some.ensures.lines.1 in
    let room = so_far.room in
    let one = c.play.ensures in
    let answered : c.play.result ≡ Ok tt = search rules in
    let after = drop_next (asked_ranges (lines_of c.args.self.now.text.now)) c.loop-line.accepted _ _ left in
    record {
      played = allow_accepted g.T.Travel.envelope _ _ _ _ _ _ c.loop-line.accepted _ _ _ c.play.result left so_far.played (record { kept = one.kept; left = one.left; travel = one.travel }) answered;
      rest = after.0;
      behind = so_far.behind ∙ next.1;
      few = after.1;
      room = omega arith;
    }

pub returns-in-Err : goal.returns-in-Err
returns-in-Err g c =
    let so_far = c.loop-line.invariant in
    let more = lines_of c.in-Some.more.now in
    let p : is_range c.in-Some.line.now ≡ true = search rules in
    let q : range_of c.in-Some.line.now ≡ Some c.in-Some-read_range.range = sym c.read_range.ensures.is ∙ c.in-Some-read_range.is in
    let next = asked_next (lines_of c.loop-line.rest.now) c.in-Some.line.now more c.in-Some.ensures.lines.0 _ p q in
    let left = so_far.rest ∙ next.0 ∙ ap (λ (x : Allow). x ∷ asked_ranges more) (sym c.into-allow.ensures) in
    let one = c.play.ensures in
    let all = allow_stopped g.T.Travel.envelope _ _ _ _ _ _ c.loop-line.accepted _ _ _ c.play.result left so_far.played (record { kept = one.kept; left = one.left; travel = one.travel }) c.in-Err.refusal c.in-Err.is in
    record {
      kept = all.kept;
      left = all.left;
      stays = (last_refused (asked_ranges (lines_of c.args.self.now.text.now)) c.loop-line.accepted _ _ c.in-Err.refusal left, tt, tt, refl);
      travel = all.travel;
    }

pub returns-then-not-begins_range-clause-stays : goal.returns-then-not-begins_range-clause-stays
returns-then-not-begins_range-clause-stays g c =
    let so_far = c.loop-line.invariant in
    let p : is_range c.in-Some.line.now ≡ false = search rules in
    let end = asked_end (lines_of c.loop-line.rest.now) c.in-Some.line.now (lines_of c.in-Some.more.now) c.in-Some.ensures.lines.0 p in
    let room = so_far.room in
    (all_answered AllowRefusal (asked_ranges (lines_of c.args.self.now.text.now)) c.loop-line.accepted (so_far.rest ∙ end.0) so_far.few, so_far.behind ∙ end.1, omega arith, refl)

pub returns-in_default-read_range-clause-stays : goal.returns-in_default-read_range-clause-stays
returns-in_default-read_range-clause-stays g c =
    let so_far = c.loop-line.invariant in
    let p : is_range c.in-Some.line.now ≡ true = search rules in
    let none : c.read_range.result ≡ None = search rules in
    let end = asked_malformed (lines_of c.loop-line.rest.now) c.in-Some.line.now (lines_of c.in-Some.more.now) c.in-Some.ensures.lines.0 p (sym c.read_range.ensures.is ∙ none) in
    (all_answered AllowRefusal (asked_ranges (lines_of c.args.self.now.text.now)) c.loop-line.accepted (so_far.rest ∙ end.0) so_far.few, so_far.behind ∙ end.1, tt, refl)

pub returns-clause-stays : goal.returns-clause-stays
returns-clause-stays g c =
    let so_far = c.loop-line.invariant in
    let none = c.in_default.ensures.lines in
    let room = so_far.room in
    (all_answered AllowRefusal (asked_ranges (lines_of c.args.self.now.text.now)) c.loop-line.accepted (so_far.rest ∙ ap asked_ranges none) so_far.few, so_far.behind ∙ ap program_lines none ∙ ap Some (sym none), omega arith, refl)
