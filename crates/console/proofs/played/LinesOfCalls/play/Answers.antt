use Rattle.std.proofs.Common.{◌≡◌, Ok, refl, sym, ◌∙◌, subst, arith, rules}
use Rattle.program.specs.declared.refusal.LineRefusal.{LineRefusal}
use Rattle.session.specs.Memory.{memory}
use Rattle.calls.proofs.Played.{Played}
use Rattle.console.specs.Lines.{lines_of}
use Rattle.console.proofs.PlayedEvents.{no_lines, line_accepted, line_stopped, all_answered, last_refused, drop_next}
use Rattle.console.proofs.played.LinesOfCalls.play.Goals as goal

pub loop-text-init : goal.loop-text-init
loop-text-init g c =
    let s = c.args.session.now in
    record {
      played = subst (Played g.T.Travel.envelope s.travel s.travel (memory s) (memory s)) (sym (no_lines (lines_of c.args.self.now.text.now))) (record { kept = tt; left = refl; travel = refl });
      rest = refl;
      few = omega arith;
      room = omega arith;
    }

pub loop-text-preserved : goal.loop-text-preserved
loop-text-preserved g c =
    let so_far = c.loop-text.invariant in
    let left = so_far.rest ∙ c.in-Some.ensures.lines.0 in
    let shorter = c.in-Some.ensures.lines.1 in
    let room = so_far.room in
    let one = c.play.ensures in
    let answered : c.play.result ≡ Ok tt = search rules in
    let next = drop_next (lines_of c.args.self.now.text.now) c.loop-text.accepted _ _ left in
    record {
      played = line_accepted g.T.Travel.envelope _ _ _ _ _ _ c.loop-text.accepted _ _ _ c.play.result left so_far.played (record { kept = one.kept; left = one.left; travel = one.travel }) answered;
      rest = next.0;
      few = next.1;
      room = omega arith;
    }

pub returns-in-Err : goal.returns-in-Err
returns-in-Err g c =
    let so_far = c.loop-text.invariant in
    let left = so_far.rest ∙ c.in-Some.ensures.lines.0 in
    let room = so_far.room in
    let one = c.play.ensures in
    let all = line_stopped g.T.Travel.envelope _ _ _ _ _ _ c.loop-text.accepted _ _ _ c.play.result left so_far.played (record { kept = one.kept; left = one.left; travel = one.travel }) c.in-Err.refusal c.in-Err.is in
    record {
      kept = all.kept;
      left = all.left;
      stays = (last_refused (lines_of c.args.self.now.text.now) c.loop-text.accepted _ _ c.in-Err.refusal left, omega arith, refl);
      travel = all.travel;
    }

pub returns-clause-stays : goal.returns-clause-stays
returns-clause-stays g c =
    let so_far = c.loop-text.invariant in
    let room = so_far.room in
    (all_answered LineRefusal (lines_of c.args.self.now.text.now) c.loop-text.accepted (so_far.rest ∙ c.in_default.ensures.lines) so_far.few, omega arith, refl)
