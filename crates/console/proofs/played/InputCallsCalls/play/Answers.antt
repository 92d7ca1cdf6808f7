use Rattle.std.proofs.Common.{◌≡◌, ◌≤◌, length, Ok, Err, Some, None, refl, subst, arith, rules}
use Rattle.session.specs.Memory.{memory}
use Rattle.calls.proofs.Played.{Played, played_both}
use Rattle.console.specs.Asked.{asked_ranges, program_lines}
use Rattle.console.specs.Lines.{lines_of}
use Rattle.console.specs.Played.{answers, refusals, allow_in, Ends, Behind, Within}
use Rattle.console.specs.declared.played.RangeRefusal.TheVariants.{Text, Allow as NotAllowed}
use Rattle.console.proofs.PlayedInput.{at_text, at_allow, at_line, at_verdict}
use Rattle.console.proofs.played.InputCallsCalls.play.Goals as goal

pub returns-in-Err-Text : goal.returns-in-Err-Text
returns-in-Err-Text g c =
    let t = g.T.Travel in
    let s = c.args.session.now in
    let ls = lines_of c.args.self.now.ranges.text.now in
    let states = length c.args.self.now.certify.store.now in
    let first = c.play-ranges.ensures in
    let r = c.play-ranges.result in
    let refused : r.rest ≡ Err Text = search rules in
    let all = subst (Played t.envelope s.travel c.play-ranges.new.session.travel (memory s) (memory c.play-ranges.new.session)) (at_text ls states r.accepted 0 r.rest refused) (record { kept = first.kept; left = first.left; travel = first.travel }) in
    record {
      kept = all.kept;
      left = all.left;
      stays = (subst (λ x. Ends (answers r.accepted (refusals (allow_in x))) (length (asked_ranges ls))) refused first.stays.0, (subst (Behind (program_lines ls)) refused first.stays.1, refl), omega arith, first.stays.3, refl);
      travel = all.travel;
    }

pub returns-in-Err-Allow : goal.returns-in-Err-Allow
returns-in-Err-Allow g c =
    let t = g.T.Travel in
    let s = c.args.session.now in
    let ls = lines_of c.args.self.now.ranges.text.now in
    let states = length c.args.self.now.certify.store.now in
    let first = c.play-ranges.ensures in
    let r = c.play-ranges.result in
    let refused : r.rest ≡ Err (NotAllowed c.in-Err-Allow.refusal) = search rules in
    let all = subst (Played t.envelope s.travel c.play-ranges.new.session.travel (memory s) (memory c.play-ranges.new.session)) (at_allow ls states r.accepted 0 r.rest c.in-Err-Allow.refusal refused) (record { kept = first.kept; left = first.left; travel = first.travel }) in
    record {
      kept = all.kept;
      left = all.left;
      stays = (subst (λ x. Ends (answers r.accepted (refusals (allow_in x))) (length (asked_ranges ls))) refused first.stays.0, refl, omega arith, first.stays.3, refl);
      travel = all.travel;
    }

pub returns-in-Some : goal.returns-in-Some
returns-in-Some g c =
    let t = g.T.Travel in
    let s = c.args.session.now in
    let ls = lines_of c.args.self.now.ranges.text.now in
    let states = length c.args.self.now.certify.store.now in
    let first = c.play-ranges.ensures in
    let r = c.play-ranges.result in
    let rest : r.rest ≡ Ok c.in-Ok.text = search rules in
    let behind : program_lines ls ≡ Some (lines_of c.in-Ok.text.now) = subst (Behind (program_lines ls)) rest first.stays.1 in
    let second = c.play-lines.ensures in
    let q = c.play-lines.result in
    let both = played_both t.envelope _ _ _ _ _ _ _ _ (record { kept = first.kept; left = first.left; travel = first.travel }) (record { kept = second.kept; left = second.left; travel = second.travel }) in
    let all = subst (Played t.envelope s.travel c.play-lines.new.session.travel (memory s) (memory c.play-lines.new.session)) (at_line ls states r.accepted q.accepted r.rest c.in-Ok.text q.refused rest behind c.in-Some.refusal c.in-Some.is) both in
    let within : length c.in-Ok.text.now ≤ length c.args.self.now.ranges.text.now = subst (λ x. Within x (length c.args.self.now.ranges.text.now)) rest first.stays.2 in
    let few = second.stays.1 in
    record {
      kept = all.kept;
      left = all.left;
      stays = (subst (λ x. Ends (answers r.accepted (refusals (allow_in x))) (length (asked_ranges ls))) rest first.stays.0, (lines_of c.in-Ok.text.now, behind, subst (λ y. Ends (answers q.accepted (refusals y)) (length (lines_of c.in-Ok.text.now))) c.in-Some.is second.stays.0), omega arith, first.stays.3, refl);
      travel = all.travel;
    }

pub returns : goal.returns
returns g c =
    let t = g.T.Travel in
    let s = c.args.session.now in
    let ls = lines_of c.args.self.now.ranges.text.now in
    let states = length c.args.self.now.certify.store.now in
    let first = c.play-ranges.ensures in
    let r = c.play-ranges.result in
    let rest : r.rest ≡ Ok c.in-Ok.text = search rules in
    let behind : program_lines ls ≡ Some (lines_of c.in-Ok.text.now) = subst (Behind (program_lines ls)) rest first.stays.1 in
    let second = c.play-lines.ensures in
    let q = c.play-lines.result in
    let taken : q.refused ≡ None = search rules in
    let third = c.play-verdict.ensures in
    let more = played_both t.envelope _ _ _ _ _ _ _ _ (record { kept = second.kept; left = second.left; travel = second.travel }) (record { kept = third.kept; left = third.left; travel = third.travel }) in
    let both = played_both t.envelope _ _ _ _ _ _ _ _ (record { kept = first.kept; left = first.left; travel = first.travel }) more in
    let all = subst (Played t.envelope s.travel c.play-verdict.new.session.travel (memory s) (memory c.play-verdict.new.session)) (at_verdict ls states r.accepted q.accepted r.rest c.in-Ok.text q.refused rest behind c.play-verdict.result taken) both in
    let within : length c.in-Ok.text.now ≤ length c.args.self.now.ranges.text.now = subst (λ x. Within x (length c.args.self.now.ranges.text.now)) rest first.stays.2 in
    let few = second.stays.1 in
    record {
      kept = all.kept;
      left = all.left;
      stays = (subst (λ x. Ends (answers r.accepted (refusals (allow_in x))) (length (asked_ranges ls))) rest first.stays.0, (lines_of c.in-Ok.text.now, behind, subst (λ y. Ends (answers q.accepted (refusals y)) (length (lines_of c.in-Ok.text.now))) taken second.stays.0), omega arith, first.stays.3, third.stays);
      travel = all.travel;
    }
