use Rattle.std.proofs.Common.{◌≡◌, ℕ, ◌+◌, ◌<◌, min, List, length, sym, ◌∙◌, subst, arith}
use Rattle.std.proofs.lemmas.Grind.{drop_more_same}
use Rattle.std.proofs.lemmas.List.{drop-set-lt, length-set}
use Rattle.session.specs.Memory.{memory}
use Rattle.calls.specs.Law.{Event}
use Rattle.calls.specs.Loans.{EachStays}
use Rattle.calls.proofs.Played.{Played, played_both}
use Rattle.calls.proofs.Loans.{left_more}
use Rattle.calls.proofs.Recorded.{recorded_more, recorded_all}
use Rattle.calls.proofs.tape.TapeCalls.play.Goals as goal

pub loop-n-preserved : goal.loop-n-preserved
loop-n-preserved g c =
    let t = g.T.Travel in
    let f = g.C.Calls.events in
    let cs = c.args.self.now.calls.now in
    let ds = c.loop-n.self.calls.now in
    let rs = c.loop-n.self.answers.now in
    let n = c.loop-n.n in
    let before = c.loop-n.invariant in
    let one = c.play.ensures in
    let in-cs : n < length cs = omega arith in
    let in-ds : n < length ds = omega arith in
    let in-rs : n < length rs = omega arith in
    let more = recorded_more f cs ds rs n _ c.play.new.self c.play.result in-cs in-ds in-rs before.rest in
    let both = played_both t.envelope _ _ _ _ _ _ _ _ before.played (record { kept = one.kept; left = one.left; travel = one.travel }) in
    record {
      played = subst (λ (es : List Event). Played t.envelope c.args.session.now.travel c.play.new.session.travel (memory c.args.session.now) (memory c.play.new.session) es) (sym more) both;
      rest = drop-set-lt (n + 1) ds n c.play.new.self (omega arith) ∙ drop_more_same ds cs n before.rest;
      calls = (before.calls.0, length-set ds n c.play.new.self ∙ before.calls.1);
      answers = (before.answers.0, length-set rs n c.play.result ∙ before.answers.1);
      each = left_more g.C.Calls.stays cs ds rs n c.index-self-n.result c.play.new.self c.play.result in-cs in-ds in-rs before.rest before.each one.stays;
      later = drop-set-lt (n + 1) rs n c.play.result (omega arith) ∙ drop_more_same rs c.args.self.now.answers.now n before.later;
    }

pub returns : goal.returns
returns g c =
    let t = g.T.Travel in
    let l = c.loop-n in
    let all = recorded_all g.C.Calls.events c.args.self.now.calls.now l.self.calls.now l.self.answers.now l.n (λ p q. omega arith) in
    let played = subst (λ (es : List Event). Played t.envelope c.args.session.now.travel l.session.travel (memory c.args.session.now) (memory l.session) es) all l.invariant.played in
    let all_played : l.n ≡ min (length c.args.self.now.calls.now) (length c.args.self.now.answers.now) = omega arith in
    let each = subst (λ (n : ℕ). EachStays g.C.Calls.stays n c.args.self.now.calls.now l.self.calls.now c.args.self.now.answers.now l.self.answers.now) all_played (record { played = l.invariant.each; calls = l.invariant.rest; answers = l.invariant.later }) in
    record { kept = played.kept; left = played.left; stays = (l.invariant.calls, l.invariant.answers, each); travel = played.travel }
