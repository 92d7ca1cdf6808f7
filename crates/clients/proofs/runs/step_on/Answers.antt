use Rattle.clients.proofs.Steps.{steps_kept}
use Rattle.clients.proofs.runs.step_on.Goals as goal

pub returns : goal.returns
returns g c =
    let r = c.play_calls-answers in
    let old = c.args.list.now in
    let new = r.new.calls in
    let es = g.C.Calls.events old.first new.first r.result.0 in
    let kept = steps_kept (g.T.Travel.envelope c.args.travel) es old.rest.first.values r.result.1.0 old.rest.rest.calls.now new.rest.rest.calls.now new.rest.rest.answers.now r.ensures.stays.1.1.0.1 r.ensures.law in
    record { begun = kept.0; loan = r.ensures.stays.1.1.1; accepted = kept.1; inside = kept.2; stays = r.ensures.stays; law = r.ensures.law }
