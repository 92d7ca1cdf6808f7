use Rattle.std.proofs.Common.{length}
use Rattle.calls.specs.Events.{domain}
use Rattle.clients.proofs.UnderCertificate.{run_certified}
use Rattle.clients.proofs.certified.step_certified.Goals as goal

pub returns : goal.returns
returns g c =
    let r = c.play_calls-answers in
    let old = c.args.list.now in
    let new = r.new.calls in
    let es = g.C.Calls.events old.first new.first r.result.0 in
    let by = domain g.D.Domain.lattice in
    let run = old.rest.rest in
    let ran = new.rest.rest in
    let kept = run_certified (g.T.Travel.envelope c.args.travel) by (length old.rest.first.store.now) r.result.1.0 run.first.values r.result.1.1.0 run.rest.calls.now ran.rest.calls.now ran.rest.answers.now r.ensures.stays.1.1.1.0.1 es r.ensures.law in
    record { judged = kept.0; inside = kept.1; stays = r.ensures.stays; law = (r.result.1.1.0, r.ensures.law) }
