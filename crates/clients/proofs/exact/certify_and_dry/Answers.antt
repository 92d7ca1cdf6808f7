use Rattle.std.proofs.Common.{length}
use Rattle.clients.proofs.OneRun.{agree}
use Rattle.clients.proofs.exact.certify_and_dry.Goals as goal

pub returns : goal.returns
returns g c =
    let old = c.args.list.now in
    let r = c.play_calls-before in
    let es = g.C.Calls.events old.first r.new.calls.first r.result.0 in
    let kept = agree (g.T.Travel.envelope c.args.travel) old.rest.rest.values old.rest.rest.steps r.result.1.1 g.D.Domain.lattice (length old.rest.first.store.now) r.result.1.0 es r.ensures.law in
    record { judged = kept.judged; dried = kept.dries; same = kept.same; stays = r.ensures.stays; law = r.ensures.law }
