use Rattle.clients.proofs.Refused.{start_refused}
use Rattle.clients.proofs.wiped.start_wiped.Goals as goal

pub returns : goal.returns
returns g c =
    let r = c.play_calls-answers.ensures in
    record { refused = start_refused _ _ _ _ r.law; stays = r.stays; law = r.law }
