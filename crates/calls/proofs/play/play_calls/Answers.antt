use Rattle.calls.proofs.Lawful.{lawful_on}
use Rattle.calls.proofs.play.play_calls.Goals as goal

pub returns : goal.returns
returns g c =
    let n = c.new-session.ensures in
    record { stays = c.play.ensures.stays; law = lawful_on g.T.Travel.envelope _ _ _ _ n.travel n.blank c.play.ensures.kept }
