use Rattle.calls.proofs.Played.{played_both}
use Rattle.calls.proofs.combine.ThenCalls.play.Goals as goal

pub returns : goal.returns
returns g c =
    let t = g.T.Travel in
    let first = c.play-first.ensures in
    let rest = c.play-rest.ensures in
    let es = g.A.Calls.events c.args.self.now.first c.play-first.new.self c.play-first.result in
    let fs = g.B.Calls.events c.args.self.now.rest c.play-rest.new.self c.play-rest.result in
    let both = played_both t.envelope _ _ _ _ _ _ es fs (record { kept = first.kept; left = first.left; travel = first.travel }) (record { kept = rest.kept; left = rest.left; travel = rest.travel }) in
    record { kept = both.kept; left = both.left; stays = (first.stays, rest.stays); travel = both.travel }
