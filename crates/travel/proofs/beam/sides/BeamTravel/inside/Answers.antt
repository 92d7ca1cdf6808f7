-- Inside the gantry, the beam is inside exactly where U is ahead.
use Rattle.std.proofs.Common.{true, w32, SFits, rules}
use Rattle.std.proofs.lemmas.Int.{to_z-of_z}
use Rattle.std.proofs.lemmas.Bool.Decides.{Decides-and, Decides-at}
use Rattle.travel.proofs.Orders.{le_judges}
use Rattle.travel.proofs.beam.sides.BeamTravel.inside.Goals as goal

pub returns-then-inside : goal.returns-then-inside
returns-then-inside c =
    let f : SFits w32 c.args.self.now.gap = search rules in
    Decides-and true _ c.if-inside.ensures (Decides-at _ _ (simp to_z-of_z at c.ahead.ensures) (le_judges _ _))
