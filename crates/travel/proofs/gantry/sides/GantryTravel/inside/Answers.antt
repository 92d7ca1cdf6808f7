-- The tests of the four axes judge the ranges.
use Rattle.std.proofs.lemmas.Bool.Decides.{Decides-at}
use Rattle.travel.proofs.Orders.{between_judges}
use Rattle.travel.proofs.gantry.sides.GantryTravel.inside.Goals as goal

pub returns : goal.returns
returns c = Decides-at _ _ c.inside_ends.ensures (between_judges _ _ _)
