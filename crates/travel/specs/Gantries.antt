-- The gantry's region and sides, and when one is made.
use Rattle.std.specs.Prelude.{◌≡◌, Bool, true, false, ◌&&◌, List, [], ◌∷◌, ℤ, pos, neg_ℤ, Ok, Err, Result, int_le}
use Rattle.model.specs.Limits.{limit}
use Rattle.model.specs.declared.line.Axis.{Axis}
use Rattle.model.specs.declared.line.Axis.TheVariants.{X, Y, Z, U}
use Rattle.model.specs.Axes.{Position}
use Rattle.model.specs.Envelopes.{Envelope}
use Rattle.model.specs.declared.axes.Ends.{Ends}
use Rattle.model.specs.declared.side.Sign.{Sign}
use Rattle.model.specs.declared.side.Sign.TheVariants.{Plus, Minus}
use Rattle.model.specs.declared.side.Factor.TheVariants.{Zero}
use Rattle.model.specs.declared.side.Side.{Side}
use Rattle.travel.specs.declared.gantry.Gantry.{Gantry}
use Rattle.travel.specs.declared.refusal.TravelRefusal.{TravelRefusal}
use Rattle.travel.specs.declared.refusal.TravelRefusal.TheVariants.{Ends as BadEnds}
use Rattle.travel.specs.Travels.{Between}

abbrev pub in_order : ℤ → ℤ → ℤ → Bool
in_order lo home hi = int_le (neg_ℤ (pos limit)) lo && int_le lo home && int_le home hi && int_le hi (pos limit)

-- on every axis lower ≤ home ≤ upper, within the greatest length
abbrev pub ends_fit : Ends → Bool
ends_fit e =
    in_order e.lower.x e.home.x e.upper.x
    && in_order e.lower.y e.home.y e.upper.y
    && in_order e.lower.z e.home.z e.upper.z
    && in_order e.lower.u e.home.u e.upper.u

abbrev pub GantryMade : Ends → Result Gantry TravelRefusal → Type 0
GantryMade e (Ok g) = (ends_fit e ≡ true) × (g.ends ≡ e)
GantryMade e (Err why) = (ends_fit e ≡ false) × (why ≡ BadEnds)

-- the second axis of a side that bounds only one
abbrev pub other_axis : Axis → Axis
other_axis X = Y
other_axis Y = X
other_axis Z = X
other_axis U = X

-- a side that bounds v alone
abbrev pub bound : Sign → Axis → ℤ → Side
bound a v c = record { a = a; v = v; b = Zero; w = other_axis v; c = c }

-- v ≤ upper
abbrev pub at_most : Axis → ℤ → Side
at_most v upper = bound Plus v upper

-- −v ≤ −lower
abbrev pub at_least : Axis → ℤ → Side
at_least v lower = bound Minus v (neg_ℤ lower)

abbrev pub gantry_sides : Gantry → List Side
gantry_sides g =
    at_most X g.ends.upper.x ∷ at_least X g.ends.lower.x
    ∷ at_most Y g.ends.upper.y ∷ at_least Y g.ends.lower.y
    ∷ at_most Z g.ends.upper.z ∷ at_least Z g.ends.lower.z
    ∷ at_most U g.ends.upper.u ∷ at_least U g.ends.lower.u ∷ []

abbrev pub GantryRegion : Gantry → Position → Type 0
GantryRegion g p = Between g.ends.lower p g.ends.upper

-- where a gantry may be, its sides and its home
abbrev pub gantry_envelope : Gantry → Envelope
gantry_envelope g = record { region = GantryRegion g; sides = gantry_sides g; home = g.ends.home }

abbrev pub lies_in : ℤ → ℤ → ℤ → Bool
lies_in lo n hi = int_le lo n && int_le n hi

-- each coordinate lies between those of two positions
abbrev pub inside_ends : Position → Position → Position → Bool
inside_ends lower p upper =
    lies_in lower.x p.x upper.x
    && lies_in lower.y p.y upper.y
    && lies_in lower.z p.z upper.z
    && lies_in lower.u p.u upper.u
