-- The beam's region and sides, and when one is made.
use Rattle.std.specs.Prelude.{◌≡◌, Bool, true, false, ◌&&◌, List, [], ◌∷◌, ◌++◌, ℤ, pos, ◌+ℤ◌, neg_ℤ, ◌≤ℤ◌, Ok, Err, Result, int_le}
use Rattle.model.specs.Limits.{limit}
use Rattle.model.specs.declared.line.Axis.TheVariants.{X, U}
use Rattle.model.specs.Axes.{Position}
use Rattle.model.specs.Envelopes.{Envelope}
use Rattle.model.specs.declared.axes.Ends.{Ends}
use Rattle.model.specs.declared.side.Sign.TheVariants.{Plus}
use Rattle.model.specs.declared.side.Factor.TheVariants.{Minus}
use Rattle.model.specs.declared.side.Side.{Side}
use Rattle.travel.specs.declared.beam.Beam.{Beam}
use Rattle.travel.specs.declared.refusal.TravelRefusal.{TravelRefusal}
use Rattle.travel.specs.declared.refusal.TravelRefusal.TheVariants.{Ends as BadEnds, Gap}
use Rattle.travel.specs.Gantries.{ends_fit, gantry_sides, GantryRegion}

-- U is ahead of X by the gap
abbrev pub is_ahead : Position → ℤ → Bool
is_ahead p gap = int_le (p.x +ℤ gap) p.u

-- from 1 to the greatest length, and kept at home
abbrev pub gap_fits : Position → ℤ → Bool
gap_fits home gap = int_le (pos 1) gap && int_le gap (pos limit) && is_ahead home gap

abbrev pub BeamMade : Ends → ℤ → Result Beam TravelRefusal → Type 0
BeamMade e gap (Ok b) = (ends_fit e ≡ true) × (gap_fits e.home gap ≡ true) × (b.base.ends ≡ e) × (b.gap ≡ gap)
BeamMade e gap (Err BadEnds) = ends_fit e ≡ false
BeamMade e gap (Err Gap) = (ends_fit e ≡ true) × (gap_fits e.home gap ≡ false)

-- X − U ≤ −gap
abbrev pub gap_side : ℤ → Side
gap_side gap = record { a = Plus; v = X; b = Minus; w = U; c = neg_ℤ gap }

abbrev pub beam_sides : Beam → List Side
beam_sides b = gantry_sides b.base ++ (gap_side b.gap ∷ [])

abbrev pub BeamRegion : Beam → Position → Type 0
BeamRegion b p = GantryRegion b.base p × ((p.x +ℤ b.gap) ≤ℤ p.u)

-- where a beam may be, its sides and its home
abbrev pub beam_envelope : Beam → Envelope
beam_envelope b = record { region = BeamRegion b; sides = beam_sides b; home = b.base.ends.home }
