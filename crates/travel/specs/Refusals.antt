-- The number of a travel's refusal.
use Rattle.std.specs.Prelude.{ℕ}
use Rattle.travel.specs.declared.refusal.TravelRefusal.{TravelRefusal}
use Rattle.travel.specs.declared.refusal.TravelRefusal.TheVariants.{Ends, Gap}

abbrev pub travel_number : TravelRefusal → ℕ
travel_number Ends = 51
travel_number Gap = 52
