-- The items that a rack holds.
use Rattle.std.specs.Prelude.{ℕ, List, take}
use Rattle.program.specs.declared.rack.Rack.{Rack}

abbrev pub listed : {T : Type 0} {N : ℕ} → Rack T N → List T
listed r = take r.count r.places
