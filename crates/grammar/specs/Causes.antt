-- The causes of a refusal, by number, and the refusal for a cause at a place.
use Rattle.std.specs.Prelude.{ℕ, Err, Result}
use Rattle.grammar.specs.declared.refusal.Cause.{Cause}
use Rattle.grammar.specs.declared.refusal.Cause.TheVariants.{Length, Byte, Unexpected, Limit, Twice}
use Rattle.grammar.specs.declared.refusal.Refusal.{Refusal}

-- the number by which a refusal is printed
abbrev pub number_of : Cause → ℕ
number_of Length = 11
number_of Byte = 12
number_of Unexpected = 13
number_of Limit = 14
number_of Twice = 15

-- refused for the cause c at the place p
abbrev pub refused : {A : Type 0} → Cause → ℕ → Result A Refusal
refused c p = Err (record { cause = c; place = p })
