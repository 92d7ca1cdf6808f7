-- The members of a congruence: the numbers that differ from its residue by a multiple of its modulus.
use Rattle.std.specs.Prelude.{ℤ, ◌-ℤ◌, Some, None, Option}
use Rattle.divisibility.specs.Multiples.{Multiple}
use Rattle.congruences.specs.declared.congruence.Congruence.{Congruence}

-- v is a member
abbrev pub In : ℤ → Congruence → Type 0
In v c = Multiple c.modulus (v -ℤ c.residue)

-- v is a member of what is left
abbrev pub InSome : ℤ → Option Congruence → Type 0
InSome v None = ⊥
InSome v (Some c) = In v c
