-- All numbers, and a single one.
use Rattle.std.specs.Prelude.{Bool, ℤ, pos, Some, None, Option, ◌==◌, refl}
use Rattle.congruences.specs.Settled.{checked}
use Rattle.congruences.specs.declared.congruence.Congruence.{Congruence}
use Rattle.number_sets.specs.Clamped.{clamped}

abbrev pub whole : Congruence
whole = record { modulus = 1; residue = pos 0; ok = refl }

-- every number in the place of none
abbrev pub or_whole : Option Congruence → Congruence
or_whole None = whole
or_whole (Some c) = c

-- the single number n, which the limit makes proper
abbrev pub single : ℤ → Congruence
single n = or_whole (checked 0 (clamped n))

-- it has one member
abbrev pub alone : Congruence → Bool
alone x = x.modulus == 0
