-- The least congruence that holds two, and whether one lies in another.
use Rattle.std.specs.Prelude.{ℕ, Bool, ◌&&◌, ◌-ℤ◌, unsigned_abs}
use Rattle.divisibility.specs.Multiples.{divides, agrees}
use Rattle.divisibility.specs.Gcds.{gcd}
use Rattle.congruences.specs.Settled.{settled}
use Rattle.congruences.specs.Singles.{or_whole}
use Rattle.congruences.specs.declared.congruence.Congruence.{Congruence}

-- gcd (m, n, |r − s|)
abbrev pub hull_modulus : Congruence → Congruence → ℕ
hull_modulus x y = gcd (gcd x.modulus y.modulus) (unsigned_abs (x.residue -ℤ y.residue))

-- the residue is x's by that modulus, which is at most twice the limit, and 0 only for one and the same number
abbrev pub hull : Congruence → Congruence → Congruence
hull x y = or_whole (settled (hull_modulus x y) x.residue)

-- every member of x is one of y
abbrev pub inside : Congruence → Congruence → Bool
inside x y = divides y.modulus x.modulus && agrees y.modulus x.residue y.residue
