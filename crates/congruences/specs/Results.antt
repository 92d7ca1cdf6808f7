-- Sums, differences and products of the members of two congruences.
use Rattle.std.specs.Prelude.{ℕ, ◌*◌, Bool, ◌&&◌, Option, unsigned_abs}
use Rattle.model.specs.declared.expression.Op.{Op}
use Rattle.model.specs.declared.expression.Op.TheVariants.{Add, Sub, Mul}
use Rattle.model.specs.Environments.{fit}
use Rattle.model.specs.Values.{apply}
use Rattle.divisibility.specs.Gcds.{gcd}
use Rattle.congruences.specs.Settled.{settled}
use Rattle.congruences.specs.Singles.{alone}
use Rattle.congruences.specs.declared.congruence.Congruence.{Congruence}

-- the modulus of the results: gcd (m, n), and for products gcd (mn, |r|n, |s|m)
abbrev pub modulus_of : Op → Congruence → Congruence → ℕ
modulus_of Add x y = gcd x.modulus y.modulus
modulus_of Sub x y = gcd x.modulus y.modulus
modulus_of Mul x y = gcd (x.modulus * y.modulus) (gcd (unsigned_abs x.residue * y.modulus) (unsigned_abs y.residue * x.modulus))

-- the results within the limit
abbrev pub results : Op → Congruence → Congruence → Option Congruence
results o x y = settled (modulus_of o x y) (apply o x.residue y.residue)

-- both are single, and their result lies within the limit
abbrev pub fits : Op → Congruence → Congruence → Bool
fits o x y = alone x && (alone y && fit (apply o x.residue y.residue))
