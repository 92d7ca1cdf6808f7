-- What a class's invariant says of its numbers.
use Rattle.std.proofs.Common.{ℕ, ◌*◌, ◌≤◌, nat_abs, mul-le-mul, arith}
use Rattle.model.specs.declared.expression.Op.{Op}
use Rattle.model.specs.declared.expression.Op.TheVariants.{Add, Mul, Sub}
use Rattle.divisibility.specs.Gcds.{gcd}
use Rattle.divisibility.proofs.Gcds.{gcd_bound, gcd_is}
use Rattle.congruences.specs.Results.{modulus_of}
use Rattle.congruences.specs.declared.congruence.Congruence.{Congruence}
use Rattle.congruences.specs.Proper.{abs_small, bounded}

pub product_small : (a b : ℕ) → a ≤ 20000000 → b ≤ 20000000 → a * b ≤ 400000000000000
product_small a b p q = mul-le-mul p q

pub modulus_small : (o : Op) (x y : Congruence) → modulus_of o x y ≤ 400000000000000
modulus_small Add x y = let l = gcd_bound x.modulus y.modulus (gcd x.modulus y.modulus) 20000000 (gcd_is x.modulus y.modulus) (bounded x).small (bounded y).small in omega arith
modulus_small Sub x y = let l = gcd_bound x.modulus y.modulus (gcd x.modulus y.modulus) 20000000 (gcd_is x.modulus y.modulus) (bounded x).small (bounded y).small in omega arith
modulus_small Mul x y =
    let p = nat_abs x.residue * y.modulus in let q = nat_abs y.residue * x.modulus in
    gcd_bound (x.modulus * y.modulus) (gcd p q) (modulus_of Mul x y) 400000000000000 (gcd_is (x.modulus * y.modulus) (gcd p q))
    (product_small x.modulus y.modulus (bounded x).small (bounded y).small)
    (gcd_bound p q (gcd p q) 400000000000000 (gcd_is p q) (product_small (nat_abs x.residue) y.modulus (abs_small x) (bounded y).small) (product_small (nat_abs y.residue) x.modulus (abs_small y) (bounded x).small))
