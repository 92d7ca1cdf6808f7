-- Where two congruences meet: so many moduli above the one's residue as close the gap to the other's.
use Rattle.std.proofs.Common.{◌≡◌, ℕ, Bool, true, false, ℤ, pos, ◌+ℤ◌, ◌-ℤ◌, ◌*ℤ◌, sym, refl, arith}
use Rattle.std.proofs.lemmas.Int.{ints}
use Rattle.divisibility.specs.Equations.{makes}
use Rattle.divisibility.specs.Leasts.{least}
use Rattle.divisibility.specs.Multiples.{Multiple}
use Rattle.divisibility.proofs.Divides.{agrees_from, agrees_yes}
use Rattle.divisibility.proofs.Leasts.{least_same}
use Rattle.divisibility.proofs.Multiples.{moved, mult_add, mult_sub}
use Rattle.congruences.specs.Commons.{hits, shifted}
use Rattle.congruences.specs.declared.congruence.Congruence.{Congruence}

both : (b d : Bool) → (b ≡ true → d ≡ true) → (d ≡ true → b ≡ true) → b ≡ d
both true d f g = sym (f refl)
both false true f g = sym (sym (g refl))
both false false f g = refl

-- t moduli close the gap d where the member t moduli above x's residue is one of y
closes : (x y : Congruence) (d t : ℕ) → Multiple y.modulus ((y.residue -ℤ x.residue) -ℤ pos d) → makes x.modulus y.modulus d t ≡ hits x y t
closes x y d t w = both (makes x.modulus y.modulus d t) (hits x y t)
    (λ e. agrees_from y.modulus (shifted x t) y.residue (moved y.modulus _ _ (to x.residue y.residue (pos t *ℤ pos x.modulus)) (mult_sub y.modulus _ _ (agrees_yes y.modulus (pos t *ℤ pos x.modulus) (pos d) e) w)))
    (λ e. agrees_from y.modulus (pos t *ℤ pos x.modulus) (pos d) (moved y.modulus _ _ (from x.residue y.residue (pos t *ℤ pos x.modulus)) (mult_add y.modulus _ _ (agrees_yes y.modulus (shifted x t) y.residue e) w)))
  where
    to : (r s z : ℤ) → (z -ℤ pos d) -ℤ ((s -ℤ r) -ℤ pos d) ≡ (r +ℤ z) -ℤ s
    to r s z = omega (arith, ints)

    from : (r s z : ℤ) → ((r +ℤ z) -ℤ s) +ℤ ((s -ℤ r) -ℤ pos d) ≡ z -ℤ pos d
    from r s z = omega (arith, ints)

pub meets : (x y : Congruence) (d : ℕ) → Multiple y.modulus ((y.residue -ℤ x.residue) -ℤ pos d) → least y.modulus (makes x.modulus y.modulus d) ≡ least y.modulus (hits x y)
meets x y d w = least_same y.modulus (makes x.modulus y.modulus d) (hits x y) (λ t. closes x y d t w)
