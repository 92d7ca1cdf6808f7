-- The congruence of the members that two have in common.
use Rattle.std.specs.Prelude.{ℕ, Bool, cond, ℤ, pos, ◌+ℤ◌, ◌*ℤ◌, Some, None, Option}
use Rattle.model.specs.Environments.{Lies, full}
use Rattle.divisibility.specs.Multiples.{agrees}
use Rattle.divisibility.specs.Gcds.{lcm}
use Rattle.divisibility.specs.Leasts.{least}
use Rattle.congruences.specs.Members.{In, InSome}
use Rattle.congruences.specs.Settled.{settled}
use Rattle.congruences.specs.Singles.{alone}
use Rattle.congruences.specs.declared.congruence.Congruence.{Congruence}

-- the member of x that is t moduli above its residue
abbrev pub shifted : Congruence → ℕ → ℤ
shifted x t = x.residue +ℤ (pos t *ℤ pos x.modulus)

-- it is a member of y too
abbrev pub hits : Congruence → Congruence → ℕ → Bool
hits x y t = agrees y.modulus (shifted x t) y.residue

-- from the first member of x that is in y, by the lcm of the moduli
abbrev pub met : Congruence → Congruence → Option ℕ → Option Congruence
met x y None = None
met x y (Some t) = settled (lcm x.modulus y.modulus) (shifted x t)

-- a single number is common where it is a member of the other
abbrev pub lone : Congruence → Congruence → Option Congruence
lone x y = cond (agrees y.modulus x.residue y.residue) (Some x) None

abbrev pub common : Congruence → Congruence → Option Congruence
common x y = cond (alone x) (lone x y) (cond (alone y) (lone y x) (met x y (least y.modulus (hits x y))))

-- within the limit, what both have is a member, and nothing else is
pub record Shared (x y : Congruence) (o : Option Congruence) : Type 0 where
  pub all : (v : ℤ) → Lies v full → In v x → In v y → InSome v o
  pub only : (v : ℤ) → InSome v o → In v x × In v y
