-- Every pair of members that meets a condition is left.
use Rattle.std.specs.Prelude.{◌≡◌, ℕ, Bool, true, false, cond, not, ◌&&◌, ℤ, ◌-ℤ◌, Some, None, Option, ◌==◌, refl}
use Rattle.std.proofs.Common.{◌∙◌, ap₂, subst, sym, eqb-true}
use Rattle.std.proofs.lemmas.Bool.{and_parts, both_ways, not-true}
use Rattle.model.specs.Environments.{Lies, full}
use Rattle.model.specs.Values.{compare}
use Rattle.model.specs.declared.expression.Rel.{Rel}
use Rattle.model.specs.declared.expression.Rel.TheVariants.{Eq, Ge, Gt, Le, Lt, Ne}
use Rattle.number_sets.specs.Sets.{HasPair}
use Rattle.divisibility.specs.Multiples.{Multiple}
use Rattle.congruences.specs.Commons.{common}
use Rattle.congruences.specs.Conditions.{doubled, fails, kept, unless}
use Rattle.congruences.specs.Members.{In, InSome}
use Rattle.congruences.specs.Numbers.{congruences}
use Rattle.congruences.specs.declared.congruence.Congruence.{Congruence}
use Rattle.congruences.specs.Settles.{zero_same}
use Rattle.congruences.specs.Sharing.{common_shared}
use Rattle.model.proofs.Numbers.{same_is}

doubled_in : (v : ℤ) (o : Option Congruence) → InSome v o → HasPair congruences (doubled o) v v
doubled_in v None h = h
doubled_in v (Some c) h = (h, h)

pub member_is : (v : ℤ) (x : Congruence) → (x.modulus == 0) ≡ true → In v x → v ≡ x.residue
member_is v x e h = zero_same v x.residue (subst (λ (n : ℕ). Multiple n (v -ℤ x.residue)) (eqb-true x.modulus 0 e) h)

unless_by : (r : Rel) (u v : ℤ) (x y : Congruence) (b : Bool) → fails r x y ≡ b → compare r u v ≡ true → In u x → In v y → HasPair congruences (cond b None (Some (record { left = x; right = y }))) u v
unless_by r u v x y true e m h k =
    let p = and_parts (x.modulus == 0) (y.modulus == 0 && not (compare r x.residue y.residue)) e in
    let q = and_parts (y.modulus == 0) (not (compare r x.residue y.residue)) p.1 in
    let s = ap₂ (compare r) (member_is u x p.0 h) (member_is v y q.0 k) in
    both_ways (compare r x.residue y.residue) (not-true (compare r x.residue y.residue) q.1) (sym s ∙ m)
unless_by r u v x y false e m h k = (h, k)

unless_in : (r : Rel) (u v : ℤ) (x y : Congruence) → compare r u v ≡ true → In u x → In v y → HasPair congruences (unless r x y) u v
unless_in r u v x y m h k = unless_by r u v x y (fails r x y) refl m h k

pub kept_in : (r : Rel) (u v : ℤ) (x y : Congruence) → Lies u full → compare r u v ≡ true → In u x → In v y → HasPair congruences (kept r x y) u v
kept_in Eq u v x y l m h k =
    let e = same_is u v m in
    subst (λ (w : ℤ). HasPair congruences (doubled (common x y)) u w) e (doubled_in u (common x y) ((common_shared x y).all u l h (subst (λ (w : ℤ). In w y) (sym e) k)))
kept_in Ne u v x y l m h k = unless_in Ne u v x y m h k
kept_in Lt u v x y l m h k = unless_in Lt u v x y m h k
kept_in Le u v x y l m h k = unless_in Le u v x y m h k
kept_in Gt u v x y l m h k = unless_in Gt u v x y m h k
kept_in Ge u v x y l m h k = unless_in Ge u v x y m h k
