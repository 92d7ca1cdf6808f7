-- Congruences with the same modulus and residue are the same, and so are ranges with the same ends.
use Rattle.std.specs.Prelude.{◌≡◌, Bool, true}
use Rattle.std.proofs.Math.Bool.{Bool-set}
use mathlib.Core.HLevel.{is_prop→PathP}
use Rattle.model.specs.declared.range.Range.{Range}
use Rattle.congruences.specs.Shape.{proper}
use Rattle.congruences.specs.declared.congruence.Congruence.{Congruence}

true_prop : (b : Bool) → IsProp (b ≡ true)
true_prop b = Bool-set b true

pub congruence_same : (a b : Congruence) → a.modulus ≡ b.modulus → a.residue ≡ b.residue → a ≡ b
congruence_same a b p q i = record {
  modulus = p i;
  residue = q i;
  ok = is_prop→PathP (λ j. proper (p j) (q j) ≡ true) (λ j. true_prop (proper (p j) (q j))) a.ok b.ok i;
}

pub same_range : (a b : Range) → a.lo ≡ b.lo → a.hi ≡ b.hi → a ≡ b
same_range a b p q i = record { lo = p i; hi = q i }
