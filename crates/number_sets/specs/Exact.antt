-- Single numbers are followed exactly: operations on them give the single result, and tests say what is so.
use Rattle.std.specs.Prelude.{◌≡◌, true, false, ℤ, ◌+ℤ◌, Some, None, int_le}
use Rattle.model.specs.declared.range.Range.{Range}
use Rattle.model.specs.declared.side.Sign.{Sign}
use Rattle.model.specs.declared.side.Factor.{Factor}
use Rattle.model.specs.declared.expression.Op.{Op}
use Rattle.model.specs.declared.expression.Rel.{Rel}
use Rattle.model.specs.Environments.{Lies, fit, full}
use Rattle.model.specs.Sides.{signed, scaled}
use Rattle.model.specs.Values.{apply, compare}
use Rattle.domain.specs.Lattice.{single}
use Rattle.number_sets.specs.Sets.{NumberSets}

pub record ExactSets {V : Type 0} (a : NumberSets V) : Type 0 where
  pub apply_single : (o : Op) (m n : ℤ) → Lies m full → Lies n full → Lies (apply o m n) full → a.apply o (a.single m) (a.single n) ≡ Some (a.single (apply o m n))
  pub fits_single : (o : Op) (m n : ℤ) → Lies m full → Lies n full → a.fits o (a.single m) (a.single n) ≡ fit (apply o m n)
  pub kept_yes : (r : Rel) (m n : ℤ) → Lies m full → Lies n full → compare r m n ≡ true → a.kept r (a.single m) (a.single n) ≡ Some (record { left = a.single m; right = a.single n })
  pub kept_no : (r : Rel) (m n : ℤ) → Lies m full → Lies n full → compare r m n ≡ false → a.kept r (a.single m) (a.single n) ≡ None
  pub meet_single : (n : ℤ) → Lies n full → a.meet (a.single n) (a.single n) ≡ Some (a.single n)
  -- narrowed to one of its numbers, a set is that single number
  pub narrow_pin : (x : V) (n : ℤ) → Lies n full → a.has x n → a.narrow x (single n) ≡ Some (a.single n)
  pub narrow_single : (n : ℤ) (z : Range) → Lies n full → Lies n z → a.narrow (a.single n) z ≡ Some (a.single n)
  pub bounds_single : (s : Sign) (f : Factor) (m n c : ℤ) → Lies m full → Lies n full → a.bounds s (a.single m) f (a.single n) c ≡ int_le (signed s m +ℤ scaled f n) c
  pub range_single : (n : ℤ) (z : Range) → Lies n full → Lies n z → a.range (a.single n) z ≡ single n
