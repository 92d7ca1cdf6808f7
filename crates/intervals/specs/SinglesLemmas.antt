-- Operations on single numbers give the single result.
use Rattle.std.specs.Prelude.{◌≡◌, ℤ, ◌*ℤ◌, Some, refl}
use Rattle.std.proofs.Common.{ap, ap₂, ◌∙◌, arith}
use Rattle.std.specs.Int.Signed.{≤ℤ_refl}
use Rattle.std.proofs.lemmas.Int.{ints, clamps}
use Rattle.model.specs.Environments.{Lies, full, fit}
use Rattle.model.specs.Values.{apply}
use Rattle.model.specs.declared.expression.Op.{Op}
use Rattle.model.specs.declared.expression.Op.TheVariants.{Add, Sub, Mul}
use Rattle.intervals.specs.Singles.{single}
use Rattle.intervals.specs.Spans.{meet}
use Rattle.intervals.specs.Results.{ends, cut, fits, least, greatest}
use Rattle.intervals.specs.declared.interval.Interval.{Interval}
use Rattle.intervals.specs.declared.interval.results.Ends.{Ends}
use Rattle.intervals.specs.Same.{interval_same, ends_same}
use Rattle.intervals.specs.Makes.{made_some}
use Rattle.number_sets.specs.Clamped.{clamped_same}

-- n..n, of a number within the limit
abbrev pub point : (n : ℤ) → Lies n full → Interval
point n p = record { lo = n; hi = n; low = p.low; ordered = ≤ℤ_refl n; high = p.high }

-- a number within the limit is not moved
pub single_point : (n : ℤ) (p : Lies n full) → single n ≡ point n p
single_point n p = interval_same _ _ (clamped_same n p) (clamped_same n p)

-- w..w, uncut
abbrev alone : ℤ → Ends
alone w = record { lo = w; hi = w }

least_one : (a : ℤ) → least a a a a ≡ a
least_one a = omega (arith, ints, clamps)

greatest_one : (a : ℤ) → greatest a a a a ≡ a
greatest_one a = omega (arith, ints, clamps)

ends_point : (o : Op) (m n : ℤ) (p : Lies m full) (q : Lies n full) → ends o (point m p) (point n q) ≡ alone (apply o m n)
ends_point Add m n p q = refl
ends_point Sub m n p q = refl
ends_point Mul m n p q = ends_same _ _ (least_one (m *ℤ n)) (greatest_one (m *ℤ n))

ends_single : (o : Op) (m n : ℤ) → Lies m full → Lies n full → ends o (single m) (single n) ≡ alone (apply o m n)
ends_single o m n p q = ap₂ (ends o) (single_point m p) (single_point n q) ∙ ends_point o m n p q

cut_alone : (w : ℤ) → Lies w full → cut (alone w) ≡ Some (single w)
cut_alone w p = made_some _ _ (single w) (omega (arith, ints, clamps)) (omega (arith, ints, clamps))

pub apply_single : (o : Op) (m n : ℤ) → Lies m full → Lies n full → Lies (apply o m n) full → cut (ends o (single m) (single n)) ≡ Some (single (apply o m n))
apply_single o m n p q r = ap cut (ends_single o m n p q) ∙ cut_alone (apply o m n) r

pub fits_single : (o : Op) (m n : ℤ) → Lies m full → Lies n full → fits (ends o (single m) (single n)) ≡ fit (apply o m n)
fits_single o m n p q = ap fits (ends_single o m n p q)

pub meet_single : (n : ℤ) → Lies n full → meet (single n) (single n) ≡ Some (single n)
meet_single n p = made_some _ _ (single n) (omega (arith, ints, clamps)) (omega (arith, ints, clamps))
