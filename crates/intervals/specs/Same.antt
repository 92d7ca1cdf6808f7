-- Intervals with the same ends are the same.
use Rattle.std.specs.Prelude.{◌≡◌, ℤ, pos, neg_ℤ, ◌≤ℤ◌}
use Rattle.std.proofs.Common.{subst, subst₂}
use mathlib.Core.HLevel.{is_prop→PathP}
use Rattle.model.specs.Limits.{limit}
use Rattle.intervals.specs.declared.interval.Interval.{Interval}
use Rattle.intervals.specs.declared.interval.results.Ends.{Ends}
use Rattle.model.proofs.Numbers.{le_prop}

pub interval_same : (a b : Interval) → a.lo ≡ b.lo → a.hi ≡ b.hi → a ≡ b
interval_same a b p q i = record {
  lo = p i;
  hi = q i;
  low = is_prop→PathP (λ j. neg_ℤ (pos limit) ≤ℤ p j) (λ j. le_prop (neg_ℤ (pos limit)) (p j)) a.low b.low i;
  ordered = is_prop→PathP (λ j. p j ≤ℤ q j) (λ j. le_prop (p j) (q j)) a.ordered b.ordered i;
  high = is_prop→PathP (λ j. q j ≤ℤ pos limit) (λ j. le_prop (q j) (pos limit)) a.high b.high i;
}

-- ends that an interval has are ends of an interval
pub ends_of : (s : Interval) (lo hi : ℤ) → s.lo ≡ lo → s.hi ≡ hi → (neg_ℤ (pos limit) ≤ℤ lo) × ((lo ≤ℤ hi) × ((hi ≤ℤ pos limit) × Unit {0}))
ends_of s lo hi p q =
    (subst (λ (x : ℤ). neg_ℤ (pos limit) ≤ℤ x) p s.low, (subst₂ (λ (x y : ℤ). x ≤ℤ y) p q s.ordered, (subst (λ (x : ℤ). x ≤ℤ pos limit) q s.high, tt)))

pub ends_same : (a b : Ends) → a.lo ≡ b.lo → a.hi ≡ b.hi → a ≡ b
ends_same a b p q i = record { lo = p i; hi = q i }
