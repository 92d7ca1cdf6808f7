-- Sums, differences and products of two intervals, and what is left of them within the limit.
use Rattle.std.specs.Prelude.{Bool, ◌&&◌, ℤ, pos, ◌+ℤ◌, ◌-ℤ◌, ◌*ℤ◌, neg_ℤ, Option, int_le}
use Rattle.std.specs.Int.{int_min, int_max}
use Rattle.model.specs.Limits.{limit}
use Rattle.model.specs.declared.expression.Op.{Op}
use Rattle.model.specs.declared.expression.Op.TheVariants.{Add, Sub, Mul}
use Rattle.intervals.specs.Made.{made}
use Rattle.intervals.specs.declared.interval.Interval.{Interval}
use Rattle.intervals.specs.declared.interval.results.Ends.{Ends}

-- the least of four
abbrev pub least : ℤ → ℤ → ℤ → ℤ → ℤ
least a b c d = int_min (int_min a b) (int_min c d)

-- the greatest of four
abbrev pub greatest : ℤ → ℤ → ℤ → ℤ → ℤ
greatest a b c d = int_max (int_max a b) (int_max c d)

-- where a result is least and greatest: for a sum and a difference at known ends, for a product at some pair of ends
abbrev pub ends : Op → Interval → Interval → Ends
ends Add x y = record { lo = x.lo +ℤ y.lo; hi = x.hi +ℤ y.hi }
ends Sub x y = record { lo = x.lo -ℤ y.hi; hi = x.hi -ℤ y.lo }
ends Mul x y = record {
  lo = least (x.lo *ℤ y.lo) (x.lo *ℤ y.hi) (x.hi *ℤ y.lo) (x.hi *ℤ y.hi);
  hi = greatest (x.lo *ℤ y.lo) (x.lo *ℤ y.hi) (x.hi *ℤ y.lo) (x.hi *ℤ y.hi);
}

-- what is left within the limit
abbrev pub cut : Ends → Option Interval
cut e = made (int_max e.lo (neg_ℤ (pos limit))) (int_min e.hi (pos limit))

-- there is nothing to cut
abbrev pub fits : Ends → Bool
fits e = int_le (neg_ℤ (pos limit)) e.lo && int_le e.hi (pos limit)
