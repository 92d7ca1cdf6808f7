-- Widening: an end that moved outwards jumps to the limit, where it can move no more.
use Rattle.std.specs.Prelude.{ℕ, ◌+◌, Bool, true, false, cond, ℤ, pos, neg_ℤ, ◌≤ℤ◌, int_lt}
use Rattle.std.proofs.Common.{arith}
use Rattle.std.proofs.lemmas.Int.{ints}
use Rattle.model.specs.Limits.{limit}
use Rattle.intervals.specs.declared.interval.Interval.{Interval}

-- a lower end, by whether it fell
abbrev pub down_to : Bool → ℤ → ℤ
down_to fell lo = cond fell (neg_ℤ (pos limit)) lo

-- an upper end, by whether it rose
abbrev pub up_to : Bool → ℤ → ℤ
up_to rose hi = cond rose (pos limit) hi

-- the new ends are within the limit, and in order
pub down_within : (b : Bool) (lo : ℤ) → neg_ℤ (pos limit) ≤ℤ lo → neg_ℤ (pos limit) ≤ℤ down_to b lo
down_within true lo h = record { le = tt }
down_within false lo h = h

pub up_within : (b : Bool) (hi : ℤ) → hi ≤ℤ pos limit → up_to b hi ≤ℤ pos limit
up_within true hi h = record { le = tt }
up_within false hi h = h

pub still_ordered : (a b : Bool) (lo hi : ℤ) → neg_ℤ (pos limit) ≤ℤ lo → lo ≤ℤ hi → hi ≤ℤ pos limit → down_to a lo ≤ℤ up_to b hi
still_ordered true true lo hi p q r = record { le = tt }
still_ordered true false lo hi p q r = omega (arith, ints)
still_ordered false true lo hi p q r = omega (arith, ints)
still_ordered false false lo hi p q r = q

-- x, after y came to it
abbrev pub widen : Interval → Interval → Interval
widen x y = record {
  lo = down_to (int_lt y.lo x.lo) x.lo;
  hi = up_to (int_lt x.hi y.hi) x.hi;
  low = down_within _ x.lo x.low;
  ordered = still_ordered _ _ x.lo x.hi x.low x.ordered x.high;
  high = up_within _ x.hi x.high;
}

-- the ends short of the limit, counted
abbrev pub room : Interval → ℕ
room x = cond (int_lt (neg_ℤ (pos limit)) x.lo) 1 0 + cond (int_lt x.hi (pos limit)) 1 0
