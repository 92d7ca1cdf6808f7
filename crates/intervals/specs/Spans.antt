-- Two intervals: what spans both, what they share, and whether one lies inside the other.
use Rattle.std.specs.Prelude.{Bool, ◌&&◌, Option, int_le}
use Rattle.std.proofs.Common.{arith}
use Rattle.std.proofs.lemmas.Int.{ints, clamps}
use Rattle.std.specs.Int.{int_min, int_max}
use Rattle.intervals.specs.Made.{made}
use Rattle.intervals.specs.declared.interval.Interval.{Interval}

-- from the lower of the lower ends to the higher of the upper ends
abbrev pub hull : Interval → Interval → Interval
hull x y = record {
  lo = int_min x.lo y.lo;
  hi = int_max x.hi y.hi;
  low = omega (arith, ints, clamps);
  ordered = omega (arith, ints, clamps);
  high = omega (arith, ints, clamps);
}

-- the numbers of both, if there are any
abbrev pub meet : Interval → Interval → Option Interval
meet x y = made (int_max x.lo y.lo) (int_min x.hi y.hi)

-- x lies inside y
abbrev pub inside : Interval → Interval → Bool
inside x y = int_le y.lo x.lo && int_le x.hi y.hi
