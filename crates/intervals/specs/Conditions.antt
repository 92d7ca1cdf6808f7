-- What each of the six conditions leaves of its two sides.
use Rattle.std.specs.Prelude.{cond, ℤ, pos, ◌+ℤ◌, ◌-ℤ◌, Some, None, Option}
use Rattle.std.specs.Int.{int_min, int_max}
use Rattle.model.specs.Values.{same}
use Rattle.model.specs.declared.expression.Rel.{Rel}
use Rattle.model.specs.declared.expression.Rel.TheVariants.{Eq, Ne, Lt, Le, Gt, Ge}
use Rattle.number_sets.specs.Pairs.{both, turned}
use Rattle.number_sets.specs.declared.sets.Pair.{Pair}
use Rattle.intervals.specs.Made.{made}
use Rattle.intervals.specs.Spans.{meet}
use Rattle.intervals.specs.declared.interval.Interval.{Interval}

-- the two sides of what is left, the other way round
abbrev pub turned_all : Option (Pair Interval) → Option (Pair Interval)
turned_all None = None
turned_all (Some p) = Some (turned p)

-- x below y by the gap at least: x must leave room for it under the top of y, and y above the bottom of x
abbrev pub below : ℤ → Interval → Interval → Option (Pair Interval)
below gap x y = both (made x.lo (int_min x.hi (y.hi -ℤ gap))) (made (int_max y.lo (x.lo +ℤ gap)) y.hi)

-- a lower end moves up from v
abbrev pub up_from : ℤ → ℤ → ℤ
up_from lo v = cond (same lo v) (lo +ℤ pos 1) lo

-- an upper end moves down from v
abbrev pub down_from : ℤ → ℤ → ℤ
down_from hi v = cond (same hi v) (hi -ℤ pos 1) hi

-- x beside a single number y: that number goes, where it is an end of x
abbrev pub except : Interval → Interval → Option Interval
except x y = cond (same y.lo y.hi) (made (up_from x.lo y.lo) (down_from x.hi y.lo)) (Some x)

-- what a condition leaves
abbrev pub kept : Rel → Interval → Interval → Option (Pair Interval)
kept Eq x y = both (meet x y) (meet x y)
kept Ne x y = both (except x y) (except y x)
kept Lt x y = below (pos 1) x y
kept Le x y = below (pos 0) x y
kept Gt x y = turned_all (below (pos 1) y x)
kept Ge x y = turned_all (below (pos 0) y x)
