-- What an interval shares with a range, whose ends may be any numbers in any order.
use Rattle.std.specs.Int.{int_min, int_max}
use Rattle.std.specs.Prelude.{Some, None, Option}
use Rattle.model.specs.declared.range.Range.{Range}
use Rattle.domain.specs.Lattice.{empty}
use Rattle.intervals.specs.Made.{made}
use Rattle.intervals.specs.declared.interval.Interval.{Interval}

-- the shared numbers, if there are any
abbrev pub narrow : Interval → Range → Option Interval
narrow x z = made (int_max x.lo z.lo) (int_min x.hi z.hi)

-- an interval as a range
abbrev pub as_range : Interval → Range
as_range x = record { lo = x.lo; hi = x.hi }

-- the same; for none, the empty one
abbrev pub spread : Option Interval → Range
spread None = empty
spread (Some x) = as_range x
