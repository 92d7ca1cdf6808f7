-- Intervals as sets of numbers.
use Rattle.number_sets.specs.Sets.{NumberSets}
use Rattle.intervals.specs.Made.{In}
use Rattle.intervals.specs.Singles.{whole, single}
use Rattle.intervals.specs.Spans.{hull, meet, inside}
use Rattle.intervals.specs.Widening.{widen, room}
use Rattle.intervals.specs.Results.{ends, cut, fits}
use Rattle.intervals.specs.Conditions.{kept}
use Rattle.intervals.specs.Ranges.{narrow, spread}
use Rattle.intervals.specs.Bounds.{bounds}
use Rattle.intervals.specs.declared.interval.Interval.{Interval}

-- the operations; an interval has two ends to widen
abbrev pub intervals : NumberSets Interval
intervals = record {
  has = λ x n. In n x;
  room = room;
  most = 2;
  whole = whole;
  single = single;
  apply = λ o x y. cut (ends o x y);
  fits = λ o x y. fits (ends o x y);
  kept = kept;
  meet = meet;
  narrow = narrow;
  hull = hull;
  widen = widen;
  inside = inside;
  bounds = bounds;
  range = λ x z. spread (narrow x z);
}
