-- Congruences as sets of numbers for one register.
use Rattle.number_sets.specs.Sets.{NumberSets}
use Rattle.congruences.specs.Members.{In}
use Rattle.congruences.specs.Singles.{whole, single}
use Rattle.congruences.specs.Results.{results, fits}
use Rattle.congruences.specs.Hulls.{hull, inside}
use Rattle.congruences.specs.Room.{room, most_room}
use Rattle.congruences.specs.Commons.{common}
use Rattle.congruences.specs.Ranges.{ranged, narrowed}
use Rattle.congruences.specs.Conditions.{kept}
use Rattle.congruences.specs.Bounds.{bounded_by}
use Rattle.congruences.specs.declared.congruence.Congruence.{Congruence}

abbrev pub congruences : NumberSets Congruence
congruences = record {
  has = λ c v. In v c;
  room = room;
  most = most_room;
  whole = whole;
  single = single;
  apply = results;
  fits = fits;
  kept = kept;
  meet = common;
  narrow = narrowed;
  hull = hull;
  widen = hull;
  inside = inside;
  bounds = bounded_by;
  range = ranged;
}
