-- Intervals are lawful sets of numbers, and exact on single ones.
use Rattle.std.specs.Prelude.{ℤ}
use Rattle.std.proofs.Common.{arith}
use Rattle.std.proofs.lemmas.Int.{ints}
use Rattle.model.specs.Environments.{Lies, full}
use Rattle.number_sets.specs.Sets.{LawfulSets}
use Rattle.number_sets.specs.Exact.{ExactSets}
use Rattle.intervals.specs.Made.{In}
use Rattle.intervals.specs.Singles.{single}
use Rattle.intervals.specs.Intervals.{intervals}
use Rattle.intervals.specs.SpansLemmas.{hull_left, hull_right, meet_in, inside_in}
use Rattle.intervals.specs.ResultsLemmas.{apply_in, fits_lies}
use Rattle.intervals.specs.ConditionsLemmas.{kept_in}
use Rattle.intervals.specs.WideningLemmas.{widen_left, widen_right, room_le_two, room_le, room_lt}
use Rattle.intervals.specs.RangesLemmas.{narrow_in, range_inside, range_lies, narrow_pin, narrow_single, range_single}
use Rattle.intervals.specs.BoundsLemmas.{bounds_in, bounds_single}
use Rattle.intervals.specs.SinglesLemmas.{apply_single, fits_single, meet_single}
use Rattle.intervals.specs.SingleConditions.{kept_yes, kept_no}
use Rattle.number_sets.specs.Clamped.{clamped_same}

single_has : (n : ℤ) → Lies n full → In n (single n)
single_has n p = let e = clamped_same n p in record { low = omega (arith, ints); high = omega (arith, ints) }

pub intervals_lawful : LawfulSets intervals
intervals_lawful = record {
  whole_has = λ n p. record { low = p.low; high = p.high };
  single_has = single_has;
  apply_has = λ o x y m n p q h k r. apply_in o x y m n h k r;
  kept_has = λ r x y m n p q h k e. kept_in r x y m n e h k;
  meet_has = λ x y n p h k. meet_in x y n h k;
  narrow_has = λ x z n p h k. narrow_in x z n h k;
  hull_left = λ x y n p h. hull_left x y n h;
  hull_right = λ x y n p h. hull_right x y n h;
  widen_left = widen_left;
  widen_right = widen_right;
  inside_has = λ x y n p e h. inside_in x y n e h;
  fits_all = λ o x y m n p q e h k. fits_lies o x y m n e h k;
  bounds_all = λ a x b y c m n p q e h k. bounds_in a x b y c m n e h k;
  range_inside = range_inside;
  range_has = λ x z n p h k. range_lies x z n h k;
  room_most = room_le_two;
  room_le = room_le;
  room_lt = room_lt;
}

pub intervals_exact : ExactSets intervals
intervals_exact = record {
  apply_single = apply_single;
  fits_single = fits_single;
  kept_yes = kept_yes;
  kept_no = kept_no;
  meet_single = meet_single;
  narrow_pin = narrow_pin;
  narrow_single = narrow_single;
  bounds_single = bounds_single;
  range_single = range_single;
}
