-- Hull, common part and inclusion keep the numbers that they should.
use Rattle.std.specs.Prelude.{◌≡◌, true, ℤ, int_le}
use Rattle.std.proofs.Common.{arith}
use Rattle.std.proofs.lemmas.Int.{ints, clamps}
use Rattle.std.proofs.lemmas.Bool.{and_parts}
use Rattle.number_sets.specs.Sets.{HasSome}
use Rattle.intervals.specs.Intervals.{intervals}
use Rattle.intervals.specs.Made.{In}
use Rattle.intervals.specs.Spans.{hull, meet, inside}
use Rattle.intervals.specs.declared.interval.Interval.{Interval}
use Rattle.intervals.specs.Makes.{made_in}
use Rattle.model.proofs.Numbers.{true_le}

pub hull_left : (x y : Interval) (v : ℤ) → In v x → In v (hull x y)
hull_left x y v h = record { low = omega (arith, ints, clamps); high = omega (arith, ints, clamps) }

pub hull_right : (x y : Interval) (v : ℤ) → In v y → In v (hull x y)
hull_right x y v h = record { low = omega (arith, ints, clamps); high = omega (arith, ints, clamps) }

pub meet_in : (x y : Interval) (v : ℤ) → In v x → In v y → HasSome intervals (meet x y) v
meet_in x y v h k = made_in _ _ v (omega (arith, ints, clamps)) (omega (arith, ints, clamps)) (omega (arith, ints, clamps)) (omega (arith, ints, clamps))

pub inside_in : (x y : Interval) (v : ℤ) → inside x y ≡ true → In v x → In v y
inside_in x y v h k =
    let p = and_parts (int_le y.lo x.lo) (int_le x.hi y.hi) h in
    let a = true_le y.lo x.lo p.0 in
    let b = true_le x.hi y.hi p.1 in
    record { low = omega (arith, ints); high = omega (arith, ints) }
