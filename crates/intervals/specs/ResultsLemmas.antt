-- Every sum, difference and product of numbers of two intervals lies between the ends of the result.
use Rattle.std.specs.Prelude.{◌≡◌, true, ℤ, pos, neg_ℤ, ◌≤ℤ◌, int_le}
use Rattle.std.proofs.Common.{arith}
use Rattle.std.proofs.lemmas.Int.{ints, clamps}
use Rattle.std.proofs.lemmas.Bool.{and_parts}
use Rattle.model.specs.Environments.{Lies, full}
use Rattle.model.specs.Limits.{limit}
use Rattle.model.specs.Values.{apply}
use Rattle.model.specs.declared.expression.Op.{Op}
use Rattle.model.specs.declared.expression.Op.TheVariants.{Add, Sub, Mul}
use Rattle.number_sets.specs.Sets.{HasSome}
use Rattle.intervals.specs.Intervals.{intervals}
use Rattle.intervals.specs.Made.{In}
use Rattle.intervals.specs.Results.{ends, cut, fits}
use Rattle.intervals.specs.declared.interval.Interval.{Interval}
use Rattle.intervals.specs.declared.interval.results.Ends.{Ends}
use Rattle.intervals.specs.Makes.{made_in}
use Rattle.intervals.specs.Products.{product_low, product_high}
use Rattle.model.proofs.Numbers.{true_le}

-- between two ends
record Among (v : ℤ) (e : Ends) : Type 0 where
  low : e.lo ≤ℤ v
  high : v ≤ℤ e.hi

-- the result of an operation lies between the uncut ends
result_among : (o : Op) (x y : Interval) (u v : ℤ) → In u x → In v y → Among (apply o u v) (ends o x y)
result_among Add x y u v h k = record { low = omega (arith, ints); high = omega (arith, ints) }
result_among Sub x y u v h k = record { low = omega (arith, ints); high = omega (arith, ints) }
result_among Mul x y u v h k = record {
  low = product_low x.lo x.hi y.lo y.hi u v h.low h.high k.low k.high;
  high = product_high x.lo x.hi y.lo y.hi u v h.low h.high k.low k.high;
}

-- what lies between the ends and within the limit survives the cut
cut_in : (v : ℤ) (e : Ends) → Lies v full → Among v e → HasSome intervals (cut e) v
cut_in v e l h = made_in _ _ v (omega (arith, ints, clamps)) (omega (arith, ints, clamps)) (omega (arith, ints, clamps)) (omega (arith, ints, clamps))

-- nothing between ends within the limit lies beyond it
ends_lie : (v : ℤ) (e : Ends) → fits e ≡ true → Among v e → Lies v full
ends_lie v e h k =
    let p = and_parts (int_le (neg_ℤ (pos limit)) e.lo) (int_le e.hi (pos limit)) h in
    let a = true_le (neg_ℤ (pos limit)) e.lo p.0 in
    let b = true_le e.hi (pos limit) p.1 in
    record { low = omega (arith, ints); high = omega (arith, ints) }

pub apply_in : (o : Op) (x y : Interval) (u v : ℤ) → In u x → In v y → Lies (apply o u v) full → HasSome intervals (cut (ends o x y)) (apply o u v)
apply_in o x y u v h k l = cut_in (apply o u v) (ends o x y) l (result_among o x y u v h k)

pub fits_lies : (o : Op) (x y : Interval) (u v : ℤ) → fits (ends o x y) ≡ true → In u x → In v y → Lies (apply o u v) full
fits_lies o x y u v f h k = ends_lie (apply o u v) (ends o x y) f (result_among o x y u v h k)
