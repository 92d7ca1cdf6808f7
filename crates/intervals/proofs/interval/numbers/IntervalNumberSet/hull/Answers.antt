use Rattle.std.proofs.Common.{sym, arith}
use Rattle.std.proofs.lemmas.Int.{ints, clamps}
use Rattle.std.specs.Int.{int_min, int_max}
use Rattle.intervals.specs.Spans.{hull}
use Rattle.intervals.specs.Same.{interval_same, ends_of}
use Rattle.intervals.proofs.Bits.{lows_back, highs_back}
use Rattle.intervals.proofs.interval.numbers.IntervalNumberSet.hull.Goals as goal

pub invariant_of-result : goal.invariant_of-result
invariant_of-result c =
    let p = lows_back int_min c.args.self c.args.other c.min.result (record { sfits = c.min.type_inv }) c.min.ensures.value in
    let q = highs_back int_max c.args.self c.args.other c.max.result (record { sfits = c.max.type_inv }) c.max.ensures.value in
    let e = ends_of (hull c.args.self c.args.other) _ _ (sym p) (sym q) in
    record { low = e.0; ordered = e.1.0; high = e.1.1.0 }

pub returns : goal.returns
returns c = interval_same _ _ (omega (arith, ints, clamps)) (omega (arith, ints, clamps))
