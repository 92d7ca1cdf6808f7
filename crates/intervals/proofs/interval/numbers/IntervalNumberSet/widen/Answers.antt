use Rattle.std.proofs.Common.{ℤ, sym}
use lib.Signed.{lt_z}
use Rattle.intervals.specs.Widening.{widen, down_to, up_to}
use Rattle.intervals.specs.Same.{interval_same, ends_of}
use Rattle.intervals.proofs.Bits.{lows_back, highs_back}
use Rattle.intervals.proofs.interval.numbers.IntervalNumberSet.widen.Goals as goal

pub invariant_of-result : goal.invariant_of-result
invariant_of-result c =
    let p = lows_back (λ (old new : ℤ). down_to (lt_z new old) old) c.args.self c.args.other c.widened_down.result (record { sfits = c.widened_down.type_inv }) c.widened_down.ensures in
    let q = highs_back (λ (old new : ℤ). up_to (lt_z old new) old) c.args.self c.args.other c.widened_up.result (record { sfits = c.widened_up.type_inv }) c.widened_up.ensures in
    let e = ends_of (widen c.args.self c.args.other) _ _ (sym p) (sym q) in
    record { low = e.0; ordered = e.1.0; high = e.1.1.0 }

pub returns : goal.returns
returns c =
    let p = lows_back (λ (old new : ℤ). down_to (lt_z new old) old) c.args.self c.args.other c.widened_down.result (record { sfits = c.widened_down.type_inv }) c.widened_down.ensures in
    let q = highs_back (λ (old new : ℤ). up_to (lt_z old new) old) c.args.self c.args.other c.widened_up.result (record { sfits = c.widened_up.type_inv }) c.widened_up.ensures in
    interval_same _ _ p q
