use Rattle.std.proofs.Common.{sym, arith}
use Rattle.std.proofs.lemmas.Int.{ints}
use Rattle.intervals.specs.Makes.{made_some, made_none, too_low, crossed, too_high}
use Rattle.intervals.proofs.interval.spans.made.Goals as goal
use Rattle.intervals.proofs.interval.spans.made.Goals.{else-lo-via-then-lo+then-lo-hi+else-hi, else-lo-via-then-lo+else-lo-hi, else-lo-via-else-lo}

pub returns-then-hi : goal.returns-then-hi
returns-then-hi c = sym (made_some _ _ _ (omega (arith, ints)) (omega (arith, ints)))

pub returns-else-lo : goal.returns-else-lo
returns-else-lo c = sym (made_none _ _ (elim c.else-lo.branch [
  | else-lo-via-then-lo+then-lo-hi+else-hi w ↦ too_high c.args.lo c.args.hi (omega (arith, ints))
  | else-lo-via-then-lo+else-lo-hi w ↦ crossed c.args.lo c.args.hi (omega (arith, ints))
  | else-lo-via-else-lo w ↦ too_low c.args.lo c.args.hi (omega (arith, ints))
]))
