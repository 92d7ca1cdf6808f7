use Rattle.std.proofs.Common.{sym, arith}
use Rattle.std.proofs.lemmas.Int.{ints}
use Rattle.intervals.specs.Makes.{made_some, made_none, crossed}
use Rattle.intervals.proofs.interval.spans.ordered.Goals as goal

pub returns-then-lo-hi : goal.returns-then-lo-hi
returns-then-lo-hi c = sym (made_some _ _ _ (omega (arith, ints)) (omega (arith, ints)))

pub returns-else-lo-hi : goal.returns-else-lo-hi
returns-else-lo-hi c = sym (made_none _ _ (crossed c.args.lo c.args.hi (omega (arith, ints))))
