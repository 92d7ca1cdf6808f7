use Rattle.std.proofs.Common.{arith}
use Rattle.std.proofs.lemmas.Int.{ints}
use Rattle.intervals.specs.Same.{ends_same}
use Rattle.intervals.proofs.interval.Interval.difference.Goals as goal

pub returns : goal.returns
returns c = ends_same _ _ (omega (arith, ints)) (omega (arith, ints))
