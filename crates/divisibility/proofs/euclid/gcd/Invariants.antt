use Rattle.std.proofs.Common.{ℕ}
use Rattle.divisibility.specs.Gcds.{Gcd}
use Rattle.divisibility.proofs.euclid.gcd.Given as goal

abbrev pub invariant-loop-y : goal.invariant-loop-y
invariant-loop-y l = (g : ℕ) → Gcd l.x l.y g → Gcd l.a l.b g

abbrev pub decreases-loop-y : goal.decreases-loop-y
decreases-loop-y l = l.y
