use Rattle.std.proofs.Common.{ℕ, ◌^◌, ◌<◌, pos, ◌-ℤ◌, ◌*ℤ◌}
use Rattle.divisibility.specs.Multiples.{Multiple}
use Rattle.divisibility.specs.Gcds.{Gcd}
use Rattle.divisibility.proofs.bezout.extended_gcd.Given as goal

abbrev pub invariant-loop-b : goal.invariant-loop-b
invariant-loop-b l =
    ((g : ℕ) → Gcd l.a l.b g → Gcd l.m l.n g)
    × Multiple l.n ((pos l.p *ℤ pos l.m) -ℤ pos l.a)
    × Multiple l.n ((pos l.q *ℤ pos l.m) -ℤ pos l.b)
    × (l.p < l.n) × (l.q < l.n) × (l.a < 2 ^ 32) × (l.b < 2 ^ 32)

abbrev pub decreases-loop-b : goal.decreases-loop-b
decreases-loop-b l = l.b
