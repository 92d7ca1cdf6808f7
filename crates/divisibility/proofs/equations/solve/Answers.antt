use Rattle.std.proofs.Common.{ℕ, ◌/◌, ◌<◌, Some, sym}
use borrow.Author.Tests.{both_ways}
use Rattle.divisibility.specs.Gcds.{Brings}
use Rattle.divisibility.specs.Equations.{makes}
use Rattle.divisibility.proofs.Divides.{divides_yes, divides_from}
use Rattle.divisibility.proofs.Bezouts.{quotient_is}
use Rattle.divisibility.proofs.Leasts.{least_below}
use Rattle.divisibility.proofs.Lcms.{gcd_positive, quotient_positive}
use Rattle.divisibility.proofs.Solving.{solved, solved_none, solved_some}
use Rattle.divisibility.proofs.equations.solve.Goals as goal

step-positive : (m n g k : ℕ) → 0 < n → Brings m n g k → 0 < n / g
step-positive m n g k h b = quotient_positive n g h (quotient_is g n (gcd_positive m n g h b.gcd) b.gcd.right)

pub nonzero_rem-result : goal.nonzero_rem-result
nonzero_rem-result c = step-positive c.args.m c.args.n c.extended_gcd-bezout.result.divisor c.extended_gcd-bezout.result.times c.requires.1.1.0 c.extended_gcd-bezout.ensures.brings

pub nonzero_rem-result-then-divides : goal.nonzero_rem-result-then-divides
nonzero_rem-result-then-divides c = step-positive c.args.m c.args.n c.extended_gcd-bezout.result.divisor c.extended_gcd-bezout.result.times c.requires.1.1.0 c.extended_gcd-bezout.ensures.brings

pub returns-then-divides : goal.returns-then-divides
returns-then-divides c =
    let d = divides_yes c.extended_gcd-bezout.result.divisor c.args.d (sym c.if-divides.ensures) in
    let v = sym (solved_some c.args.m c.args.n c.extended_gcd-bezout.result.divisor c.extended_gcd-bezout.result.times c.args.d c.requires.1.1.0 c.extended_gcd-bezout.ensures.brings d) in
    record { value = v; below = least_below c.args.n (makes c.args.m c.args.n c.args.d) (Some (solved c.args.d c.extended_gcd-bezout.result.divisor c.extended_gcd-bezout.result.times c.args.n)) v }

pub returns-else-divides : goal.returns-else-divides
returns-else-divides c = record {
  value = sym (solved_none c.args.m c.args.n c.extended_gcd-bezout.result.divisor c.args.d c.extended_gcd-bezout.ensures.brings.gcd
      (λ d. both_ways _ (sym c.if-divides.ensures) (divides_from c.extended_gcd-bezout.result.divisor c.args.d d)));
  below = tt;
}
