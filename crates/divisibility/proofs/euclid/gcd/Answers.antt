use Rattle.std.proofs.Common.{◌≡◌, ℕ, sym, subst, arith}
use Rattle.divisibility.specs.Gcds.{Gcd}
use Rattle.divisibility.proofs.Gcds.{gcd_is, gcd_only, gcd_step, gcd_zero}
use Rattle.divisibility.proofs.euclid.gcd.Goals as goal

pub loop-y-preserved : goal.loop-y-preserved
loop-y-preserved c = λ g h. c.loop-y.invariant g (gcd_step c.loop-y.x c.loop-y.y g h)

pub returns : goal.returns
returns c =
    let z : c.loop-y.y ≡ 0 = omega arith in
    let g : Gcd c.args.a c.args.b c.loop-y.x = c.loop-y.invariant c.loop-y.x (subst (λ (y : ℕ). Gcd c.loop-y.x y c.loop-y.x) (sym z) (gcd_zero c.loop-y.x)) in
    record { value = gcd_only _ _ _ _ g (gcd_is c.args.a c.args.b); greatest = g }
