use Rattle.std.proofs.Common.{◌≡◌, ℕ, ◌<◌, sym, subst, mod-lt, arith}
use Rattle.divisibility.specs.Gcds.{Gcd}
use Rattle.divisibility.proofs.Gcds.{gcd_step, gcd_zero}
use Rattle.divisibility.proofs.Bringing.{start_left, start_right, turned}
use Rattle.divisibility.proofs.bezout.extended_gcd.Goals as goal

pub loop-b-init : goal.loop-b-init
loop-b-init c =
    let h : 0 < c.args.n = omega arith in
    ((λ g p. p), start_left c.args.m c.args.n h, start_right c.args.m c.args.n, mod-lt 1 h, h, omega arith, omega arith)

pub loop-b-preserved : goal.loop-b-preserved
loop-b-preserved c =
    let i = c.loop-b.invariant in
    let z : 0 < c.loop-b.b = omega arith in
    let l = mod-lt c.loop-b.a z in
    let s = i.6 in (
      (λ g p. i.0 g (gcd_step c.loop-b.a c.loop-b.b g p)),
      i.2,
      turned c.args.m c.args.n c.loop-b.a c.loop-b.b c.loop-b.p c.loop-b.q c.less_product-more.result i.1 i.2 c.less_product-more.ensures.same,
      i.4,
      c.less_product-more.ensures.below,
      i.6,
      omega arith,
    )

pub returns : goal.returns
returns c =
    let i = c.loop-b.invariant in
    let z : c.loop-b.b ≡ 0 = omega arith in
    record {
      brings = record {
        gcd = i.0 c.loop-b.a (subst (λ (b : ℕ). Gcd c.loop-b.a b c.loop-b.a) (sym z) (gcd_zero c.loop-b.a));
        factor = i.1;
      };
      below = i.3;
    }
