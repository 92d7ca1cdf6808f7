use Rattle.std.proofs.Common.{ℕ, ◌*◌, ◌/◌, sym, ap, subst, div-le_self}
use Rattle.divisibility.specs.Gcds.{Lcm}
use Rattle.divisibility.proofs.Lcms.{lcm_is, product_mono}
use Rattle.divisibility.proofs.euclid.lcm.Goals as goal

pub returns : goal.returns
returns c =
    let e = ap (λ (g : ℕ). c.args.m * (c.args.n / g)) c.gcd.ensures.value in
    record {
      value = e;
      small = product_mono c.args.m (c.args.n / c.gcd.result) c.args.n (div-le_self c.args.n c.gcd.result);
      least = subst (Lcm c.args.m c.args.n) (sym e) (lcm_is c.args.m c.args.n c.requires.1.0);
    }
