use Rattle.std.proofs.Common.{◌<◌, mod-lt, arith}
use Rattle.divisibility.proofs.Bringing.{next_same}
use Rattle.divisibility.proofs.bezout.less_product.Goals as goal

pub returns : goal.returns
returns c =
    let h : 0 < c.args.n = omega arith in
    record { below = mod-lt _ h; same = next_same c.args.p c.args.k c.args.q c.args.n h }
