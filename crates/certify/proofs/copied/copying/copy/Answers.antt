use Rattle.std.proofs.Common.{◌<◌, length, sym, ◌∙◌, arith, length-set}
use Rattle.certify.proofs.Copies.{copied_more, numbered_side}
use Rattle.certify.proofs.copied.copying.copy.Goals as goal

pub unreachable-requires : goal.unreachable-requires
unreachable-requires g c =
    let ss = (g.T.Travel.envelope c.args.travel.now).sides in
    let count = c.side_count-count.ensures in let inner = c.loop-n-test.true in
    let below : c.loop-n.n < length ss = omega arith in
    numbered_side ss c.loop-n.n below (sym c.in-None.is ∙ c.side.ensures)

pub loop-n-preserved : goal.loop-n-preserved
loop-n-preserved g c =
    let ss = (g.T.Travel.envelope c.args.travel.now).sides in
    let law = (g.met.T.Travel.lawful c.args.travel.now).few in
    let count = c.side_count-count.ensures in let inner = c.loop-n-test.true in let long = c.told-places in let kept = c.loop-n.invariant.0 in
    let room : c.loop-n.n < length c.loop-n.places = omega arith in
    (length-set _ _ _ ∙ kept, copied_more ss c.loop-n.places c.loop-n.n _ room (sym c.in-Some.is ∙ c.side.ensures) c.loop-n.invariant.1)
