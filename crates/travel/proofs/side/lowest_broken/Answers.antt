-- The first side that does not hold is the lowest broken one; where none is left, there is none.
use Rattle.std.proofs.Common.{sym, ◌∙◌}
use Rattle.model.specs.Sides.{kept}
use Rattle.travel.proofs.Broken.{found, passed, spent}
use Rattle.travel.proofs.side.lowest_broken.Goals as goal

pub returns-then-not-holds : goal.returns-then-not-holds
returns-then-not-holds g c =
    let ss = (g.T.Travel.envelope c.args.travel.now).sides in
    let f = found (kept c.args.p) ss c.loop-n.n _ c.in_ok-side.ensures c.if-not-holds.ensures in
    sym (c.loop-n.invariant ∙ f)

pub returns-in_err-side : goal.returns-in_err-side
returns-in_err-side g c =
    let ss = (g.T.Travel.envelope c.args.travel.now).sides in
    c.from_residual.ensures ∙ sym (c.loop-n.invariant ∙ spent (kept c.args.p) ss c.loop-n.n c.in_err-side.ensures)

pub loop-n-preserved : goal.loop-n-preserved
loop-n-preserved g c =
    let ss = (g.T.Travel.envelope c.args.travel.now).sides in
    c.loop-n.invariant
    ∙ passed (kept c.args.p) ss c.loop-n.n _ c.in_ok-side.ensures c.if-not-holds.ensures
