use Rattle.std.proofs.Common.{◌≡◌, ◌<◌, length, rules, sym, ◌∙◌, arith, length-set}
use Rattle.std.proofs.lemmas.Iterator.{YieldsList-from_slice}
use Rattle.std.proofs.lemmas.Iterator.Consumers.{YieldsList-from_copied, YieldsList-from_enumerate}
use Rattle.certify.proofs.Copies.{hulled_turn, hulled_all}
use Rattle.certify.proofs.Walks.{numbered, numbered_over}
use Rattle.certify.proofs.axes.add_to_hulls.Goals as goal

pub invariant_of-range : goal.invariant_of-range
invariant_of-range g c =
    let road = YieldsList-from_enumerate (YieldsList-from_copied (YieldsList-from_slice c.args.hulls.now cc)) cc in
    let t = numbered c.args.hulls.now road c.loop-index.yielded _ c.loop-index.yielded_by _ _ _ c.in-Some.is c.next.ensures.steps in
    let at = t.0 in let inner = t.1.inner in let long = c.told-hulls in
    record { known = omega arith }

pub loop-index-preserved : goal.loop-index-preserved
loop-index-preserved g c =
    let road = YieldsList-from_enumerate (YieldsList-from_copied (YieldsList-from_slice c.args.hulls.now cc)) cc in
    let t = numbered c.args.hulls.now road c.loop-index.yielded _ c.loop-index.yielded_by _ _ _ c.in-Some.is c.next.ensures.steps in
    let inner = t.1.inner in let long = c.told-hulls in let kept = c.loop-index.invariant.0 in
    let room : length c.loop-index.yielded < length c.loop-index.hulls = omega arith in (
      length-set _ _ _ ∙ kept,
      hulled_turn g.D.Domain.lattice c.args.state.now c.args.hulls.now c.loop-index.hulls c.loop-index.yielded _ _ t room (search rules) ∙ c.loop-index.invariant.1,
    )

pub returns : goal.returns
returns g c =
    let road = YieldsList-from_enumerate (YieldsList-from_copied (YieldsList-from_slice c.args.hulls.now cc)) cc in
    let n = numbered_over c.args.hulls.now road c.loop-index.yielded _ c.loop-index.yielded_by _ _ c.in-None.is c.next.ensures.steps in
    let long = c.told-hulls in let kept = c.loop-index.invariant.0 in
    let same : length c.loop-index.hulls ≡ length c.args.hulls.now = omega arith in
    sym (hulled_all g.D.Domain.lattice c.args.state.now c.args.hulls.now c.loop-index.hulls (length c.loop-index.yielded) n same) ∙ c.loop-index.invariant.1
