use Rattle.std.proofs.Common.{arith}
use Rattle.std.proofs.lemmas.Iterator.{YieldsList-from_slice}
use Rattle.std.proofs.lemmas.Iterator.Consumers.{YieldsList-from_copied, YieldsList-from_enumerate}
use Rattle.certify.proofs.Walks.{numbered}
use Rattle.certify.proofs.axes.set_axes.Goals as goal

pub invariant_of-set_axis : goal.invariant_of-set_axis
invariant_of-set_axis g c =
    let road = YieldsList-from_enumerate (YieldsList-from_copied (YieldsList-from_slice c.args.values.now cc)) cc in
    let t = numbered c.args.values.now road c.loop-index.yielded _ c.loop-index.yielded_by _ _ _ c.in-Some.is c.next.ensures.steps in
    let at = t.0 in let inner = t.1.inner in let long = c.told-values in
    record { known = omega arith }
