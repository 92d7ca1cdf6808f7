-- Ends that pass the test are in order on each axis.
use Rattle.std.proofs.Common.{sym}
use Rattle.std.proofs.lemmas.Bool.{and_parts}
use Rattle.travel.proofs.Orders.{ordered_ends}
use Rattle.travel.proofs.gantry.Gantry.new.Goals as goal

pub invariant_of-result : goal.invariant_of-result
invariant_of-result c =
    let xyzu = and_parts _ _ (sym c.if-ends_fit.ensures) in
    let xyz = and_parts _ _ xyzu.0 in
    let xy = and_parts _ _ xyz.0 in
    record {
      x = ordered_ends _ _ _ xy.0;
      y = ordered_ends _ _ _ xy.1;
      z = ordered_ends _ _ _ xyz.1;
      u = ordered_ends _ _ _ xyzu.1;
    }
