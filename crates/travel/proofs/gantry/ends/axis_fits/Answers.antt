-- The test of three gets is the test of the axis.
use Rattle.std.proofs.Common.{w32, SFits, rules}
use Rattle.std.proofs.lemmas.Int.{to_z-of_z}
use Rattle.travel.proofs.gantry.ends.axis_fits.Goals as goal

pub returns : goal.returns
returns c =
    let f : SFits w32 c.get.result = search rules in
    let g : SFits w32 c.get-2.result = search rules in
    let h : SFits w32 c.get-3.result = search rules in
    let e = simp to_z-of_z at c.in_order.ensures in
    cc (c.get.ensures, c.get-2.ensures, c.get-3.ensures)
