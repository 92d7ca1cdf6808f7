-- A beam stands on a gantry that is made, and its gap is the one that was tested.
use Rattle.std.proofs.Common.{sym, w32, SFits, rules}
use Rattle.std.proofs.lemmas.Int.{to_z-of_z}
use Rattle.travel.proofs.Orders.{gap_wide}
use Rattle.travel.proofs.beam.Beam.new.Goals as goal

pub invariant_of-result : goal.invariant_of-result
invariant_of-result c =
    let f : SFits w32 c.args.gap = search rules in
    let w = gap_wide c.args.ends.home c.args.gap (sym (simp to_z-of_z at c.if-gap_fits.ensures)) in
    simp (to_z-of_z, c.in_ok-base.ensures.1) (record { wide = w })

pub returns-else-gap_fits : goal.returns-else-gap_fits
returns-else-gap_fits c =
    let f : SFits w32 c.args.gap = search rules in
    (c.in_ok-base.ensures.0, sym (simp to_z-of_z at c.if-gap_fits.ensures))
