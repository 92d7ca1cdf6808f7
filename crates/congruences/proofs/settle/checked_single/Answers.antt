use Rattle.std.proofs.Common.{sym, refl, w64}
use Rattle.std.proofs.lemmas.Int.{to_z-of_z}
use Rattle.congruences.specs.Checks.{checked_none, checked_some}
use Rattle.congruences.proofs.settle.checked_single.Goals as goal

pub returns-then-fits : goal.returns-then-fits
returns-then-fits c = sym (checked_some 0 c.args.r _ refl (to_z-of_z w64 c.args.r c.ranges.r))

pub returns-else-fits : goal.returns-else-fits
returns-else-fits c = let f = c.ranges.r in sym (checked_none 0 c.args.r (sym (simp to_z-of_z at c.if-fits.ensures)))
