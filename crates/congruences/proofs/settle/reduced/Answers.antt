use Rattle.std.proofs.Common.{sym, refl, ◌∙◌, w64, SFits, rules}
use Rattle.std.proofs.lemmas.Int.{to_z-of_z}
use Rattle.divisibility.specs.Multiples.{remainder}
use Rattle.congruences.specs.Checks.{checked_some}
use Rattle.congruences.proofs.settle.reduced.Goals as goal

pub returns : goal.returns
returns c =
    let f : SFits w64 c.remainder.result = search rules in
    let g = c.ranges.r in
    sym (checked_some c.args.m (remainder c.args.r c.args.m) _ refl (to_z-of_z w64 c.remainder.result f ∙ (simp to_z-of_z at c.remainder.ensures.value)))
