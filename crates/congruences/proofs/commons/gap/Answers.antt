use Rattle.std.proofs.Common.{◌-ℤ◌, nat_abs, ap, ◌∙◌, arith, w64, SFits, rules}
use Rattle.std.proofs.lemmas.Int.{ints, to_z-of_z}
use Rattle.congruences.proofs.Gaps.{gap_below, gap_same}
use Rattle.congruences.specs.Proper.{bounded}
use Rattle.congruences.proofs.commons.gap.Goals as goal

pub returns : goal.returns
returns c =
    let x = bounded c.args.x in let y = bounded c.args.y in
    let a = x.low in let b = x.high in let d = y.low in let e = y.high in
    let f : SFits w64 c.args.x.residue = omega (arith, ints) in
    let g : SFits w64 c.args.y.residue = omega (arith, ints) in
    let h : SFits w64 (c.args.y.residue -ℤ c.args.x.residue) = omega (arith, ints) in
    let i : SFits w64 c.remainder.result = search rules in
    let m = simp to_z-of_z at c.remainder.ensures.value in
    let u = simp to_z-of_z at c.unsigned_abs.ensures.value in
    let v = u ∙ ap nat_abs m in
    record {
      below = gap_below (c.args.y.residue -ℤ c.args.x.residue) c.args.y.modulus c.unsigned_abs.result c.requires v;
      same = gap_same (c.args.y.residue -ℤ c.args.x.residue) c.args.y.modulus c.unsigned_abs.result c.requires v;
    }
