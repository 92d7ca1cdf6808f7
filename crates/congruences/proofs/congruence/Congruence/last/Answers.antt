use Rattle.std.proofs.Common.{◌-ℤ◌, arith, w64, SFits, rules}
use Rattle.std.proofs.lemmas.Int.{ints, to_z-of_z}
use Rattle.congruences.proofs.Firsts.{last_done}
use Rattle.congruences.specs.Proper.{bounded}
use Rattle.congruences.proofs.congruence.Congruence.last.Goals as goal

pub returns-else-self-eq0 : goal.returns-else-self-eq0
returns-else-self-eq0 c =
    let b = bounded c.args.self in
    let low = b.low in let high = b.high in let small = b.small in
    let f : SFits w64 c.args.self.residue = omega (arith, ints) in
    let g = c.ranges.hi in
    let h : SFits w64 c.args.hi = omega (arith, ints) in
    let d : SFits w64 (c.args.hi -ℤ c.args.self.residue) = omega (arith, ints) in
    let e = simp to_z-of_z at c.remainder.ensures.value in
    let k = c.remainder.ensures.low in let l = c.remainder.ensures.high in
    let r : SFits w64 c.remainder.result = search rules in
    let s : SFits w64 (c.args.hi -ℤ c.remainder.result) = omega (arith, ints) in
    simp to_z-of_z (last_done c.args.self c.args.hi c.remainder.result c.if-self-eq0.false e)
