use Rattle.std.proofs.Common.{ℤ, ◌+ℤ◌, ap₂, arith, w64, SFits, rules}
use lib.Signed.{le_z}
use Rattle.std.proofs.lemmas.Int.{ints, to_z-of_z}
use Rattle.model.proofs.side.sum_at_most.Goals as goal

pub returns : goal.returns
returns c =
    let f : SFits w64 c.times.result = search rules in
    let g : SFits w64 c.times-2.result = search rules in
    let u = c.ranges.v in let v = c.ranges.w in let b = c.ranges.c in
    let d : SFits w64 c.args.c = omega (arith, ints) in
    let p = c.times.ensures.small in let q = c.times-2.ensures.small in
    let s : SFits w64 (c.times.result +ℤ c.times-2.result) = omega (arith, ints) in
    let a = simp to_z-of_z at c.times.ensures.is in
    let e = simp to_z-of_z at c.times-2.ensures.is in
    simp to_z-of_z (ap₂ (λ (x y : ℤ). le_z (x +ℤ y) c.args.c) a e)
