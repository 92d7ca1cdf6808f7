use Rattle.std.proofs.Common.{refl, arith, w32, w64, SFits, rules}
use Rattle.std.proofs.lemmas.Int.{ints, to_z-of_z}
use Rattle.congruences.specs.SinglesLemmas.{single_made}
use Rattle.congruences.proofs.numbers.CongruenceNumberSet.single.Goals as goal

pub returns : goal.returns
returns c =
    let f = c.ranges.n in
    let g : SFits w32 c.clamp.result = search rules in
    let h : SFits w64 c.clamp.result = omega (arith, ints) in
    single_made c.args.n _ refl (simp to_z-of_z (simp to_z-of_z at c.clamp.ensures.value))
