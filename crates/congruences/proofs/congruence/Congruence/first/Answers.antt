use Rattle.std.proofs.Common.{◌≡◌, ℤ, ◌+ℤ◌, ◌-ℤ◌, ap, ◌∙◌, arith, w32, w64, SFits, to_z, of_z, rules}
use Rattle.std.proofs.lemmas.Int.{ints, to_z-of_z}
use Rattle.divisibility.specs.Multiples.{remainder}
use Rattle.congruences.proofs.Firsts.{first_done}
use Rattle.congruences.specs.Proper.{bounded}
use Rattle.congruences.proofs.congruence.Congruence.first.Goals as goal

pub returns-else-self-eq0 : goal.returns-else-self-eq0
returns-else-self-eq0 c =
    let b = bounded c.args.self in
    let low = b.low in let high = b.high in let small = b.small in
    let f : SFits w64 c.args.self.residue = omega (arith, ints) in
    let g = c.ranges.lo in
    let h : SFits w64 c.args.lo = omega (arith, ints) in
    let d : SFits w64 (c.args.self.residue -ℤ c.args.lo) = omega (arith, ints) in
    let w : to_z w64 (of_z w64 (to_z w64 (of_z w64 c.args.self.residue) -ℤ to_z w64 (of_z w64 (to_z w32 (of_z w32 c.args.lo))))) ≡ c.args.self.residue -ℤ c.args.lo = omega (arith, ints) in
    let e = c.remainder.ensures.value ∙ ap (λ (z : ℤ). remainder z c.args.self.modulus) w in
    let k = c.remainder.ensures.low in let l = c.remainder.ensures.high in
    let r : SFits w64 c.remainder.result = search rules in
    let s : SFits w64 (c.args.lo +ℤ c.remainder.result) = omega (arith, ints) in
    simp to_z-of_z (first_done c.args.self c.args.lo c.remainder.result c.if-self-eq0.false e)
