use Rattle.std.proofs.Common.{◌≡◌, ℕ, true, ℤ, sym, ap, ◌∙◌, subst₂, arith, w64, SFits, rules}
use Rattle.std.proofs.lemmas.Int.{to_z-of_z}
use Rattle.congruences.specs.Shape.{proper}
use Rattle.congruences.specs.Joining.{hull_is, join_proper, join_small, joined, rest}
use Rattle.congruences.specs.Same.{congruence_same}
use Rattle.congruences.proofs.congruence.Congruence.hull_with.Goals as goal

pub rest-requires : goal.rest-requires
rest-requires c = let e = c.hull_modulus-m.ensures in let s = join_small c.args.self c.args.other in omega arith

pub invariant_of-result : goal.invariant_of-result
invariant_of-result c =
    let f : SFits w64 c.args.self.residue = search rules in
    let g : SFits w64 c.rest.result = search rules in
    let e = to_z-of_z w64 c.rest.result g ∙ ((simp to_z-of_z at c.rest.ensures) ∙ ap (λ (m : ℕ). rest m c.args.self.residue) c.hull_modulus-m.ensures) in
    record { ok = subst₂ (λ (m : ℕ) (r : ℤ). proper m r ≡ true) (sym c.hull_modulus-m.ensures) (sym e) (join_proper c.args.self c.args.other) }

pub returns : goal.returns
returns c =
    let f : SFits w64 c.args.self.residue = search rules in
    let g : SFits w64 c.rest.result = search rules in
    let e = to_z-of_z w64 c.rest.result g ∙ ((simp to_z-of_z at c.rest.ensures) ∙ ap (λ (m : ℕ). rest m c.args.self.residue) c.hull_modulus-m.ensures) in
    congruence_same _ (joined c.args.self c.args.other) c.hull_modulus-m.ensures e ∙ sym (hull_is c.args.self c.args.other)
