-- The first and the last member, as the code makes them.
use Rattle.std.proofs.Common.{◌≡◌, Bool, cond, ℤ, ◌+ℤ◌, ◌-ℤ◌, sym, ap, ◌∙◌, ne_eqb}
use Rattle.divisibility.specs.Multiples.{remainder}
use Rattle.congruences.specs.Ranges.{first, last}
use Rattle.congruences.specs.declared.congruence.Congruence.{Congruence}

pub first_done : (x : Congruence) (lo t : ℤ) → (x.modulus ≡ 0 → ⊥) → t ≡ remainder (x.residue -ℤ lo) x.modulus → lo +ℤ t ≡ first x lo
first_done x lo t n e = ap (λ (a : ℤ). lo +ℤ a) e ∙ sym (ap (λ (b : Bool). cond b x.residue (lo +ℤ remainder (x.residue -ℤ lo) x.modulus)) (ne_eqb x.modulus 0 n))

pub last_done : (x : Congruence) (hi t : ℤ) → (x.modulus ≡ 0 → ⊥) → t ≡ remainder (hi -ℤ x.residue) x.modulus → hi -ℤ t ≡ last x hi
last_done x hi t n e = ap (λ (a : ℤ). hi -ℤ a) e ∙ sym (ap (λ (b : Bool). cond b x.residue (hi -ℤ remainder (hi -ℤ x.residue) x.modulus)) (ne_eqb x.modulus 0 n))
