-- A single number is never in need of a default.
use Rattle.std.specs.Prelude.{◌≡◌, ℤ, refl}
use Rattle.std.proofs.Common.{ap, sym}
use Rattle.model.specs.Environments.{Lies, full}
use Rattle.congruences.specs.Singles.{or_whole, single}
use Rattle.congruences.specs.declared.congruence.Congruence.{Congruence}
use Rattle.congruences.specs.Checks.{checked_some}
use Rattle.congruences.specs.Proper.{proper_single}
use Rattle.number_sets.specs.Clamped.{clamped, clamped_same}

-- what has modulus 0 and that residue is the single number
pub single_made : (n : ℤ) (c : Congruence) → c.modulus ≡ 0 → c.residue ≡ clamped n → c ≡ single n
single_made n c p q = sym (ap or_whole (checked_some 0 (clamped n) c p q))

-- the number n by itself
abbrev pub just : (n : ℤ) → Lies n full → Congruence
just n l = record { modulus = 0; residue = n; ok = proper_single n l }

pub single_is : (n : ℤ) (l : Lies n full) → single n ≡ just n l
single_is n l = sym (single_made n (just n l) refl (sym (clamped_same n l)))
