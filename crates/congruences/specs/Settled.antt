-- The congruence of any modulus and any residue, as far as it lies within the limit.
use Rattle.std.specs.Prelude.{◌≡◌, ℕ, ◌*◌, Bool, true, false, cond, ℤ, pos, ◌-ℤ◌, Some, None, Option, ◌==◌, int_le, nat_le, refl}
use Rattle.model.specs.Limits.{limit}
use Rattle.divisibility.specs.Multiples.{remainder}
use Rattle.congruences.specs.Shape.{proper}
use Rattle.congruences.specs.declared.congruence.Congruence.{Congruence}

-- by whether they are proper
unfoldable pub pick : (m : ℕ) (r : ℤ) (b : Bool) → proper m r ≡ b → Option Congruence
pick m r true e = Some (record { modulus = m; residue = r; ok = e })
pick m r false e = None

-- the congruence of those two numbers, where they make one
unfoldable pub checked : ℕ → ℤ → Option Congruence
checked m r = pick m r (proper m r) refl

-- of a modulus beyond twice the limit, and a remainder by it, at most one member lies within the limit
abbrev pub folded : ℕ → ℤ → Option Congruence
folded m r = cond (int_le r (pos limit)) (checked 0 r) (checked 0 (r -ℤ pos m))

-- the congruence of the numbers that differ from r by multiples of m
abbrev pub settled : ℕ → ℤ → Option Congruence
settled m r = cond (m == 0) (checked 0 r) (cond (nat_le m (2 * limit)) (checked m (remainder r m)) (folded m (remainder r m)))
