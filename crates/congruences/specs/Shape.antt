-- A congruence is a modulus from 0 to twice the limit and a residue: of modulus 0 a single number within the limit, else a remainder by the modulus.
use Rattle.std.specs.Prelude.{ℕ, ◌*◌, Bool, cond, ◌&&◌, ℤ, pos, ◌==◌, int_le, int_lt, nat_le}
use Rattle.model.specs.Environments.{fit}
use Rattle.model.specs.Limits.{limit}

-- the two numbers make a congruence
abbrev pub proper : ℕ → ℤ → Bool
proper m r = cond (m == 0) (fit r) (nat_le m (2 * limit) && (int_le (pos 0) r && int_lt r (pos m)))
