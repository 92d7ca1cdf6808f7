-- How often a congruence can still be widened: each time its modulus becomes a proper divisor, so at most half.
use Rattle.std.specs.Prelude.{ℕ, zero, suc, ◌^◌, cond, ◌==◌, nat_le}
use Rattle.congruences.specs.declared.congruence.Congruence.{Congruence}

-- the greatest k, at most n, with 2 ^ k at most m
unfoldable pub log_to : ℕ → ℕ → ℕ
log_to zero m = 0
log_to (suc n) m = cond (nat_le (2 ^ suc n) m) (suc n) (log_to n m)

-- 2 ^ 25 passes twice the limit; a single number becomes a modulus once
abbrev pub most_room : ℕ
most_room = 25

abbrev pub room : Congruence → ℕ
room c = cond (c.modulus == 0) most_room (log_to 24 c.modulus)
