-- Multiples and remainders of whole numbers, below zero too.
use Rattle.std.specs.Prelude.{◌≡◌, ℕ, ◌%◌, Bool, cond, ℤ, pos, ◌-ℤ◌, ◌*ℤ◌, ◌==◌, unsigned_abs}
use Rattle.std.specs.Int.{int_rem_euclid}

-- z is a multiple of m; a multiple of 0 is 0
pub record Multiple (m : ℕ) (z : ℤ) : Type 0 where
  pub times : ℤ
  pub is : z ≡ times *ℤ pos m

-- the remainder of z by m, from 0 to m − 1
abbrev pub remainder : ℤ → ℕ → ℤ
remainder z m = int_rem_euclid z (pos m)

-- n divides m; 0 divides 0 alone
abbrev pub divides : ℕ → ℕ → Bool
divides n m = cond (n == 0) (m == 0) (m % n == 0)

-- r agrees with s modulo n
abbrev pub agrees : ℕ → ℤ → ℤ → Bool
agrees n r s = divides n (unsigned_abs (r -ℤ s))
