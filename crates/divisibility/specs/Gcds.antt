-- The greatest common divisor and the least common multiple, by divisibility and by computation.
use Rattle.std.specs.Prelude.{ℕ, zero, suc, ◌*◌, ◌/◌, ◌%◌, cond, ℤ, pos, ◌-ℤ◌, ◌*ℤ◌, ◌==◌}
use Rattle.divisibility.specs.Multiples.{Multiple}

-- g divides a and b, and so does each divisor of g, and no other number
pub record Gcd (a b g : ℕ) : Type 0 where
  pub left : Multiple g (pos a)
  pub right : Multiple g (pos b)
  pub greatest : (d : ℕ) → Multiple d (pos a) → Multiple d (pos b) → Multiple d (pos g)

-- l is a multiple of a and of b, and every number that is one of both is one of l
pub record Lcm (a b l : ℕ) : Type 0 where
  pub left : Multiple a (pos l)
  pub right : Multiple b (pos l)
  pub least : (z : ℤ) → Multiple a z → Multiple b z → Multiple l z

-- g is the gcd of m and n, and k times m is g, but for a multiple of n
pub record Brings (m n g k : ℕ) : Type 0 where
  pub gcd : Gcd m n g
  pub factor : Multiple n ((pos k *ℤ pos m) -ℤ pos g)

-- at most n steps of Euclid's rule
unfoldable pub gcd_by : ℕ → ℕ → ℕ → ℕ
gcd_by zero a b = a
gcd_by (suc n) a b = cond (b == 0) a (gcd_by n b (a % b))

-- by remainders: gcd (a, 0) is a, and else that of b and a's remainder by b
unfoldable pub gcd : ℕ → ℕ → ℕ
gcd a b = gcd_by (suc b) a b

abbrev pub lcm : ℕ → ℕ → ℕ
lcm m n = m * (n / gcd m n)
