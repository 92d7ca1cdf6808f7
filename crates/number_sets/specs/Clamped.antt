-- Numbers brought within the limit.
use Rattle.std.specs.Prelude.{◌≡◌, ℤ, pos, neg_ℤ}
use Rattle.std.specs.Int.{int_min, int_max}
use Rattle.std.proofs.Common.{arith}
use Rattle.std.proofs.lemmas.Int.{ints, clamps}
use Rattle.model.specs.Limits.{limit}
use Rattle.model.specs.Environments.{Lies, full}

-- n, or the limit that it passed
abbrev pub clamped : ℤ → ℤ
clamped n = int_max (neg_ℤ (pos limit)) (int_min n (pos limit))

pub clamped_lies : (n : ℤ) → Lies (clamped n) full
clamped_lies n = record { low = omega (arith, ints, clamps); high = omega (arith, ints, clamps) }

-- a number within the limit is not moved
pub clamped_same : (n : ℤ) → Lies n full → clamped n ≡ n
clamped_same n l = let a = l.low in let b = l.high in omega (arith, ints, clamps)
