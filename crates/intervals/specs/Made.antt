-- An interval from its two ends, and the numbers that it has.
use Rattle.std.specs.Prelude.{◌≡◌, Bool, true, false, ◌&&◌, ℤ, pos, neg_ℤ, ◌≤ℤ◌, Some, None, Option, int_le, refl}
use Rattle.std.proofs.lemmas.Bool.{and_parts}
use Rattle.model.specs.Limits.{limit}
use Rattle.intervals.specs.declared.interval.Interval.{Interval}
use Rattle.model.proofs.Numbers.{true_le}

-- the ends are in order, and within the limit
abbrev pub proper : ℤ → ℤ → Bool
proper lo hi = int_le (neg_ℤ (pos limit)) lo && (int_le lo hi && int_le hi (pos limit))

-- the interval lo..hi, of proper ends
abbrev pub between : (lo hi : ℤ) → proper lo hi ≡ true → Interval
between lo hi e =
    let p = and_parts (int_le (neg_ℤ (pos limit)) lo) (int_le lo hi && int_le hi (pos limit)) e in
    let q = and_parts (int_le lo hi) (int_le hi (pos limit)) p.1 in
    record { lo = lo; hi = hi; low = true_le (neg_ℤ (pos limit)) lo p.0; ordered = true_le lo hi q.0; high = true_le hi (pos limit) q.1 }

-- that interval or none, by whether the ends are proper
unfoldable pub pick : (lo hi : ℤ) (b : Bool) → proper lo hi ≡ b → Option Interval
pick lo hi true e = Some (between lo hi e)
pick lo hi false e = None

-- lo..hi, or none where that is empty or reaches beyond the limit
unfoldable pub made : ℤ → ℤ → Option Interval
made lo hi = pick lo hi (proper lo hi) refl

-- a number of an interval
pub record In (v : ℤ) (x : Interval) : Type 0 where
  pub low : x.lo ≤ℤ v
  pub high : v ≤ℤ x.hi
