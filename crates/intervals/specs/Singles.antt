-- Every number, and a single one.
use Rattle.std.specs.Prelude.{ℤ, pos, neg_ℤ}
use Rattle.std.specs.Int.Signed.{≤ℤ_refl}
use Rattle.model.specs.Limits.{limit}
use Rattle.intervals.specs.declared.interval.Interval.{Interval}
use Rattle.number_sets.specs.Clamped.{clamped, clamped_lies}

-- from limit to limit
abbrev pub whole : Interval
whole = record { lo = neg_ℤ (pos limit); hi = pos limit; low = record { le = tt }; ordered = record { le = tt }; high = record { le = tt } }

-- the interval of that number alone
abbrev pub single : ℤ → Interval
single n = record { lo = clamped n; hi = clamped n; low = (clamped_lies n).low; ordered = ≤ℤ_refl (clamped n); high = (clamped_lies n).high }
