-- Ends as the code has them: they went to their 64 bits and back.
use Rattle.std.proofs.Common.{◌≡◌, ℤ, ◌∙◌, ap₂, arith, w32, w64, SFits, to_z, of_z}
use Rattle.std.proofs.lemmas.Int.{ints, to_z-of_z}
use Rattle.model.specs.Environments.{Lies, full}
use Rattle.intervals.specs.declared.interval.Interval.{Interval}

abbrev pub back : ℤ → ℤ
back n = to_z w64 (of_z w64 n)

-- the ends of an interval are within the limit
pub lo_lies : (x : Interval) → Lies x.lo full
lo_lies x = record { low = x.low; high = omega (arith, ints) }

pub hi_lies : (x : Interval) → Lies x.hi full
hi_lies x = record { low = omega (arith, ints); high = x.high }

-- a number within the limit fits, in 32 bits as in 64, and is the same when it is back
pub lies_fits : (n : ℤ) → Lies n full → SFits w64 n
lies_fits n p = omega (arith, ints)

pub lies_narrow : (n : ℤ) → Lies n full → SFits w32 n
lies_narrow n p = omega (arith, ints)

back_same : (n : ℤ) → Lies n full → back n ≡ n
back_same n p = to_z-of_z w64 n (lies_fits n p)

-- what is worked out from two lower ends, or from two upper ends
pub lows_back : (f : ℤ → ℤ → ℤ) (x y : Interval) (r : ℤ) → SFits w64 r → r ≡ f (back x.lo) (back y.lo) → back r ≡ f x.lo y.lo
lows_back f x y r h e = to_z-of_z w64 r h ∙ (e ∙ ap₂ f (back_same x.lo (lo_lies x)) (back_same y.lo (lo_lies y)))

pub highs_back : (f : ℤ → ℤ → ℤ) (x y : Interval) (r : ℤ) → SFits w64 r → r ≡ f (back x.hi) (back y.hi) → back r ≡ f x.hi y.hi
highs_back f x y r h e = to_z-of_z w64 r h ∙ (e ∙ ap₂ f (back_same x.hi (hi_lies x)) (back_same y.hi (hi_lies y)))
