-- What an interval and a range have in common.
use Rattle.std.specs.Prelude.{◌≡◌, ◌⊎◌, ℤ, Some, None, Option, refl}
use Rattle.std.proofs.Common.{ap, ◌∙◌, inl, inr, arith}
use Rattle.std.proofs.lemmas.Int.{ints, clamps}
use Rattle.std.specs.Int.{int_min, int_max}
use Rattle.model.specs.Environments.{Lies, full}
use Rattle.model.specs.declared.range.Range.{Range}
use Rattle.domain.specs.Lattice.{Inside, empty, single as only}
use Rattle.number_sets.specs.Sets.{HasSome}
use Rattle.intervals.specs.Intervals.{intervals}
use Rattle.intervals.specs.Made.{In}
use Rattle.intervals.specs.Singles.{single}
use Rattle.intervals.specs.Ranges.{narrow, spread}
use Rattle.intervals.specs.declared.interval.Interval.{Interval}
use Rattle.intervals.specs.Makes.{made_in, made_some, made_ends}
use Rattle.number_sets.specs.Clamped.{clamped_same}

pub narrow_in : (x : Interval) (z : Range) (n : ℤ) → In n x → Lies n z → HasSome intervals (narrow x z) n
narrow_in x z n h k = made_in _ _ n (omega (arith, ints, clamps)) (omega (arith, ints, clamps)) (omega (arith, ints, clamps)) (omega (arith, ints, clamps))

-- what is left is not empty, and lies inside the range
pub range_inside : (x : Interval) (z : Range) → Inside (spread (narrow x z)) z ⊎ (spread (narrow x z) ≡ empty)
range_inside x z = by (narrow x z) refl
  where
    by : (o : Option Interval) → narrow x z ≡ o → Inside (spread o) z ⊎ (spread o ≡ empty)
    by None e = inr refl
    by (Some y) e =
        let p = made_ends (int_max x.lo z.lo) (int_min x.hi z.hi) y e in
        inl (record { low = omega (arith, ints, clamps); ordered = y.ordered; high = omega (arith, ints, clamps) })

spread_lies : (o : Option Interval) (n : ℤ) → HasSome intervals o n → Lies n (spread o)
spread_lies None n h = absurd h
spread_lies (Some y) n h = record { low = h.low; high = h.high }

pub range_lies : (x : Interval) (z : Range) (n : ℤ) → In n x → Lies n z → Lies n (spread (narrow x z))
range_lies x z n h k = spread_lies (narrow x z) n (narrow_in x z n h k)

-- narrowed to one of its numbers, an interval is that number
pub narrow_pin : (x : Interval) (n : ℤ) → Lies n full → In n x → narrow x (only n) ≡ Some (single n)
narrow_pin x n p h = let e = clamped_same n p in made_some _ _ (single n) (omega (arith, ints, clamps)) (omega (arith, ints, clamps))

pub narrow_single : (n : ℤ) (z : Range) → Lies n full → Lies n z → narrow (single n) z ≡ Some (single n)
narrow_single n z p h = let e = clamped_same n p in made_some _ _ (single n) (omega (arith, ints, clamps)) (omega (arith, ints, clamps))

pub range_single : (n : ℤ) (z : Range) → Lies n full → Lies n z → spread (narrow (single n) z) ≡ only n
range_single n z p h = ap spread (narrow_single n z p h) ∙ ap only (clamped_same n p)
