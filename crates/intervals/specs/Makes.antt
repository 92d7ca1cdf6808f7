-- What `made` gives: the interval with those ends, or none.
use Rattle.std.specs.Prelude.{◌≡◌, ℕ, Bool, true, false, ℤ, pos, neg_ℤ, ◌≤ℤ◌, ◌<ℤ◌, Some, None, int_le, refl}
use Rattle.std.proofs.Common.{ap, ap₂, sym, ◌∙◌, arith}
use Rattle.std.proofs.lemmas.Int.{ints}
use Rattle.std.proofs.lemmas.Bool.{both_ways, and_left, and_right}
use Rattle.model.specs.Limits.{limit}
use Rattle.number_sets.specs.Sets.{HasSome}
use Rattle.intervals.specs.Intervals.{intervals}
use Rattle.intervals.specs.Made.{proper, pick, made}
use Rattle.intervals.specs.declared.interval.Interval.{Interval}
use Rattle.intervals.specs.Same.{interval_same}
use Rattle.model.proofs.Numbers.{le_true, lt_false}

-- ---- the test
proper_yes : (lo hi : ℤ) → neg_ℤ (pos limit) ≤ℤ lo → lo ≤ℤ hi → hi ≤ℤ pos limit → proper lo hi ≡ true
proper_yes lo hi p q r = rw (le_true (neg_ℤ (pos limit)) lo p, le_true lo hi q, le_true hi (pos limit) r)

-- the three ways not to be an interval
pub too_low : (lo hi : ℤ) → lo <ℤ neg_ℤ (pos limit) → proper lo hi ≡ false
too_low lo hi h = and_left (int_le (neg_ℤ (pos limit)) lo) _ (lt_false (neg_ℤ (pos limit)) lo h)

pub crossed : (lo hi : ℤ) → hi <ℤ lo → proper lo hi ≡ false
crossed lo hi h = and_right (int_le (neg_ℤ (pos limit)) lo) _ (and_left (int_le lo hi) _ (lt_false lo hi h))

pub too_high : (lo hi : ℤ) → pos limit <ℤ hi → proper lo hi ≡ false
too_high lo hi h = and_right (int_le (neg_ℤ (pos limit)) lo) _ (and_right (int_le lo hi) _ (lt_false hi (pos limit) h))

-- ---- what is made
pick_some : (lo hi : ℤ) (b : Bool) (e : proper lo hi ≡ b) (x : Interval) → x.lo ≡ lo → x.hi ≡ hi → proper lo hi ≡ true → pick lo hi b e ≡ Some x
unfolding pick
pick_some lo hi true e x p q h = ap Some (interval_same _ _ (sym p) (sym q))
pick_some lo hi false e x p q h = absurd (both_ways (proper lo hi) e h)

-- an interval is made from its ends
pub made_some : (lo hi : ℤ) (x : Interval) → x.lo ≡ lo → x.hi ≡ hi → made lo hi ≡ Some x
unfolding made
made_some lo hi x p q =
    pick_some lo hi (proper lo hi) refl x p q (ap₂ proper (sym p) (sym q) ∙ proper_yes x.lo x.hi x.low x.ordered x.high)

pick_none : (lo hi : ℤ) (b : Bool) (e : proper lo hi ≡ b) → proper lo hi ≡ false → pick lo hi b e ≡ None
unfolding pick
pick_none lo hi true e h = absurd (both_ways (proper lo hi) h e)
pick_none lo hi false e h = refl

pub made_none : (lo hi : ℤ) → proper lo hi ≡ false → made lo hi ≡ None
unfolding made
made_none lo hi h = pick_none lo hi (proper lo hi) refl h

-- nothing is made where the ends crossed
pub made_crossed : (lo hi : ℤ) → hi <ℤ lo → made lo hi ≡ None
made_crossed lo hi h = made_none lo hi (crossed lo hi h)

pick_in : (lo hi v : ℤ) (b : Bool) (e : proper lo hi ≡ b) → neg_ℤ (pos limit) ≤ℤ lo → hi ≤ℤ pos limit → lo ≤ℤ v → v ≤ℤ hi → HasSome intervals (pick lo hi b e) v
unfolding pick
pick_in lo hi v true e p q h k = record { low = h; high = k }
pick_in lo hi v false e p q h k = absurd (both_ways (proper lo hi) e (proper_yes lo hi p (omega (arith, ints)) q))

-- every number from lo to hi is in what is made
pub made_in : (lo hi v : ℤ) → neg_ℤ (pos limit) ≤ℤ lo → hi ≤ℤ pos limit → lo ≤ℤ v → v ≤ℤ hi → HasSome intervals (made lo hi) v
unfolding made
made_in lo hi v p q h k = pick_in lo hi v (proper lo hi) refl p q h k

-- the ends of what is made
pick_ends : (lo hi : ℤ) (b : Bool) (e : proper lo hi ≡ b) (x : Interval) → pick lo hi b e ≡ Some x → (x.lo ≡ lo) × (x.hi ≡ hi)
unfolding pick
pick_ends lo hi true e x h = (cc, cc)
pick_ends lo hi false e x h = let z : ◌≡◌ {A = ℕ} 0 1 = cc in absurd (omega arith)

pub made_ends : (lo hi : ℤ) (x : Interval) → made lo hi ≡ Some x → (x.lo ≡ lo) × (x.hi ≡ hi)
unfolding made
made_ends lo hi x h = pick_ends lo hi (proper lo hi) refl x h
