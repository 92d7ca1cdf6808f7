-- Every pair of numbers that meets a condition is left by it.
use Rattle.std.specs.Prelude.{◌≡◌, Bool, true, false, cond, ℤ, pos, ◌+ℤ◌, ◌-ℤ◌, ◌≤ℤ◌, Some, None, Option, ◌≢◌, int_le, int_lt, refl}
use Rattle.std.proofs.Common.{sym, ◌∙◌, subst, arith}
use Rattle.std.proofs.lemmas.Int.{ints, clamps}
use Rattle.std.proofs.lemmas.Bool.{both_ways, not-true}
use Rattle.std.specs.Int.{int_min, int_max}
use Rattle.model.specs.Values.{same, compare}
use Rattle.model.specs.declared.expression.Rel.{Rel}
use Rattle.model.specs.declared.expression.Rel.TheVariants.{Eq, Ne, Lt, Le, Gt, Ge}
use Rattle.number_sets.specs.declared.sets.Pair.{Pair}
use Rattle.number_sets.specs.Sets.{HasSome, HasPair}
use Rattle.intervals.specs.Intervals.{intervals}
use Rattle.intervals.specs.Made.{made, In}
use Rattle.number_sets.specs.Pairs.{both}
use Rattle.intervals.specs.Conditions.{turned_all, below, up_from, down_from, except, kept}
use Rattle.intervals.specs.declared.interval.Interval.{Interval}
use Rattle.intervals.specs.Makes.{made_in}
use Rattle.intervals.specs.SpansLemmas.{meet_in}
use Rattle.model.proofs.Numbers.{same_is}

-- ---- tests
pub lt_gap : (a b : ℤ) → int_lt a b ≡ true → (a +ℤ pos 1) ≤ℤ b
lt_gap a b h = grind (arith, ints)

pub le_gap : (a b : ℤ) → int_le a b ≡ true → (a +ℤ pos 0) ≤ℤ b
le_gap a b h = grind (arith, ints)

pub eq_no : (a b : ℤ) → same a b ≡ false → a ≢ b
eq_no a b h e = never a (subst (λ (x : ℤ). same a x ≡ false) (sym e) h)
  where
    refl_le : (x : ℤ) → int_le x x ≡ true
    refl_le x = grind (arith, ints)

    never : (x : ℤ) → same x x ≢ false
    never x k = let m = refl_le x in both_ways (same x x) k (rw m)

-- ---- sides
both_in : (u v : ℤ) (a b : Option Interval) → HasSome intervals a u → HasSome intervals b v → HasPair intervals (both a b) u v
both_in u v None b h k = elim h [ ]
both_in u v (Some x) None h k = elim k [ ]
both_in u v (Some x) (Some y) h k = (h, k)

turned_in : (u v : ℤ) (p : Option (Pair Interval)) → HasPair intervals p u v → HasPair intervals (turned_all p) v u
turned_in u v None h = h
turned_in u v (Some p) h = (h.1, h.0)

below_in : (gap u v : ℤ) (x y : Interval) → (u +ℤ gap) ≤ℤ v → In u x → In v y → HasPair intervals (below gap x y) u v
below_in gap u v x y l h k = both_in u v _ _
    (made_in x.lo (int_min x.hi (y.hi -ℤ gap)) u x.low (omega (arith, ints, clamps)) h.low (omega (arith, ints, clamps)))
    (made_in (int_max y.lo (x.lo +ℤ gap)) y.hi v (omega (arith, ints, clamps)) y.high (omega (arith, ints, clamps)) k.high)

-- ---- an end that moves from a number w
-- a number u other than w is not passed
up_le : (lo w u : ℤ) (b : Bool) → same lo w ≡ b → lo ≤ℤ u → (u ≢ w) → cond b (lo +ℤ pos 1) lo ≤ℤ u
up_le lo w u true e h n = let p = same_is lo w e in apart lo u h (λ q. n (sym q ∙ p))
  where
    apart : (a b : ℤ) → a ≤ℤ b → (a ≢ b) → (a +ℤ pos 1) ≤ℤ b
    apart a b h n = omega (arith, ints)
up_le lo w u false e h n = h

down_ge : (hi w u : ℤ) (b : Bool) → same hi w ≡ b → u ≤ℤ hi → (u ≢ w) → u ≤ℤ cond b (hi -ℤ pos 1) hi
down_ge hi w u true e h n = let p = same_is hi w e in apart u hi h (λ q. n (q ∙ p))
  where
    apart : (a b : ℤ) → a ≤ℤ b → (a ≢ b) → a ≤ℤ (b -ℤ pos 1)
    apart a b h n = omega (arith, ints)
down_ge hi w u false e h n = h

-- the end does not move outwards
low_stays : (lo : ℤ) (b : Bool) → lo ≤ℤ cond b (lo +ℤ pos 1) lo
low_stays lo true = omega (arith, ints)
low_stays lo false = omega (arith, ints)

high_stays : (hi : ℤ) (b : Bool) → cond b (hi -ℤ pos 1) hi ≤ℤ hi
high_stays hi true = omega (arith, ints)
high_stays hi false = omega (arith, ints)

except_by : (u v : ℤ) (x y : Interval) (b : Bool) → same y.lo y.hi ≡ b → (u ≢ v) → In u x → In v y → HasSome intervals (cond b (made (up_from x.lo y.lo) (down_from x.hi y.lo)) (Some x)) u
except_by u v x y true e n h k =
    let s = same_is y.lo y.hi e in
    let w : v ≡ y.lo = omega (arith, ints) in
    let m : (u ≢ y.lo) = λ q. n (q ∙ sym w) in
    let a = low_stays x.lo (same x.lo y.lo) in let b = high_stays x.hi (same x.hi y.lo) in
    made_in (up_from x.lo y.lo) (down_from x.hi y.lo) u
    (le_le _ _ _ x.low a) (le_le _ _ _ b x.high)
    (up_le x.lo y.lo u (same x.lo y.lo) refl h.low m) (down_ge x.hi y.lo u (same x.hi y.lo) refl h.high m)
  where
    le_le : (a b c : ℤ) → a ≤ℤ b → b ≤ℤ c → a ≤ℤ c
    le_le a b c p q = omega (arith, ints)
except_by u v x y false e n h k = h

except_in : (u v : ℤ) (x y : Interval) → (u ≢ v) → In u x → In v y → HasSome intervals (except x y) u
except_in u v x y n h k = except_by u v x y (same y.lo y.hi) refl n h k

-- a pair of numbers that meets the condition is left
pub kept_in : (r : Rel) (x y : Interval) (u v : ℤ) → compare r u v ≡ true → In u x → In v y → HasPair intervals (kept r x y) u v
kept_in Eq x y u v m h k =
    let e = same_is u v m in
    let hy = subst (λ (w : ℤ). In w y) (sym e) k in let hx = subst (λ (w : ℤ). In w x) e h in
    both_in u v _ _ (meet_in x y u h hy) (meet_in x y v hx k)
kept_in Ne x y u v m h k =
    let n = eq_no u v (not-true (same u v) m) in
    both_in u v _ _ (except_in u v x y n h k) (except_in v u y x (λ q. n (sym q)) k h)
kept_in Lt x y u v m h k = below_in (pos 1) u v x y (lt_gap u v m) h k
kept_in Le x y u v m h k = below_in (pos 0) u v x y (le_gap u v m) h k
kept_in Gt x y u v m h k = turned_in v u (below (pos 1) y x) (below_in (pos 1) v u y x (lt_gap v u m) k h)
kept_in Ge x y u v m h k = turned_in v u (below (pos 0) y x) (below_in (pos 0) v u y x (le_gap v u m) k h)
