-- A condition leaves two single numbers that meet it as they are, and nothing of others.
use Rattle.std.specs.Prelude.{◌≡◌, Bool, true, false, ◌&&◌, ℤ, pos, ◌+ℤ◌, ◌-ℤ◌, ◌≤ℤ◌, ◌<ℤ◌, Some, None, Option, int_le, int_lt, refl}
use Rattle.std.proofs.Common.{ap, ap₂, sym, ◌∙◌, subst₂, arith}
use Rattle.std.proofs.lemmas.Int.{ints, clamps}
use Rattle.std.proofs.lemmas.Bool.{not-true, not-false}
use Rattle.std.specs.Int.{int_min, int_max}
use Rattle.model.specs.Environments.{Lies, full}
use Rattle.model.specs.Values.{same, compare}
use Rattle.model.specs.declared.expression.Rel.{Rel}
use Rattle.model.specs.declared.expression.Rel.TheVariants.{Eq, Ne, Lt, Le, Gt, Ge}
use Rattle.number_sets.specs.declared.sets.Pair.{Pair}
use Rattle.intervals.specs.Made.{made}
use Rattle.intervals.specs.Singles.{single}
use Rattle.number_sets.specs.Pairs.{both}
use Rattle.intervals.specs.Conditions.{turned_all, below, up_from, down_from, except, kept}
use Rattle.intervals.specs.declared.interval.Interval.{Interval}
use Rattle.intervals.specs.Makes.{made_some, made_crossed}
use Rattle.intervals.specs.ConditionsLemmas.{lt_gap, le_gap, eq_no}
use Rattle.intervals.specs.SinglesLemmas.{point, single_point}
use Rattle.model.proofs.Numbers.{le_true, same_is}

-- the two numbers as the sides of a condition
abbrev pair : (u v : ℤ) → Lies u full → Lies v full → Pair Interval
pair u v p q = record { left = point u p; right = point v q }

no_lt : (a b : ℤ) → int_lt a b ≡ false → b <ℤ (a +ℤ pos 1)
no_lt a b h = grind (arith, ints)

no_le : (a b : ℤ) → int_le a b ≡ false → b <ℤ (a +ℤ pos 0)
no_le a b h = grind (arith, ints)

both_none : (a b : Option Interval) → a ≡ None → both a b ≡ None
both_none a b e = ap (λ (o : Option Interval). both o b) e

below_yes : (gap u v : ℤ) (p : Lies u full) (q : Lies v full) → (u +ℤ gap) ≤ℤ v → below gap (point u p) (point v q) ≡ Some (pair u v p q)
below_yes gap u v p q h =
    ap₂ both (made_some _ _ (point u p) refl (omega (arith, ints, clamps))) (made_some _ _ (point v q) (omega (arith, ints, clamps)) refl)

below_no : (gap u v : ℤ) (p : Lies u full) (q : Lies v full) → v <ℤ (u +ℤ gap) → below gap (point u p) (point v q) ≡ None
below_no gap u v p q h = both_none _ _ (made_crossed u (int_min u (v -ℤ gap)) (omega (arith, ints, clamps)))

eq_self : (a : ℤ) → same a a ≡ true
eq_self a = rw (le_true a a (omega (arith, ints)))

except_point : (u v : ℤ) (p : Lies u full) (q : Lies v full) → except (point u p) (point v q) ≡ made (up_from u v) (down_from u v)
except_point u v p q = rw (eq_self v)

except_yes : (u v : ℤ) (p : Lies u full) (q : Lies v full) → same u v ≡ false → except (point u p) (point v q) ≡ Some (point u p)
except_yes u v p q e = except_point u v p q ∙ rw e (made_some u u (point u p) refl refl)

except_no : (u v : ℤ) (p : Lies u full) (q : Lies v full) → same u v ≡ true → except (point u p) (point v q) ≡ None
except_no u v p q e = except_point u v p q ∙ rw e (made_crossed (u +ℤ pos 1) (u -ℤ pos 1) (omega (arith, ints)))

eq_turned : (a b : ℤ) → same a b ≡ same b a
eq_turned a b = swap (int_le a b) (int_le b a)
  where
    swap : (x y : Bool) → (x && y) ≡ (y && x)
    swap true true = refl
    swap true false = refl
    swap false true = refl
    swap false false = refl

apart : (u v : ℤ) (b : Bool) → same u v ≡ b → b ≡ false → made (int_max u v) (int_min u v) ≡ None
apart u v b e f = let n = eq_no u v (e ∙ f) in made_crossed (int_max u v) (int_min u v) (omega (arith, ints, clamps))

-- a condition that two numbers meet leaves both
point_yes : (r : Rel) (u v : ℤ) (p : Lies u full) (q : Lies v full) → compare r u v ≡ true → kept r (point u p) (point v q) ≡ Some (pair u v p q)
point_yes Eq u v p q m =
    let e = same_is u v m in
    ap₂ both (made_some _ _ (point u p) (omega (arith, ints, clamps)) (omega (arith, ints, clamps))) (made_some _ _ (point v q) (omega (arith, ints, clamps)) (omega (arith, ints, clamps)))
point_yes Ne u v p q m =
    let e = not-true (same u v) m in
    ap₂ both (except_yes u v p q e) (except_yes v u q p (eq_turned v u ∙ e))
point_yes Lt u v p q m = below_yes (pos 1) u v p q (lt_gap u v m)
point_yes Le u v p q m = below_yes (pos 0) u v p q (le_gap u v m)
point_yes Gt u v p q m = ap turned_all (below_yes (pos 1) v u q p (lt_gap v u m))
point_yes Ge u v p q m = ap turned_all (below_yes (pos 0) v u q p (le_gap v u m))

-- and one that they do not meet leaves none
point_no : (r : Rel) (u v : ℤ) (p : Lies u full) (q : Lies v full) → compare r u v ≡ false → kept r (point u p) (point v q) ≡ None
point_no Eq u v p q m = both_none _ _ (apart u v (same u v) refl m)
point_no Ne u v p q m = both_none _ _ (except_no u v p q (not-false (same u v) m))
point_no Lt u v p q m = below_no (pos 1) u v p q (no_lt u v m)
point_no Le u v p q m = below_no (pos 0) u v p q (no_le u v m)
point_no Gt u v p q m = ap turned_all (below_no (pos 1) v u q p (no_lt v u m))
point_no Ge u v p q m = ap turned_all (below_no (pos 0) v u q p (no_le v u m))

pub kept_yes : (r : Rel) (u v : ℤ) → Lies u full → Lies v full → compare r u v ≡ true → kept r (single u) (single v) ≡ Some (record { left = single u; right = single v })
kept_yes r u v p q m =
    subst₂ (λ (x y : Interval). kept r x y ≡ Some (record { left = x; right = y })) (sym (single_point u p)) (sym (single_point v q)) (point_yes r u v p q m)

pub kept_no : (r : Rel) (u v : ℤ) → Lies u full → Lies v full → compare r u v ≡ false → kept r (single u) (single v) ≡ None
kept_no r u v p q m = subst₂ (λ (x y : Interval). kept r x y ≡ None) (sym (single_point u p)) (sym (single_point v q)) (point_no r u v p q m)
