-- On single numbers the operations are exact.
use Rattle.std.specs.Prelude.{◌≡◌, ℕ, ◌*◌, Bool, true, false, cond, not, ℤ, pos, ◌+ℤ◌, Some, None, Option, int_le, unsigned_abs, refl}
use Rattle.std.proofs.Common.{◌∙◌, ap, ap₂, sym, mul-zero, arith}
use Rattle.std.proofs.lemmas.Int.{ints}
use Rattle.std.proofs.lemmas.Bool.{and_from, both_ways}
use Rattle.model.specs.Environments.{Lies, fit, full}
use Rattle.model.specs.Sides.{scaled, signed}
use Rattle.model.specs.Values.{apply, compare, same}
use Rattle.model.specs.declared.expression.Op.{Op}
use Rattle.model.specs.declared.expression.Op.TheVariants.{Add, Mul, Sub}
use Rattle.model.specs.declared.expression.Rel.{Rel}
use Rattle.model.specs.declared.expression.Rel.TheVariants.{Eq, Ge, Gt, Le, Lt, Ne}
use Rattle.model.specs.declared.side.Factor.{Factor}
use Rattle.model.specs.declared.side.Factor.TheVariants.{Minus, Plus, Zero}
use Rattle.model.specs.declared.side.Sign.{Sign}
use Rattle.number_sets.specs.Exact.{ExactSets}
use Rattle.number_sets.specs.declared.sets.Pair.{Pair}
use Rattle.divisibility.specs.Gcds.{gcd}
use Rattle.divisibility.specs.Multiples.{agrees}
use Rattle.divisibility.proofs.Divides.{agrees_from, agrees_yes}
use Rattle.divisibility.proofs.Gcds.{gcd_is, gcd_only, gcd_zero}
use Rattle.divisibility.proofs.Solving.{not_so}
use Rattle.congruences.specs.Bounds.{bounded_by}
use Rattle.congruences.specs.Commons.{common}
use Rattle.congruences.specs.Conditions.{doubled, kept}
use Rattle.congruences.specs.Numbers.{congruences}
use Rattle.congruences.specs.Results.{fits, modulus_of, results}
use Rattle.congruences.specs.Settled.{settled}
use Rattle.congruences.specs.Singles.{single}
use Rattle.congruences.specs.declared.congruence.Congruence.{Congruence}
use Rattle.congruences.specs.Checks.{checked_some}
use Rattle.model.proofs.Numbers.{same_is}
use Rattle.congruences.specs.Pinning.{narrow_pin, narrow_single, range_single}
use Rattle.model.proofs.Numbers.{le_true}
use Rattle.congruences.specs.Same.{congruence_same}
use Rattle.congruences.specs.Settles.{zero_same}
use Rattle.congruences.specs.SinglesLemmas.{just, single_is}

gcd_none : (a b : ℕ) → a ≡ 0 → b ≡ 0 → gcd a b ≡ 0
gcd_none a b p q = ap₂ gcd p q ∙ gcd_only 0 0 (gcd 0 0) 0 (gcd_is 0 0) (gcd_zero 0)

modulus_just : (o : Op) (m n : ℤ) (p : Lies m full) (q : Lies n full) → modulus_of o (just m p) (just n q) ≡ 0
modulus_just Add m n p q = gcd_none 0 0 refl refl
modulus_just Sub m n p q = gcd_none 0 0 refl refl
modulus_just Mul m n p q = gcd_none (0 * 0) (gcd (unsigned_abs m * 0) (unsigned_abs n * 0)) refl (gcd_none (unsigned_abs m * 0) (unsigned_abs n * 0) (mul-zero (unsigned_abs m)) (mul-zero (unsigned_abs n)))

apply_single : (o : Op) (m n : ℤ) → Lies m full → Lies n full → Lies (apply o m n) full → results o (single m) (single n) ≡ Some (single (apply o m n))
apply_single o m n p q r =
    ap₂ (results o) (single_is m p) (single_is n q)
    ∙ (ap (λ (k : ℕ). settled k (apply o m n)) (modulus_just o m n p q)
    ∙ (checked_some 0 (apply o m n) (just (apply o m n) r) refl refl ∙ ap Some (sym (single_is (apply o m n) r))))

fits_single : (o : Op) (m n : ℤ) → Lies m full → Lies n full → fits o (single m) (single n) ≡ fit (apply o m n)
fits_single o m n p q = ap₂ (fits o) (single_is m p) (single_is n q)

bounds_just : (s : Sign) (f : Factor) (m n c : ℤ) (p : Lies m full) (q : Lies n full) → bounded_by s (just m p) f (just n q) c ≡ int_le (signed s m +ℤ scaled f n) c
bounds_just s Plus m n c p q = refl
bounds_just s Zero m n c p q = refl
bounds_just s Minus m n c p q = refl

bounds_single : (s : Sign) (f : Factor) (m n c : ℤ) → Lies m full → Lies n full → bounded_by s (single m) f (single n) c ≡ int_le (signed s m +ℤ scaled f n) c
bounds_single s f m n c p q = ap₂ (λ (x y : Congruence). bounded_by s x f y c) (single_is m p) (single_is n q) ∙ bounds_just s f m n c p q

-- two single numbers have something in common where they are the same
agrees_same : (m n : ℤ) → m ≡ n → agrees 0 m n ≡ true
agrees_same m n e = agrees_from 0 m n (record { times = pos 0; is = omega (arith, ints) })

agrees_not : (m n : ℤ) → same m n ≡ false → agrees 0 m n ≡ false
agrees_not m n e = not_so (agrees 0 m n) (λ h. both_ways (same m n) e (eq_same m n (zero_same m n (agrees_yes 0 m n h))))
  where
    eq_same : (a b : ℤ) → a ≡ b → same a b ≡ true
    eq_same a b k = and_from (int_le a b) (int_le b a) (le_true a b (omega (arith, ints))) (le_true b a (omega (arith, ints)))

abbrev pairs : Congruence → Congruence → Option (Pair Congruence)
pairs x y = Some (record { left = x; right = y })

lone_yes : (m n : ℤ) (p : Lies m full) (q : Lies n full) (b : Bool) → b ≡ true → m ≡ n → doubled (cond b (Some (just m p)) None) ≡ pairs (just m p) (just n q)
lone_yes m n p q true h e = ap (pairs (just m p)) (congruence_same (just m p) (just n q) refl e)
lone_yes m n p q false h e = absurd (both_ways false refl h)

lone_no : (x : Congruence) (b : Bool) → b ≡ false → doubled (cond b (Some x) None) ≡ None
lone_no x true h = absurd (both_ways true h refl)
lone_no x false h = refl

unless_yes : (x y : Congruence) (b : Bool) → b ≡ true → cond (not b) None (pairs x y) ≡ pairs x y
unless_yes x y true h = refl
unless_yes x y false h = absurd (both_ways false refl h)

unless_no : (x y : Congruence) (b : Bool) → b ≡ false → cond (not b) None (pairs x y) ≡ None
unless_no x y true h = absurd (both_ways true h refl)
unless_no x y false h = refl

just_yes : (r : Rel) (m n : ℤ) (p : Lies m full) (q : Lies n full) → compare r m n ≡ true → kept r (just m p) (just n q) ≡ pairs (just m p) (just n q)
just_yes Eq m n p q e = let k = same_is m n e in lone_yes m n p q (agrees 0 m n) (agrees_same m n k) k
just_yes Ne m n p q e = unless_yes (just m p) (just n q) (compare Ne m n) e
just_yes Lt m n p q e = unless_yes (just m p) (just n q) (compare Lt m n) e
just_yes Le m n p q e = unless_yes (just m p) (just n q) (compare Le m n) e
just_yes Gt m n p q e = unless_yes (just m p) (just n q) (compare Gt m n) e
just_yes Ge m n p q e = unless_yes (just m p) (just n q) (compare Ge m n) e

just_no : (r : Rel) (m n : ℤ) (p : Lies m full) (q : Lies n full) → compare r m n ≡ false → kept r (just m p) (just n q) ≡ None
just_no Eq m n p q e = lone_no (just m p) (agrees 0 m n) (agrees_not m n e)
just_no Ne m n p q e = unless_no (just m p) (just n q) (compare Ne m n) e
just_no Lt m n p q e = unless_no (just m p) (just n q) (compare Lt m n) e
just_no Le m n p q e = unless_no (just m p) (just n q) (compare Le m n) e
just_no Gt m n p q e = unless_no (just m p) (just n q) (compare Gt m n) e
just_no Ge m n p q e = unless_no (just m p) (just n q) (compare Ge m n) e

kept_yes : (r : Rel) (m n : ℤ) → Lies m full → Lies n full → compare r m n ≡ true → kept r (single m) (single n) ≡ pairs (single m) (single n)
kept_yes r m n p q e = ap₂ (kept r) (single_is m p) (single_is n q) ∙ (just_yes r m n p q e ∙ ap₂ pairs (sym (single_is m p)) (sym (single_is n q)))

kept_no : (r : Rel) (m n : ℤ) → Lies m full → Lies n full → compare r m n ≡ false → kept r (single m) (single n) ≡ None
kept_no r m n p q e = ap₂ (kept r) (single_is m p) (single_is n q) ∙ just_no r m n p q e

meet_single : (n : ℤ) → Lies n full → common (single n) (single n) ≡ Some (single n)
meet_single n l = ap (λ (x : Congruence). common x x) (single_is n l) ∙ (at (agrees 0 n n) (agrees_same n n refl) ∙ ap Some (sym (single_is n l)))
  where
    at : (b : Bool) → b ≡ true → cond b (Some (just n l)) None ≡ Some (just n l)
    at true h = refl
    at false h = absurd (both_ways false refl h)

pub exact : ExactSets congruences
exact = record {
  apply_single = apply_single;
  fits_single = fits_single;
  kept_yes = kept_yes;
  kept_no = kept_no;
  meet_single = meet_single;
  narrow_pin = narrow_pin;
  narrow_single = narrow_single;
  bounds_single = bounds_single;
  range_single = range_single;
}
