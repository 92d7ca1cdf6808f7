-- The range of a class is exact: its ends are the least and the greatest member from lo to hi.
use Rattle.std.specs.Prelude.{◌≡◌, ℕ, ◌<◌, Bool, true, false, cond, ◌&&◌, ℤ, pos, negsuc, ◌+ℤ◌, ◌-ℤ◌, ◌*ℤ◌, ◌≤ℤ◌, ◌<ℤ◌, Some, None, Option, ◌==◌, int_le, refl}
use Rattle.std.proofs.Common.{inl, inr, ap, subst, subst₂, sym, arith, eqb-true}
use Rattle.std.proofs.lemmas.Int.{ints}
use Rattle.std.proofs.lemmas.Bool.{both_ways, and_cases, and_from, and_parts, eqb-false}
use Rattle.model.specs.declared.range.Range.{Range}
use Rattle.divisibility.specs.Multiples.{Multiple, remainder}
use Rattle.divisibility.proofs.Multiples.{mod_parts, moved, mult_add, mult_sub, mult_zero}
use Rattle.congruences.specs.Ranges.{Misses, Spans, ends, first, last}
use Rattle.congruences.specs.declared.congruence.Congruence.{Congruence}
use Rattle.model.proofs.Numbers.{true_le, le_true}
use Rattle.congruences.specs.Same.{same_range}
use Rattle.congruences.specs.Settles.{zero_same}

-- a multiple of m above −m is not negative
not_below : (m : ℕ) (z : ℤ) → Multiple m z → (pos 0 -ℤ pos m) <ℤ z → pos 0 ≤ℤ z
not_below m z h l = by h.times h.is
  where
    by : (t : ℤ) → z ≡ t *ℤ pos m → pos 0 ≤ℤ z
    by (pos t) e = omega (arith, ints)
    by (negsuc t) e = absurd (omega (arith, ints))

-- what both ends say of a class with modulus m and residue r
record Least (m : ℕ) (r lo f : ℤ) : Type 0 where
  member : Multiple m (f -ℤ r)
  under : (v : ℤ) → Multiple m (v -ℤ r) → lo ≤ℤ v → f ≤ℤ v

first_by : (m : ℕ) (r lo : ℤ) (b : Bool) → (m == 0) ≡ b → Least m r lo (cond b r (lo +ℤ remainder (r -ℤ lo) m))
first_by m r lo true e = record {
  member = moved m (pos 0) (r -ℤ r) (omega (arith, ints)) (mult_zero m);
  under = λ v h l. let s = zero_same v r (subst (λ (n : ℕ). Multiple n (v -ℤ r)) (eqb-true m 0 e) h) in omega (arith, ints);
}
first_by m r lo false e =
    let z : 0 < m = omega (arith, eqb-false m 0 e) in
    let p = mod_parts (r -ℤ lo) m z in
    record { member = at (remainder (r -ℤ lo) m) p.whole; under = λ v h l. up_to (remainder (r -ℤ lo) m) v p.whole p.high h l }
  where
    at : (t : ℤ) → Multiple m ((r -ℤ lo) -ℤ t) → Multiple m ((lo +ℤ t) -ℤ r)
    at t h = moved m _ _ (omega (arith, ints)) (mult_sub m (pos 0) ((r -ℤ lo) -ℤ t) (mult_zero m) h)

    up_to : (t v : ℤ) → Multiple m ((r -ℤ lo) -ℤ t) → t <ℤ pos m → Multiple m (v -ℤ r) → lo ≤ℤ v → (lo +ℤ t) ≤ℤ v
    up_to t v w q h l =
        let d : Multiple m ((v -ℤ lo) -ℤ t) = moved m ((v -ℤ r) +ℤ ((r -ℤ lo) -ℤ t)) ((v -ℤ lo) -ℤ t) (omega (arith, ints)) (mult_add m (v -ℤ r) ((r -ℤ lo) -ℤ t) h w) in
        let n = not_below m ((v -ℤ lo) -ℤ t) d (omega (arith, ints)) in
        omega (arith, ints)

record Greatest (m : ℕ) (r hi f : ℤ) : Type 0 where
  member : Multiple m (f -ℤ r)
  over : (v : ℤ) → Multiple m (v -ℤ r) → v ≤ℤ hi → v ≤ℤ f

last_by : (m : ℕ) (r hi : ℤ) (b : Bool) → (m == 0) ≡ b → Greatest m r hi (cond b r (hi -ℤ remainder (hi -ℤ r) m))
last_by m r hi true e = record {
  member = moved m (pos 0) (r -ℤ r) (omega (arith, ints)) (mult_zero m);
  over = λ v h l. let s = zero_same v r (subst (λ (n : ℕ). Multiple n (v -ℤ r)) (eqb-true m 0 e) h) in omega (arith, ints);
}
last_by m r hi false e =
    let z : 0 < m = omega (arith, eqb-false m 0 e) in
    let p = mod_parts (hi -ℤ r) m z in
    record { member = at (remainder (hi -ℤ r) m) p.whole; over = λ v h l. down_to (remainder (hi -ℤ r) m) v p.whole p.high h l }
  where
    at : (t : ℤ) → Multiple m ((hi -ℤ r) -ℤ t) → Multiple m ((hi -ℤ t) -ℤ r)
    at t h = moved m ((hi -ℤ r) -ℤ t) ((hi -ℤ t) -ℤ r) (omega (arith, ints)) h

    down_to : (t v : ℤ) → Multiple m ((hi -ℤ r) -ℤ t) → t <ℤ pos m → Multiple m (v -ℤ r) → v ≤ℤ hi → v ≤ℤ (hi -ℤ t)
    down_to t v w q h l =
        let d : Multiple m ((hi -ℤ t) -ℤ v) = moved m (((hi -ℤ r) -ℤ t) -ℤ (v -ℤ r)) ((hi -ℤ t) -ℤ v) (omega (arith, ints)) (mult_sub m ((hi -ℤ r) -ℤ t) (v -ℤ r) w h) in
        let n = not_below m ((hi -ℤ t) -ℤ v) d (omega (arith, ints)) in
        omega (arith, ints)

-- the last member passes hi only where the class is single
last_le : (m : ℕ) (r hi : ℤ) (b : Bool) → (m == 0) ≡ b → (m ≡ 0 → r ≤ℤ hi) → cond b r (hi -ℤ remainder (hi -ℤ r) m) ≤ℤ hi
last_le m r hi true e h = h (eqb-true m 0 e)
last_le m r hi false e h = let p = mod_parts (hi -ℤ r) m (omega (arith, eqb-false m 0 e)) in at (remainder (hi -ℤ r) m) p.low
  where
    at : (t : ℤ) → pos 0 ≤ℤ t → (hi -ℤ t) ≤ℤ hi
    at t h = omega (arith, ints)

first_single : (m : ℕ) (r lo : ℤ) → m ≡ 0 → cond (m == 0) r (lo +ℤ remainder (r -ℤ lo) m) ≡ r
first_single m r lo e = subst (λ (n : ℕ). cond (n == 0) r (lo +ℤ remainder (r -ℤ lo) n) ≡ r) (sym e) refl

first_ge : (m : ℕ) (r lo v : ℤ) (b : Bool) → (m == 0) ≡ b → Multiple m (v -ℤ r) → lo ≤ℤ v → lo ≤ℤ cond b r (lo +ℤ remainder (r -ℤ lo) m)
first_ge m r lo v true e h l = let s = zero_same v r (subst (λ (n : ℕ). Multiple n (v -ℤ r)) (eqb-true m 0 e) h) in omega (arith, ints)
first_ge m r lo v false e h l = let p = mod_parts (r -ℤ lo) m (omega (arith, eqb-false m 0 e)) in at (remainder (r -ℤ lo) m) p.low
  where
    at : (t : ℤ) → pos 0 ≤ℤ t → lo ≤ℤ (lo +ℤ t)
    at t h = omega (arith, ints)

no_le : (a b : ℤ) → int_le a b ≡ false → a ≤ℤ b → ⊥
no_le a b h l = omega (arith, ints)

-- what was found, or that there is nothing
abbrev pub Ended : Congruence → ℤ → ℤ → Option Range → Type 0
Ended c lo hi None = Misses c lo hi
Ended c lo hi (Some e) = Spans c lo hi e

by_test : (c : Congruence) (lo hi : ℤ) (b : Bool) → (int_le lo (first c lo) && int_le (first c lo) hi) ≡ b → Ended c lo hi (cond b (Some (record { lo = first c lo; hi = last c hi })) None)
by_test c lo hi true e =
    let p = and_parts (int_le lo (first c lo)) (int_le (first c lo) hi) e in
    let f = first_by c.modulus c.residue lo (c.modulus == 0) refl in
    let g = last_by c.modulus c.residue hi (c.modulus == 0) refl in
    let l = true_le (first c lo) hi p.1 in
    record {
      low = true_le lo (first c lo) p.0;
      high = last_le c.modulus c.residue hi (c.modulus == 0) refl (λ z. subst (λ (x : ℤ). x ≤ℤ hi) (first_single c.modulus c.residue lo z) l);
      ordered = g.over (first c lo) f.member l;
      least = f.member;
      greatest = g.member;
      between = λ v h a b. (f.under v h a, g.over v h b);
    }
by_test c lo hi false e = λ v h a b.
    let f = first_by c.modulus c.residue lo (c.modulus == 0) refl in
    let g = first_ge c.modulus c.residue lo v (c.modulus == 0) refl h a in
    let k = f.under v h a in
    elim (and_cases (int_le lo (first c lo)) (int_le (first c lo) hi) e) [
      | inl q ↦ no_le lo (first c lo) q g
      | inr q ↦ no_le (first c lo) hi q (le_le (first c lo) v hi k b)
    ]
  where
    le_le : (a b c : ℤ) → a ≤ℤ b → b ≤ℤ c → a ≤ℤ c
    le_le a b c p q = omega (arith, ints)

pub ends_found : (c : Congruence) (lo hi : ℤ) → Ended c lo hi (ends c lo hi)
ends_found c lo hi = by_test c lo hi (int_le lo (first c lo) && int_le (first c lo) hi) refl

ends_span : (c : Congruence) (lo hi : ℤ) → lo ≤ℤ first c lo → first c lo ≤ℤ hi → Spans c lo hi (record { lo = first c lo; hi = last c hi })
ends_span c lo hi h k = by_test c lo hi true (and_from (int_le lo (first c lo)) (int_le (first c lo) hi) (le_true lo (first c lo) h) (le_true (first c lo) hi k))

-- as the code has them: f is the first member, l the last
pub ends_within : (c : Congruence) (lo hi f l : ℤ) → f ≡ first c lo → l ≡ last c hi → lo ≤ℤ f → f ≤ℤ hi → (f ≤ℤ l) × (l ≤ℤ hi)
ends_within c lo hi f l p q h k =
    let s = ends_span c lo hi (subst (λ (x : ℤ). lo ≤ℤ x) p h) (subst (λ (x : ℤ). x ≤ℤ hi) p k) in
    (subst₂ (λ (x y : ℤ). x ≤ℤ y) (sym p) (sym q) s.ordered, subst (λ (x : ℤ). x ≤ℤ hi) (sym q) s.high)

pub ends_some : (c : Congruence) (lo hi f l : ℤ) → f ≡ first c lo → l ≡ last c hi → lo ≤ℤ f → f ≤ℤ hi → ◌≡◌ {A = Option Range} (Some (record { lo = f; hi = l })) (ends c lo hi)
ends_some c lo hi f l p q h k =
    let a = le_true lo (first c lo) (subst (λ (x : ℤ). lo ≤ℤ x) p h) in
    let b = le_true (first c lo) hi (subst (λ (x : ℤ). x ≤ℤ hi) p k) in
    by (int_le lo (first c lo)) (int_le (first c lo) hi) a b
  where
    by : (a b : Bool) → a ≡ true → b ≡ true → ◌≡◌ {A = Option Range} (Some (record { lo = f; hi = l })) (cond (a && b) (Some (record { lo = first c lo; hi = last c hi })) None)
    by true true u v = ap Some (same_range (record { lo = f; hi = l }) (record { lo = first c lo; hi = last c hi }) p q)
    by true false u v = absurd (both_ways false refl v)
    by false b u v = absurd (both_ways false refl u)
