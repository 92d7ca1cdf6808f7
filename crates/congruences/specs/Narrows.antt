-- Narrowing keeps every member in its range, and a range of a congruence leaves none out.
use Rattle.std.specs.Prelude.{◌≡◌, Bool, true, false, cond, ◌⊎◌, ℤ, pos, negsuc, ◌-ℤ◌, ◌≤ℤ◌, Some, None, Option, refl}
use Rattle.std.proofs.Common.{inl, inr, ◌∙◌, ap, subst, sym, arith}
use Rattle.std.proofs.lemmas.Int.{clamps, ints}
use Rattle.model.specs.Environments.{Lies, full}
use Rattle.model.specs.Values.{same}
use Rattle.model.specs.declared.range.Range.{Range}
use Rattle.domain.specs.Lattice.{Inside, empty}
use Rattle.divisibility.proofs.Multiples.{moved, mult_zero}
use Rattle.congruences.specs.Members.{In, InSome}
use Rattle.congruences.specs.Ranges.{Found, Spans, ends, lower, narrowed, narrowed_to, or_empty, ranged, upper}
use Rattle.congruences.specs.Settled.{checked}
use Rattle.congruences.specs.declared.congruence.Congruence.{Congruence}
use Rattle.congruences.specs.Checks.{checked_in}
use Rattle.model.proofs.Numbers.{same_is}
use Rattle.congruences.specs.Proper.{proper_single}
use Rattle.congruences.specs.Ranging.{Ended, ends_found}

-- the numbers within a range's ends after they are cut
pub cut_low : (v : ℤ) (z : Range) → Lies v full → Lies v z → lower z ≤ℤ v
cut_low v z l h = let a = l.low in let b = h.low in omega (arith, ints, clamps)

pub cut_high : (v : ℤ) (z : Range) → Lies v full → Lies v z → v ≤ℤ upper z
cut_high v z l h = let a = l.high in let b = h.high in omega (arith, ints, clamps)

pub lower_low : (z : Range) → (z.lo ≤ℤ lower z) × (negsuc 9999999 ≤ℤ lower z)
lower_low z = (omega (arith, ints, clamps), omega (arith, ints, clamps))

pub upper_high : (z : Range) → (upper z ≤ℤ z.hi) × (upper z ≤ℤ pos 10000000)
upper_high z = (omega (arith, ints, clamps), omega (arith, ints, clamps))

-- an end that was found lies within the limit
pub found_lies : (c : Congruence) (z : Range) (e : Range) → Spans c (lower z) (upper z) e → Lies e.lo full
found_lies c z e f =
    let x = f.low in let y = f.high in let o = f.ordered in
    let p = lower_low z in let q = upper_high z in
    at (lower z) (upper z) e.lo e.hi x y o p.1 q.1
  where
    at : (a b l h : ℤ) → a ≤ℤ l → h ≤ℤ b → l ≤ℤ h → negsuc 9999999 ≤ℤ a → b ≤ℤ pos 10000000 → Lies l full
    at a b l h x y o p q = record { low = omega (arith, ints); high = omega (arith, ints) }

narrow_by : (c : Congruence) (v : ℤ) (e : Range) (b : Bool) → same e.lo e.hi ≡ b → Lies e.lo full → In v c → e.lo ≤ℤ v → v ≤ℤ e.hi → InSome v (cond b (checked 0 e.lo) (Some c))
narrow_by c v e true q l h a b =
    let s = same_is e.lo e.hi q in
    checked_in 0 e.lo v (proper_single e.lo l) (moved 0 (pos 0) (v -ℤ e.lo) (omega (arith, ints)) (mult_zero 0))
narrow_by c v e false q l h a b = h

narrow_in : (c : Congruence) (z : Range) (v : ℤ) (o : Option Range) → Ended c (lower z) (upper z) o → In v c → lower z ≤ℤ v → v ≤ℤ upper z → InSome v (narrowed_to c o)
narrow_in c z v None f h a b = f v h a b
narrow_in c z v (Some e) f h a b =
    let w = f.between v h a b in
    narrow_by c v e (same e.lo e.hi) refl (found_lies c z e f) h w.0 w.1

pub narrowed_in : (c : Congruence) (z : Range) (v : ℤ) → Lies v full → In v c → Lies v z → InSome v (narrowed c z)
narrowed_in c z v l h k = narrow_in c z v (ends c (lower z) (upper z)) (ends_found c (lower z) (upper z)) h (cut_low v z l k) (cut_high v z l k)

-- a range of a congruence
found_by : (c : Congruence) (z : Range) (o : Option Range) → Ended c (lower z) (upper z) o → Found c z (or_empty o)
found_by c z None f = inr (f, refl)
found_by c z (Some e) f = inl f

pub ranged_found : (c : Congruence) (z : Range) → Found c z (ranged c z)
ranged_found c z = found_by c z (ends c (lower z) (upper z)) (ends_found c (lower z) (upper z))

inside_by : (c : Congruence) (z e : Range) → Found c z e → Inside e z ⊎ (e ≡ empty)
inside_by c z e (inl f) =
    let x = f.low in let y = f.high in let p = lower_low z in let q = upper_high z in
    inl (at (lower z) (upper z) p.0 q.0 x y f.ordered)
  where
    at : (a b : ℤ) → z.lo ≤ℤ a → b ≤ℤ z.hi → a ≤ℤ e.lo → e.hi ≤ℤ b → e.lo ≤ℤ e.hi → Inside e z
    at a b p q x y o = record { low = omega (arith, ints); ordered = o; high = omega (arith, ints) }
inside_by c z e (inr f) = inr f.1

pub ranged_inside : (c : Congruence) (z : Range) → Inside (ranged c z) z ⊎ (ranged c z ≡ empty)
ranged_inside c z = inside_by c z (ranged c z) (ranged_found c z)

in_by : (c : Congruence) (z e : Range) (v : ℤ) → Found c z e → In v c → lower z ≤ℤ v → v ≤ℤ upper z → Lies v e
in_by c z e v (inl f) h a b = let w = f.between v h a b in record { low = w.0; high = w.1 }
in_by c z e v (inr f) h a b = absurd (f.0 v h a b)

pub ranged_in : (c : Congruence) (z : Range) (v : ℤ) → Lies v full → In v c → Lies v z → Lies v (ranged c z)
ranged_in c z v l h k = in_by c z (ranged c z) v (ranged_found c z) h (cut_low v z l k) (cut_high v z l k)

-- what was found is a range's
pub found_of : (c : Congruence) (z e : Range) (o : Option Range) → o ≡ ends c (lower z) (upper z) → e ≡ or_empty o → (e ≡ ranged c z) × Found c z e
found_of c z e o p q =
    let r : e ≡ ranged c z = q ∙ ap or_empty p in
    (r, subst (Found c z) (sym r) (ranged_found c z))
