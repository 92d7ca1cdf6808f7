-- Where a range has one member of a congruence, that is what it is narrowed to.
use Rattle.std.specs.Prelude.{◌≡◌, Bool, true, false, cond, ℤ, pos, ◌≤ℤ◌, Some, None, Option, int_le, refl}
use Rattle.std.proofs.Common.{◌∙◌, ap, sym, arith}
use Rattle.std.proofs.lemmas.Int.{clamps, ints}
use Rattle.std.proofs.lemmas.Bool.{both_ways, and_from}
use Rattle.model.specs.Environments.{Lies, full}
use Rattle.model.specs.Values.{same}
use Rattle.model.specs.declared.range.Range.{Range}
use Rattle.congruences.specs.Members.{In}
use Rattle.congruences.specs.Ranges.{Spans, ends, lower, narrowed, narrowed_to, or_empty, ranged, upper}
use Rattle.congruences.specs.Settled.{checked}
use Rattle.congruences.specs.Singles.{single}
use Rattle.congruences.specs.declared.congruence.Congruence.{Congruence}
use Rattle.congruences.specs.Checks.{checked_some}
use Rattle.congruences.specs.Narrows.{cut_high, cut_low}
use Rattle.model.proofs.Numbers.{le_true}
use Rattle.congruences.specs.Ranging.{Ended, ends_found}
use Rattle.congruences.specs.Same.{same_range}
use Rattle.congruences.specs.Settles.{zero_same}
use Rattle.congruences.specs.SinglesLemmas.{just, single_is}
use Rattle.domain.specs.Lattice.{single as point}

-- what was found in the range is n alone
pinned_to : (x : Congruence) (n : ℤ) (l : Lies n full) (b : Bool) (e : Range) → same e.lo e.hi ≡ b → e.lo ≡ n → e.hi ≡ n → cond b (checked 0 e.lo) (Some x) ≡ Some (single n)
pinned_to x n l true e h p q = checked_some 0 e.lo (just n l) refl (sym p) ∙ ap Some (sym (single_is n l))
pinned_to x n l false e h p q = absurd (both_ways (same e.lo e.hi) h (and_from (int_le e.lo e.hi) (int_le e.hi e.lo) (le_true e.lo e.hi (omega (arith, ints))) (le_true e.hi e.lo (omega (arith, ints)))))

pinned : (x : Congruence) (lo hi n : ℤ) (l : Lies n full) (o : Option Range) → Ended x lo hi o → In n x → lo ≤ℤ n → n ≤ℤ hi → ((e : Range) → Spans x lo hi e → (e.lo ≡ n) × (e.hi ≡ n)) → narrowed_to x o ≡ Some (single n)
pinned x lo hi n l None f h a b k = absurd (f n h a b)
pinned x lo hi n l (Some e) f h a b k = let w = k e f in pinned_to x n l (same e.lo e.hi) e refl w.0 w.1

point_cut : (n : ℤ) → Lies n full → (lower (point n) ≡ n) × (upper (point n) ≡ n)
point_cut n l = let a = l.low in let b = l.high in (omega (arith, ints, clamps), omega (arith, ints, clamps))

point_ends : (x : Congruence) (n lo hi : ℤ) → lo ≡ n → hi ≡ n → (e : Range) → Spans x lo hi e → (e.lo ≡ n) × (e.hi ≡ n)
point_ends x n lo hi p q e f = let a = f.low in let b = f.high in let o = f.ordered in (omega (arith, ints), omega (arith, ints))

pub narrow_pin : (x : Congruence) (n : ℤ) → Lies n full → In n x → narrowed x (point n) ≡ Some (single n)
narrow_pin x n l h =
    let c = point_cut n l in
    let i : Lies n (point n) = record { low = omega (arith, ints); high = omega (arith, ints) } in
    pinned x (lower (point n)) (upper (point n)) n l (ends x (lower (point n)) (upper (point n))) (ends_found x (lower (point n)) (upper (point n))) h (cut_low n (point n) l i) (cut_high n (point n) l i)
    (point_ends x n (lower (point n)) (upper (point n)) c.0 c.1)

-- both ends of a range of a single number are that number
just_ends : (n lo hi : ℤ) (l : Lies n full) (e : Range) → Spans (just n l) lo hi e → (e.lo ≡ n) × (e.hi ≡ n)
just_ends n lo hi l e f = (zero_same e.lo n f.least, zero_same e.hi n f.greatest)

just_in : (n : ℤ) (l : Lies n full) → In n (just n l)
just_in n l = record { times = pos 0; is = omega (arith, ints) }

pub narrow_single : (n : ℤ) (z : Range) → Lies n full → Lies n z → narrowed (single n) z ≡ Some (single n)
narrow_single n z l i =
    ap (λ (x : Congruence). narrowed x z) (single_is n l)
    ∙ pinned (just n l) (lower z) (upper z) n l (ends (just n l) (lower z) (upper z)) (ends_found (just n l) (lower z) (upper z)) (just_in n l) (cut_low n z l i) (cut_high n z l i)
    (just_ends n (lower z) (upper z) l)

range_by : (n lo hi : ℤ) (l : Lies n full) (o : Option Range) → Ended (just n l) lo hi o → lo ≤ℤ n → n ≤ℤ hi → or_empty o ≡ point n
range_by n lo hi l None f a b = absurd (f n (just_in n l) a b)
range_by n lo hi l (Some e) f a b = let w = just_ends n lo hi l e f in same_range e (point n) w.0 w.1

pub range_single : (n : ℤ) (z : Range) → Lies n full → Lies n z → ranged (single n) z ≡ point n
range_single n z l i =
    ap (λ (x : Congruence). ranged x z) (single_is n l)
    ∙ range_by n (lower z) (upper z) l (ends (just n l) (lower z) (upper z)) (ends_found (just n l) (lower z) (upper z)) (cut_low n z l i) (cut_high n z l i)
