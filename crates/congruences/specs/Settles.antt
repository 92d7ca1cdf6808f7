-- A settled class has, within the limits, the numbers that differ from r by multiples of m, and no others.
use Rattle.std.specs.Prelude.{◌≡◌, ℕ, zero, suc, ◌<◌, Bool, true, false, cond, ℤ, pos, negsuc, ◌+ℤ◌, ◌-ℤ◌, ◌*ℤ◌, ◌≤ℤ◌, ◌<ℤ◌, ◌==◌, int_le, nat_le, refl}
use Rattle.std.proofs.Common.{subst, sym, arith, eqb-true, leb-false, leb-true}
use Rattle.std.proofs.lemmas.Bool.{eqb-false}
use Rattle.std.proofs.lemmas.Int.{ints}
use Rattle.model.specs.Environments.{Lies, full}
use Rattle.divisibility.specs.Multiples.{Multiple, remainder}
use Rattle.divisibility.proofs.Multiples.{mod_parts, moved, mult_add, mult_self, mult_sub, mult_zero}
use Rattle.congruences.specs.Members.{InSome}
use Rattle.congruences.specs.Settled.{checked, folded, settled}
use Rattle.congruences.specs.Checks.{checked_in, checked_out}
use Rattle.congruences.specs.Proper.{proper_many, proper_single}

-- a multiple of 0 is 0
pub zero_same : (v r : ℤ) → Multiple 0 (v -ℤ r) → v ≡ r
zero_same v r h = let e = h.is in omega (arith, ints)

same_zero : (v r : ℤ) → v ≡ r → Multiple 0 (v -ℤ r)
same_zero v r e = record { times = pos 0; is = omega (arith, ints) }

single_in : (r v : ℤ) → Lies v full → v ≡ r → InSome v (checked 0 r)
single_in r v l e = checked_in 0 r v (proper_single r (subst (λ (x : ℤ). Lies x full) e l)) (same_zero v r e)

single_out : (r v : ℤ) → InSome v (checked 0 r) → v ≡ r
single_out r v h = zero_same v r (checked_out 0 r v h)

-- where v lies from the remainder s by m, when m passes 20,000,000
fold_in : (m : ℕ) (s v : ℤ) (b : Bool) → int_le s (pos 10000000) ≡ b → 20000000 < m → pos 0 ≤ℤ s → s <ℤ pos m → Lies v full → Multiple m (v -ℤ s) → InSome v (cond b (checked 0 s) (checked 0 (s -ℤ pos m)))
fold_in m s v true e big p q l h = single_in s v l (at h.times h.is l.low l.high)
  where
    at : (t : ℤ) → v -ℤ s ≡ t *ℤ pos m → negsuc 9999999 ≤ℤ v → v ≤ℤ pos 10000000 → v ≡ s
    at (pos zero) k a b = omega (arith, ints)
    at (pos (suc t)) k a b = absurd (omega (arith, ints))
    at (negsuc t) k a b = absurd (omega (arith, ints))
fold_in m s v false e big p q l h = single_in (s -ℤ pos m) v l (at h.times h.is l.low l.high)
  where
    at : (t : ℤ) → v -ℤ s ≡ t *ℤ pos m → negsuc 9999999 ≤ℤ v → v ≤ℤ pos 10000000 → v ≡ s -ℤ pos m
    at (pos t) k a b = absurd (omega (arith, ints))
    at (negsuc zero) k a b = omega (arith, ints)
    at (negsuc (suc t)) k a b = absurd (omega (arith, ints))

fold_out : (m : ℕ) (s v : ℤ) (b : Bool) → InSome v (cond b (checked 0 s) (checked 0 (s -ℤ pos m))) → Multiple m (v -ℤ s)
fold_out m s v true h = let e = single_out s v h in moved m (pos 0) (v -ℤ s) (omega (arith, ints)) (mult_zero m)
fold_out m s v false h = let e = single_out (s -ℤ pos m) v h in moved m (pos 0 -ℤ pos m) (v -ℤ s) (omega (arith, ints)) (mult_sub m (pos 0) (pos m) (mult_zero m) (mult_self m))

-- from r to its remainder and back
to_rest : (m : ℕ) (r v : ℤ) → 0 < m → Multiple m (v -ℤ r) → Multiple m (v -ℤ remainder r m)
to_rest m r v h k = let p = mod_parts r m h in moved m ((v -ℤ r) +ℤ (r -ℤ remainder r m)) (v -ℤ remainder r m) (omega (arith, ints)) (mult_add m (v -ℤ r) (r -ℤ remainder r m) k p.whole)

from_rest : (m : ℕ) (r v : ℤ) → 0 < m → Multiple m (v -ℤ remainder r m) → Multiple m (v -ℤ r)
from_rest m r v h k = let p = mod_parts r m h in moved m ((v -ℤ remainder r m) -ℤ (r -ℤ remainder r m)) (v -ℤ r) (omega (arith, ints)) (mult_sub m (v -ℤ remainder r m) (r -ℤ remainder r m) k p.whole)

rest_in : (m : ℕ) (r v : ℤ) (b : Bool) → nat_le m 20000000 ≡ b → 0 < m → Lies v full → Multiple m (v -ℤ r) → InSome v (cond b (checked m (remainder r m)) (folded m (remainder r m)))
rest_in m r v true e h l k = let p = mod_parts r m h in checked_in m (remainder r m) v (proper_many m (remainder r m) h (leb-true m 20000000 e) p.low p.high) (to_rest m r v h k)
rest_in m r v false e h l k = let p = mod_parts r m h in fold_in m (remainder r m) v (int_le (remainder r m) (pos 10000000)) refl (leb-false m 20000000 e) p.low p.high l (to_rest m r v h k)

rest_out : (m : ℕ) (r v : ℤ) (b : Bool) → 0 < m → InSome v (cond b (checked m (remainder r m)) (folded m (remainder r m))) → Multiple m (v -ℤ r)
rest_out m r v true h k = from_rest m r v h (checked_out m (remainder r m) v k)
rest_out m r v false h k = from_rest m r v h (fold_out m (remainder r m) v (int_le (remainder r m) (pos 10000000)) k)

pub positive : (m : ℕ) → (m == 0) ≡ false → 0 < m
positive m e = omega (arith, eqb-false m 0 e)

settle_by : (m : ℕ) (r v : ℤ) (b : Bool) → (m == 0) ≡ b → Lies v full → Multiple m (v -ℤ r) → InSome v (cond b (checked 0 r) (cond (nat_le m 20000000) (checked m (remainder r m)) (folded m (remainder r m))))
settle_by m r v true e l h = single_in r v l (zero_same v r (subst (λ (n : ℕ). Multiple n (v -ℤ r)) (eqb-true m 0 e) h))
settle_by m r v false e l h = rest_in m r v (nat_le m 20000000) refl (positive m e) l h

pub settled_in : (m : ℕ) (r v : ℤ) → Lies v full → Multiple m (v -ℤ r) → InSome v (settled m r)
settled_in m r v l h = settle_by m r v (m == 0) refl l h

out_by : (m : ℕ) (r v : ℤ) (b : Bool) → (m == 0) ≡ b → InSome v (cond b (checked 0 r) (cond (nat_le m 20000000) (checked m (remainder r m)) (folded m (remainder r m)))) → Multiple m (v -ℤ r)
out_by m r v true e h = subst (λ (n : ℕ). Multiple n (v -ℤ r)) (sym (eqb-true m 0 e)) (checked_out 0 r v h)
out_by m r v false e h = rest_out m r v (nat_le m 20000000) (positive m e) h

pub settled_out : (m : ℕ) (r v : ℤ) → InSome v (settled m r) → Multiple m (v -ℤ r)
settled_out m r v h = out_by m r v (m == 0) refl h
