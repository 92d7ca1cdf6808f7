-- Sums, multiples and bounds of multiples; remainders.
use Rattle.std.proofs.Common.{◌≡◌, ℕ, zero, suc, ◌/◌, ◌<◌, ◌≤◌, ℤ, pos, negsuc, ◌+ℤ◌, ◌-ℤ◌, ◌*ℤ◌, neg_ℤ, nat_abs, ◌≤ℤ◌, ◌<ℤ◌, sym, ap, ◌∙◌, ap₂, mod-lt, div-add-mod', arith}
use Rattle.std.proofs.lemmas.Int.{ints}
use Rattle.divisibility.specs.Multiples.{Multiple, remainder}
use Rattle.divisibility.proofs.Ring.{add_mul, neg_mul, mul_assoc}

pub moved : (m : ℕ) (y z : ℤ) → y ≡ z → Multiple m y → Multiple m z
moved m y z e h = record { times = h.times; is = sym e ∙ h.is }

pub mult_zero : (m : ℕ) → Multiple m (pos 0)
mult_zero m = record { times = pos 0; is = omega (arith, ints) }

pub mult_self : (m : ℕ) → Multiple m (pos m)
mult_self m = record { times = pos 1; is = omega (arith, ints) }

pub mult_add : (m : ℕ) (y z : ℤ) → Multiple m y → Multiple m z → Multiple m (y +ℤ z)
mult_add m y z h k = record { times = h.times +ℤ k.times; is = ap₂ (λ (a b : ℤ). a +ℤ b) h.is k.is ∙ sym (add_mul h.times k.times (pos m)) }

pub mult_neg : (m : ℕ) (z : ℤ) → Multiple m z → Multiple m (neg_ℤ z)
mult_neg m z h = record { times = neg_ℤ h.times; is = ap neg_ℤ h.is ∙ sym (neg_mul h.times (pos m)) }

pub mult_sub : (m : ℕ) (y z : ℤ) → Multiple m y → Multiple m z → Multiple m (y -ℤ z)
mult_sub m y z h k = mult_add m y (neg_ℤ z) h (mult_neg m z k)

pub mult_scale : (m : ℕ) (c z : ℤ) → Multiple m z → Multiple m (c *ℤ z)
mult_scale m c z h = record { times = c *ℤ h.times; is = ap (λ (a : ℤ). c *ℤ a) h.is ∙ sym (mul_assoc c h.times (pos m)) }

pub mult_trans : (g m : ℕ) (z : ℤ) → Multiple g (pos m) → Multiple m z → Multiple g z
mult_trans g m z h k = moved g (k.times *ℤ pos m) z (sym k.is) (mult_scale g k.times (pos m) h)

-- the absolute value has the same divisors
pub mult_abs : (m : ℕ) (z : ℤ) → Multiple m z → Multiple m (pos (nat_abs z))
mult_abs m (pos n) h = h
mult_abs m (negsuc n) h = moved m _ _ (omega (arith, ints)) (mult_neg m (negsuc n) h)

pub mult_of_abs : (m : ℕ) (z : ℤ) → Multiple m (pos (nat_abs z)) → Multiple m z
mult_of_abs m (pos n) h = h
mult_of_abs m (negsuc n) h = moved m _ _ (omega (arith, ints)) (mult_neg m (pos (suc n)) h)

-- a multiple of m that is not 0 is no smaller than m
pub mult_bound : (m n : ℕ) → 0 < n → Multiple m (pos n) → m ≤ n
mult_bound m n h k = by k.times k.is
  where
    by : (t : ℤ) → pos n ≡ t *ℤ pos m → m ≤ n
    by (pos zero) e = omega (arith, ints)
    by (pos (suc t)) e = omega (arith, ints)
    by (negsuc t) e = omega (arith, ints)

-- r is what z leaves by m
pub record Parted (z : ℤ) (m : ℕ) (r : ℤ) : Type 0 where
  pub whole : Multiple m (z -ℤ r)
  pub low : pos 0 ≤ℤ r
  pub high : r <ℤ pos m

pub mod_parts : (z : ℤ) (m : ℕ) → 0 < m → Parted z m (remainder z m)
mod_parts (pos a) m h =
    let d = div-add-mod' a m in let l = mod-lt a h in
    record { whole = record { times = pos (a / m); is = omega (arith, ints) }; low = omega (arith, ints); high = omega (arith, ints) }
mod_parts (negsuc a) m h =
    let d = div-add-mod' a m in let l = mod-lt a h in
    record { whole = record { times = negsuc (a / m); is = omega (arith, ints) }; low = omega (arith, ints); high = omega (arith, ints) }

-- a remainder is the only one
pub parted_same : (z : ℤ) (m : ℕ) (r s : ℤ) → Parted z m r → Parted z m s → r ≡ s
parted_same z m r s p q = let d = mult_sub m (z -ℤ r) (z -ℤ s) p.whole q.whole in by d.times d.is p.low p.high q.low q.high
  where
    by : (t : ℤ) → (z -ℤ r) -ℤ (z -ℤ s) ≡ t *ℤ pos m → pos 0 ≤ℤ r → r <ℤ pos m → pos 0 ≤ℤ s → s <ℤ pos m → r ≡ s
    by (pos zero) e a b c d = omega (arith, ints)
    by (pos (suc t)) e a b c d = absurd (omega (arith, ints))
    by (negsuc t) e a b c d = absurd (omega (arith, ints))
