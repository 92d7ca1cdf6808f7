-- The sum of the greatest parts bounds a·v + b·w, and is it for single numbers.
use Rattle.std.specs.Prelude.{◌≡◌, true, ℤ, ◌+ℤ◌, neg_ℤ, ◌≤ℤ◌, int_le, refl}
use Rattle.std.proofs.Common.{ap, ap₂, arith}
use Rattle.std.proofs.lemmas.Int.{ints}
use Rattle.model.specs.Environments.{Lies, full}
use Rattle.model.specs.Sides.{signed, scaled}
use Rattle.model.specs.declared.side.Sign.{Sign}
use Rattle.model.specs.declared.side.Sign.TheVariants.{Plus as plus, Minus as minus}
use Rattle.model.specs.declared.side.Factor.{Factor}
use Rattle.model.specs.declared.side.Factor.TheVariants.{Plus, Zero, Minus}
use Rattle.intervals.specs.Made.{In}
use Rattle.intervals.specs.Singles.{single}
use Rattle.intervals.specs.Bounds.{most_signed, most_scaled, bounds}
use Rattle.intervals.specs.declared.interval.Interval.{Interval}
use Rattle.number_sets.specs.Clamped.{clamped_same}
use Rattle.model.proofs.Numbers.{true_le}

signed_le : (a : Sign) (x : Interval) (m : ℤ) → In m x → signed a m ≤ℤ most_signed a x
signed_le plus x m h = h.high
signed_le minus x m h = omega (arith, ints)

scaled_le : (b : Factor) (y : Interval) (n : ℤ) → In n y → scaled b n ≤ℤ most_scaled b y
scaled_le Plus y n h = h.high
scaled_le Zero y n h = omega (arith, ints)
scaled_le Minus y n h = omega (arith, ints)

sum_le : (p q r s c : ℤ) → p ≤ℤ r → q ≤ℤ s → (r +ℤ s) ≤ℤ c → (p +ℤ q) ≤ℤ c
sum_le p q r s c h k l = omega (arith, ints)

pub bounds_in : (a : Sign) (x : Interval) (b : Factor) (y : Interval) (c m n : ℤ) → bounds a x b y c ≡ true → In m x → In n y → (signed a m +ℤ scaled b n) ≤ℤ c
bounds_in a x b y c m n e h k =
    sum_le (signed a m) (scaled b n) (most_signed a x) (most_scaled b y) c (signed_le a x m h) (scaled_le b y n k) (true_le (most_signed a x +ℤ most_scaled b y) c e)

signed_single : (a : Sign) (m : ℤ) → Lies m full → most_signed a (single m) ≡ signed a m
signed_single plus m p = clamped_same m p
signed_single minus m p = ap neg_ℤ (clamped_same m p)

scaled_single : (b : Factor) (n : ℤ) → Lies n full → most_scaled b (single n) ≡ scaled b n
scaled_single Plus n p = clamped_same n p
scaled_single Zero n p = refl
scaled_single Minus n p = ap neg_ℤ (clamped_same n p)

pub bounds_single : (a : Sign) (b : Factor) (m n c : ℤ) → Lies m full → Lies n full → bounds a (single m) b (single n) c ≡ int_le (signed a m +ℤ scaled b n) c
bounds_single a b m n c p q = ap₂ (λ (u v : ℤ). int_le (u +ℤ v) c) (signed_single a m p) (scaled_single b n q)
