-- m times n over their gcd is the least common multiple.
use Rattle.std.proofs.Common.{◌≡◌, ℕ, zero, suc, ◌*◌, ◌/◌, ◌<◌, ◌≤◌, ℤ, pos, ◌*ℤ◌, ap, ◌∙◌, mul-le-mul, arith}
use lib.IntN.{*ℤ_comm}
use Rattle.std.proofs.lemmas.Int.{ints}
use Rattle.divisibility.specs.Multiples.{Multiple}
use Rattle.divisibility.specs.Gcds.{Gcd, Lcm, gcd, lcm}
use Rattle.divisibility.proofs.Ring.{mul_assoc}
use Rattle.divisibility.proofs.Multiples.{moved}
use Rattle.divisibility.proofs.Gcds.{gcd_is}
use Rattle.divisibility.proofs.Bezouts.{quotient_is, factored, through}

pub gcd_positive : (m n g : ℕ) → 0 < n → Gcd m n g → 0 < g
gcd_positive m n zero h d = let e = d.right.is in absurd (omega (arith, ints))
gcd_positive m n (suc g) h d = omega arith

pub quotient_positive : (n g : ℕ) → 0 < n → n / g * g ≡ n → 0 < n / g
quotient_positive n g h e = by (n / g) e
  where
    by : (q : ℕ) → q * g ≡ n → 0 < q
    by zero k = absurd (omega arith)
    by (suc q) k = omega arith

pub lcm_left : (m n : ℕ) → Multiple m (pos (lcm m n))
lcm_left m n = record { times = pos (n / gcd m n); is = omega (arith, ints) }

pub lcm_right : (m n : ℕ) → 0 < n → Multiple n (pos (lcm m n))
lcm_right m n h =
    let d = gcd_is m n in let z = gcd_positive m n (gcd m n) h d in
    let q = quotient_is (gcd m n) n z d.right in
    let l = d.left in
    record { times = l.times; is = at (n / gcd m n) (gcd m n) l.times q l.is }
  where
    at : (e g : ℕ) (t : ℤ) → e * g ≡ n → pos m ≡ t *ℤ pos g → pos (m * e) ≡ t *ℤ pos n
    at e g t q s = ap (λ (x : ℤ). x *ℤ pos e) s ∙ (mul_assoc t (pos g) (pos e) ∙ ap (λ (x : ℤ). t *ℤ x) (*ℤ_comm (pos g) (pos e) ∙ ap pos q))

-- a multiple of n that is j times m: then n / g divides j
lcm_least : (m n : ℕ) (z : ℤ) → 0 < n → Multiple m z → Multiple n z → Multiple (lcm m n) z
lcm_least m n z h a b =
    let d = gcd_is m n in let p = gcd_positive m n (gcd m n) h d in
    let f = factored m n in
    let j = through m n (gcd m n) f.0 a.times p d f.1 (moved n z (a.times *ℤ pos m) a.is b) in
    record { times = j.times; is = a.is ∙ at a.times j.times (n / gcd m n) j.is }
  where
    at : (t q : ℤ) (e : ℕ) → t ≡ q *ℤ pos e → t *ℤ pos m ≡ q *ℤ pos (m * e)
    at t q e w = ap (λ (x : ℤ). x *ℤ pos m) w ∙ (mul_assoc q (pos e) (pos m) ∙ ap (λ (x : ℤ). q *ℤ x) (*ℤ_comm (pos e) (pos m)))

pub lcm_is : (m n : ℕ) → 0 < n → Lcm m n (lcm m n)
lcm_is m n h = record { left = lcm_left m n; right = lcm_right m n h; least = λ z a b. lcm_least m n z h a b }

pub product_mono : (m a n : ℕ) → a ≤ n → m * a ≤ m * n
product_mono m a n h = let r : m ≤ m = omega arith in mul-le-mul r h
