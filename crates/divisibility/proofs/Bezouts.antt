-- What follows from a factor that brings m to the gcd, but for multiples of n.
use Rattle.std.proofs.Common.{◌≡◌, ℕ, zero, suc, ◌*◌, ◌/◌, ◌%◌, ◌<◌, Bool, true, false, cond, eqb, ℤ, pos, negsuc, ◌+ℤ◌, ◌-ℤ◌, ◌*ℤ◌, neg_ℤ, sym, refl, ap, ◌∙◌, subst, ap₂, mod-lt, div-add-mod', arith, eqb-true}
use lib.IntN.{*ℤ_comm}
use native.Mathlib.Nat.{eq_of_mul-eq-mul_left}
use borrow.Author.Tests.{eqb-false}
use Rattle.std.proofs.lemmas.Int.{ints}
use Rattle.divisibility.proofs.Ring.{add_mul, neg_mul, mul_add, mul_sub, mul_swap, mul_assoc}
use Rattle.divisibility.specs.Multiples.{Multiple}
use Rattle.divisibility.proofs.Multiples.{moved, mult_zero, mult_self, mult_sub, mult_neg, mult_scale, mult_of_abs}
use Rattle.divisibility.specs.Gcds.{Gcd, gcd_by, gcd}
use Rattle.divisibility.proofs.Divides.{rest_zero}

-- the gcd is a sum of multiples of both numbers
pub record Mixed (a b g : ℕ) : Type 0 where
  pub left : ℤ
  pub right : ℤ
  pub is : pos g ≡ (left *ℤ pos a) +ℤ (right *ℤ pos b)

mixed_zero : (a : ℕ) → Mixed a 0 a
mixed_zero a = record { left = pos 1; right = pos 0; is = omega (arith, ints) }

mixed_step : (a b g : ℕ) → Mixed b (a % b) g → Mixed a b g
mixed_step a b g h = record { left = h.right; right = h.left -ℤ (h.right *ℤ pos (a / b)); is = turn h.left h.right h.is }
  where
    turn : (k l : ℤ) → pos g ≡ (k *ℤ pos b) +ℤ (l *ℤ pos (a % b)) → pos g ≡ (l *ℤ pos a) +ℤ ((k -ℤ (l *ℤ pos (a / b))) *ℤ pos b)
    turn k l e =
        let d = div-add-mod' a b in
        let s : pos a ≡ (pos (a / b) *ℤ pos b) +ℤ pos (a % b) = omega (arith, ints) in
        let p = ap (λ (z : ℤ). l *ℤ z) s ∙ mul_add l (pos (a / b) *ℤ pos b) (pos (a % b)) in
        let q = mul_assoc l (pos (a / b)) (pos b) in
        let r = add_mul k (neg_ℤ (l *ℤ pos (a / b))) (pos b) in
        let t = neg_mul (l *ℤ pos (a / b)) (pos b) in
        sum (pos g) (k *ℤ pos b) (l *ℤ pos (a % b)) (l *ℤ pos a) (l *ℤ (pos (a / b) *ℤ pos b)) ((l *ℤ pos (a / b)) *ℤ pos b) ((k -ℤ (l *ℤ pos (a / b))) *ℤ pos b) (neg_ℤ (l *ℤ pos (a / b)) *ℤ pos b) e p q r t
      where
        sum : (g kb lr la lqb lqb' x y : ℤ) → g ≡ kb +ℤ lr → la ≡ lqb +ℤ lr → lqb' ≡ lqb → x ≡ kb +ℤ y → y ≡ neg_ℤ lqb' → g ≡ la +ℤ x
        sum g kb lr la lqb lqb' x y e p q r t = omega (arith, ints)

mixed_by : (n a b : ℕ) → b < n → Mixed a b (gcd_by n a b)
unfolding gcd_by
mixed_by zero a b h = absurd (omega arith)
mixed_by (suc n) a b h = step (eqb b 0) refl (λ k. mixed_by n b (a % b) k)
  where
    step : (t : Bool) → eqb b 0 ≡ t → (a % b < n → Mixed b (a % b) (gcd_by n b (a % b))) → Mixed a b (cond t a (gcd_by n b (a % b)))
    step true e f = let z : b ≡ 0 = eqb-true b 0 e in subst (λ (x : ℕ). Mixed a x a) (sym z) (mixed_zero a)
    step false e f =
        let p : 0 < b = omega (arith, eqb-false b 0 e) in
        let l = mod-lt a p in
        mixed_step a b (gcd_by n b (a % b)) (f (omega arith))

pub mixed : (a b : ℕ) → Mixed a b (gcd a b)
unfolding gcd
mixed a b = mixed_by (suc b) a b (omega arith)

-- so some factor of m is the gcd, but for a multiple of n
pub factored : (m n : ℕ) → (k : ℤ) × Multiple n ((k *ℤ pos m) -ℤ pos (gcd m n))
factored m n = let h = mixed m n in (h.left, moved n (neg_ℤ (h.right *ℤ pos n)) ((h.left *ℤ pos m) -ℤ pos (gcd m n)) (let e = h.is in omega (arith, ints)) (mult_neg n _ (mult_scale n h.right (pos n) (mult_self n))))

-- a divisor times the quotient is the number
pub quotient_is : (g n : ℕ) → 0 < g → Multiple g (pos n) → n / g * g ≡ n
quotient_is g n h k = let d = div-add-mod' n g in let z = rest_zero g n h k in omega arith

-- a common factor may go
cancel_pos : (g e d : ℕ) → 0 < g → Multiple (e * g) (pos g *ℤ pos d) → Multiple e (pos d)
cancel_pos g e d h k = by k.times k.is
  where
    none : (d : ℕ) → g * d ≡ 0 → d ≡ 0
    none zero e = refl
    none (suc d) e = absurd (omega arith)

    by : (t : ℤ) → pos g *ℤ pos d ≡ t *ℤ pos (e * g) → Multiple e (pos d)
    by (pos t) q =
        let a : g * d ≡ g * (t * e) = omega (arith, ints) in
        let b = eq_of_mul-eq-mul_left g h d (t * e) a in
        record { times = pos t; is = ap pos b }
    by (negsuc t) q = let z = none d (omega (arith, ints)) in moved e (pos 0) (pos d) (ap pos (sym z)) (mult_zero e)

pub cancel : (g e : ℕ) (z : ℤ) → 0 < g → Multiple (e * g) (pos g *ℤ z) → Multiple e z
cancel g e (pos d) h k = cancel_pos g e d h k
cancel g e (negsuc d) h k =
    mult_of_abs e (negsuc d) (cancel_pos g e (suc d) h (moved (e * g) (neg_ℤ (pos g *ℤ negsuc d)) (pos g *ℤ pos (suc d)) (omega (arith, ints)) (mult_neg (e * g) _ k)))

-- n divides m times z: then n / g divides z
pub through : (m n g : ℕ) (k z : ℤ) → 0 < g → Gcd m n g → Multiple n ((k *ℤ pos m) -ℤ pos g) → Multiple n (z *ℤ pos m) → Multiple (n / g) z
through m n g k z h d f w =
    let a = mult_scale n k (z *ℤ pos m) w in
    let b = mult_scale n z ((k *ℤ pos m) -ℤ pos g) f in
    let p = mul_sub z (k *ℤ pos m) (pos g) in
    let q = mul_swap k z (pos m) in
    let c : Multiple n (pos g *ℤ z) = moved n ((k *ℤ (z *ℤ pos m)) -ℤ (z *ℤ ((k *ℤ pos m) -ℤ pos g))) (pos g *ℤ z) (turn (k *ℤ (z *ℤ pos m)) (z *ℤ ((k *ℤ pos m) -ℤ pos g)) (z *ℤ (k *ℤ pos m)) (z *ℤ pos g) (pos g *ℤ z) q p (*ℤ_comm z (pos g))) (mult_sub n _ _ a b) in
    cancel g (n / g) z h (subst (λ (x : ℕ). Multiple x (pos g *ℤ z)) (sym (quotient_is g n h d.right)) c)
  where
    turn : (a b c x y : ℤ) → a ≡ c → b ≡ c -ℤ x → x ≡ y → a -ℤ b ≡ y
    turn a b c x y p q r = omega (arith, ints)

-- n / g divides z: then n divides m times z
pub onto : (m n g : ℕ) (z : ℤ) → 0 < g → Gcd m n g → Multiple (n / g) z → Multiple n (z *ℤ pos m)
onto m n g z h d w =
    let l = d.left in
    let a = mult_scale (n / g) l.times z w in
    subst (λ (x : ℕ). Multiple x (z *ℤ pos m)) (quotient_is g n h d.right)
    (record { times = w.times *ℤ l.times; is = ap₂ (λ (x y : ℤ). x *ℤ y) w.is l.is ∙ turn w.times l.times (n / g) })
  where
    turn : (a b : ℤ) (e : ℕ) → (a *ℤ pos e) *ℤ (b *ℤ pos g) ≡ (a *ℤ b) *ℤ pos (e * g)
    turn a b e = mul_assoc a (pos e) (b *ℤ pos g) ∙ (ap (λ (x : ℤ). a *ℤ x) (mul_swap (pos e) b (pos g)) ∙ sym (mul_assoc a b (pos e *ℤ pos g)))
