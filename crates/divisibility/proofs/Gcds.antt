-- Euclid's rule gives the greatest common divisor, and there is no other.
use Rattle.std.proofs.Common.{◌≡◌, ℕ, zero, suc, ◌/◌, ◌%◌, ◌<◌, ◌≤◌, Bool, true, false, cond, eqb, pos, ◌+ℤ◌, ◌-ℤ◌, ◌*ℤ◌, sym, refl, subst, mod-lt, div-add-mod', arith}
use Rattle.std.proofs.lemmas.Int.{ints}
use Rattle.std.proofs.lemmas.Bool.{eqb-true, eqb-false}
use Rattle.divisibility.specs.Multiples.{Multiple}
use Rattle.divisibility.specs.Gcds.{Gcd, gcd_by, gcd}
use Rattle.divisibility.proofs.Multiples.{moved, mult_zero, mult_self, mult_add, mult_sub, mult_scale, mult_bound}

pub gcd_zero : (a : ℕ) → Gcd a 0 a
gcd_zero a = record { left = mult_self a; right = mult_zero a; greatest = λ d p q. p }

pub rest_is : (a b : ℕ) → pos a ≡ (pos (a / b) *ℤ pos b) +ℤ pos (a % b)
rest_is a b = let d = div-add-mod' a b in omega (arith, ints)

rest_of : (a b : ℕ) → pos a -ℤ (pos (a / b) *ℤ pos b) ≡ pos (a % b)
rest_of a b = let e = rest_is a b in omega (arith, ints)

-- one step of the rule
pub gcd_step : (a b g : ℕ) → Gcd b (a % b) g → Gcd a b g
gcd_step a b g h = record {
  left = moved g _ _ (sym (rest_is a b)) (mult_add g _ _ (mult_scale g (pos (a / b)) (pos b) h.left) h.right);
  right = h.left;
  greatest = λ d p q. h.greatest d q (moved d (pos a -ℤ (pos (a / b) *ℤ pos b)) (pos (a % b)) (rest_of a b) (mult_sub d _ _ p (mult_scale d (pos (a / b)) (pos b) q)));
}

pub gcd_back : (a b g : ℕ) → Gcd a b g → Gcd b (a % b) g
gcd_back a b g h = record {
  left = h.right;
  right = moved g (pos a -ℤ (pos (a / b) *ℤ pos b)) (pos (a % b)) (rest_of a b) (mult_sub g _ _ h.left (mult_scale g (pos (a / b)) (pos b) h.right));
  greatest = λ d p q. h.greatest d (moved d _ _ (sym (rest_is a b)) (mult_add d _ _ (mult_scale d (pos (a / b)) (pos b) p) q)) p;
}

gcd_by_is : (n a b : ℕ) → b < n → Gcd a b (gcd_by n a b)
unfolding gcd_by
gcd_by_is zero a b h = absurd (omega arith)
gcd_by_is (suc n) a b h = step (eqb b 0) refl (λ k. gcd_by_is n b (a % b) k)
  where
    step : (t : Bool) → eqb b 0 ≡ t → (a % b < n → Gcd b (a % b) (gcd_by n b (a % b))) → Gcd a b (cond t a (gcd_by n b (a % b)))
    step true e f = let z : b ≡ 0 = eqb-true b 0 e in subst (λ (x : ℕ). Gcd a x a) (sym z) (gcd_zero a)
    step false e f =
        let p : 0 < b = omega (arith, eqb-false b 0 e) in
        let l = mod-lt a p in
        gcd_step a b (gcd_by n b (a % b)) (f (omega arith))

pub gcd_is : (a b : ℕ) → Gcd a b (gcd a b)
unfolding gcd
gcd_is a b = gcd_by_is (suc b) a b (omega arith)

-- two numbers that divide one another are the same
pub mult_both : (a b : ℕ) → Multiple a (pos b) → Multiple b (pos a) → a ≡ b
mult_both zero zero p q = refl
mult_both zero (suc b) p q = let e = p.is in absurd (omega (arith, ints))
mult_both (suc a) zero p q = let e = q.is in absurd (omega (arith, ints))
mult_both (suc a) (suc b) p q = let h = mult_bound (suc a) (suc b) (omega arith) p in let k = mult_bound (suc b) (suc a) (omega arith) q in omega arith

pub gcd_only : (a b g h : ℕ) → Gcd a b g → Gcd a b h → g ≡ h
gcd_only a b g h p q = mult_both g h (q.greatest g p.left p.right) (p.greatest h q.left q.right)

-- the gcd passes neither number, unless that is 0
pub gcd_bound : (a b g k : ℕ) → Gcd a b g → a ≤ k → b ≤ k → g ≤ k
gcd_bound zero zero g k h p q = let e = (h.greatest 0 (mult_zero 0) (mult_zero 0)).is in omega (arith, ints)
gcd_bound (suc a) b g k h p q = let l = mult_bound g (suc a) (omega arith) h.left in omega arith
gcd_bound zero (suc b) g k h p q = let l = mult_bound g (suc b) (omega arith) h.right in omega arith
