-- The tests of divisibility say what they should.
use Rattle.std.proofs.Common.{◌≡◌, ℕ, zero, suc, ◌/◌, ◌%◌, ◌<◌, Bool, true, false, cond, eqb, ℤ, pos, ◌-ℤ◌, nat_abs, refl, subst, mod-lt, div-add-mod', arith, eq-eqb, eqb-true}
use borrow.Author.Tests.{eqb-false}
use Rattle.std.proofs.lemmas.Int.{ints}
use Rattle.divisibility.specs.Multiples.{Multiple}
use Rattle.divisibility.proofs.Multiples.{moved, mult_zero, mult_abs, mult_of_abs, mult_sub, mult_bound, mod_parts}
use Rattle.divisibility.specs.Multiples.{divides, agrees}

zero_only : (z : ℤ) → Multiple 0 z → z ≡ pos 0
zero_only z h = let e = h.is in omega (arith, ints)

by_yes : (n m : ℕ) (b : Bool) → eqb n 0 ≡ b → cond b (eqb m 0) (eqb (m % n) 0) ≡ true → Multiple n (pos m)
by_yes n m true e h = let z = eqb-true m 0 h in moved n (pos 0) (pos m) (omega (arith, ints)) (mult_zero n)
by_yes n m false e h = let z = eqb-true (m % n) 0 h in let d = div-add-mod' m n in record { times = pos (m / n); is = omega (arith, ints) }

pub divides_yes : (n m : ℕ) → divides n m ≡ true → Multiple n (pos m)
divides_yes n m h = by_yes n m (eqb n 0) refl h

pub rest_zero : (n m : ℕ) → 0 < n → Multiple n (pos m) → m % n ≡ 0
rest_zero n m h k = small (m % n) (mod-lt m h) (moved n (pos m -ℤ (pos m -ℤ pos (m % n))) (pos (m % n)) (omega (arith, ints)) (mult_sub n (pos m) (pos m -ℤ pos (m % n)) k (mod_parts (pos m) n h).whole))
  where
    small : (r : ℕ) → r < n → Multiple n (pos r) → r ≡ 0
    small zero l q = refl
    small (suc r) l q = let b = mult_bound n (suc r) (omega arith) q in absurd (omega arith)

by_from : (n m : ℕ) (b : Bool) → eqb n 0 ≡ b → Multiple n (pos m) → cond b (eqb m 0) (eqb (m % n) 0) ≡ true
by_from n m true e h =
    let z = zero_only (pos m) (subst (λ (k : ℕ). Multiple k (pos m)) (eqb-true n 0 e) h) in
    eq-eqb m 0 (omega (arith, ints))
by_from n m false e h = eq-eqb (m % n) 0 (rest_zero n m (omega (arith, eqb-false n 0 e)) h)

pub divides_from : (n m : ℕ) → Multiple n (pos m) → divides n m ≡ true
divides_from n m h = by_from n m (eqb n 0) refl h

pub agrees_yes : (n : ℕ) (r s : ℤ) → agrees n r s ≡ true → Multiple n (r -ℤ s)
agrees_yes n r s h = mult_of_abs n (r -ℤ s) (divides_yes n (nat_abs (r -ℤ s)) h)

pub agrees_from : (n : ℕ) (r s : ℤ) → Multiple n (r -ℤ s) → agrees n r s ≡ true
agrees_from n r s h = divides_from n (nat_abs (r -ℤ s)) (mult_abs n (r -ℤ s) h)
