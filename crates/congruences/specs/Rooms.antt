-- A join never has more room, and has less wherever the second class is not inside the first.
use Rattle.std.specs.Prelude.{◌≡◌, ℕ, zero, suc, ◌*◌, ◌^◌, ◌<◌, ◌≤◌, Bool, true, false, cond, ℤ, pos, negsuc, ◌-ℤ◌, ◌*ℤ◌, neg_ℤ, ◌==◌, ◌≢◌, nat_le, unsigned_abs, refl}
use Rattle.std.proofs.Common.{◌∙◌, subst, sym, arith, eqb-true, leb-false, leb-true}
use Rattle.std.proofs.Math.Decide.{dec_lt}
use Rattle.std.proofs.lemmas.Int.{ints}
use Rattle.std.proofs.lemmas.Bool.{and_from, both_ways, eqb-false}
use Rattle.divisibility.specs.Gcds.{gcd}
use Rattle.divisibility.specs.Multiples.{Multiple, agrees, divides}
use Rattle.divisibility.proofs.Divides.{agrees_from, divides_from}
use Rattle.divisibility.proofs.Gcds.{gcd_is}
use Rattle.divisibility.proofs.Multiples.{moved, mult_bound, mult_neg, mult_of_abs, mult_trans}
use Rattle.congruences.specs.Hulls.{hull_modulus, inside}
use Rattle.congruences.specs.Room.{log_to, room}
use Rattle.congruences.specs.declared.congruence.Congruence.{Congruence}
use Rattle.congruences.specs.Joining.{joined}
use Rattle.congruences.specs.Proper.{bounded}

log_le : (n m : ℕ) → log_to n m ≤ n
unfolding log_to
log_le zero m = omega arith
log_le (suc n) m = by (nat_le (2 ^ suc n) m) (log_le n m)
  where
    by : (b : Bool) → log_to n m ≤ n → cond b (suc n) (log_to n m) ≤ suc n
    by true h = omega arith
    by false h = omega arith

log_low : (n m : ℕ) → 0 < m → 2 ^ log_to n m ≤ m
unfolding log_to
log_low zero m h = omega arith
log_low (suc n) m h = by (nat_le (2 ^ suc n) m) refl (log_low n m h)
  where
    by : (b : Bool) → nat_le (2 ^ suc n) m ≡ b → 2 ^ log_to n m ≤ m → 2 ^ cond b (suc n) (log_to n m) ≤ m
    by true e k = leb-true (2 ^ suc n) m e
    by false e k = k

log_best : (n m k : ℕ) → k ≤ n → 2 ^ k ≤ m → k ≤ log_to n m
unfolding log_to
log_best zero m k h l = h
log_best (suc n) m k h l = by (nat_le (2 ^ suc n) m) refl (λ q. log_best n m k q l)
  where
    last : (k : ℕ) → k ≤ suc n → 2 ^ k ≤ m → m < 2 ^ suc n → k ≤ n
    last k h l s = elim (dec_lt n k) [
      | yes q ↦ (let e : k ≡ suc n = omega arith in let w = subst (λ (j : ℕ). 2 ^ j ≤ m) e l in absurd (omega arith))
      | no q ↦ omega arith
    ]

    by : (b : Bool) → nat_le (2 ^ suc n) m ≡ b → (k ≤ n → k ≤ log_to n m) → k ≤ cond b (suc n) (log_to n m)
    by true e f = h
    by false e f = f (last k h l (leb-false (2 ^ suc n) m e))

log_mono : (n g m : ℕ) → 0 < g → g ≤ m → log_to n g ≤ log_to n m
log_mono n g m h l = let k = log_low n g h in log_best n m (log_to n g) (log_le n g) (omega arith)

log_falls : (n g m : ℕ) → 0 < g → 2 * g ≤ m → m < 2 ^ suc n → log_to n g < log_to n m
log_falls n g m h l s =
    let k = log_low n g h in let b = log_le n g in
    log_best n m (suc (log_to n g)) (low (log_to n g) b k) (omega arith)
  where
    low : (j : ℕ) → j ≤ n → 2 ^ j ≤ g → suc j ≤ n
    low j b k = elim (dec_lt j n) [
      | yes q ↦ q
      | no q ↦ (let e : j ≡ n = omega arith in let w = subst (λ (i : ℕ). 2 ^ i ≤ g) e k in absurd (omega arith))
    ]

-- a divisor that is not the number itself is at most its half
half : (g m : ℕ) → 0 < m → Multiple g (pos m) → (g ≢ m) → 2 * g ≤ m
half g m h k n = by k.times k.is
  where
    by : (t : ℤ) → pos m ≡ t *ℤ pos g → 2 * g ≤ m
    by (pos zero) e = absurd (omega (arith, ints))
    by (pos (suc zero)) e = absurd (n (omega (arith, ints)))
    by (pos (suc (suc t))) e = omega (arith, ints)
    by (negsuc t) e = absurd (omega (arith, ints))

-- the join's modulus divides all three
divides_left : (x y : Congruence) → Multiple (hull_modulus x y) (pos x.modulus)
divides_left x y = mult_trans (hull_modulus x y) _ (pos x.modulus) (gcd_is (gcd x.modulus y.modulus) (unsigned_abs (x.residue -ℤ y.residue))).left (gcd_is x.modulus y.modulus).left

divides_right : (x y : Congruence) → Multiple (hull_modulus x y) (pos y.modulus)
divides_right x y = mult_trans (hull_modulus x y) _ (pos y.modulus) (gcd_is (gcd x.modulus y.modulus) (unsigned_abs (x.residue -ℤ y.residue))).left (gcd_is x.modulus y.modulus).right

divides_gap : (x y : Congruence) → Multiple (hull_modulus x y) (x.residue -ℤ y.residue)
divides_gap x y = mult_of_abs (hull_modulus x y) (x.residue -ℤ y.residue) (gcd_is (gcd x.modulus y.modulus) (unsigned_abs (x.residue -ℤ y.residue))).right

same_inside : (x y : Congruence) → hull_modulus x y ≡ x.modulus → inside y x ≡ true
same_inside x y e =
    let a = subst (λ (n : ℕ). Multiple n (pos y.modulus)) e (divides_right x y) in
    let b = subst (λ (n : ℕ). Multiple n (x.residue -ℤ y.residue)) e (divides_gap x y) in
    and_from (divides x.modulus y.modulus) (agrees x.modulus y.residue x.residue)
    (divides_from x.modulus y.modulus a)
    (agrees_from x.modulus y.residue x.residue (moved x.modulus (neg_ℤ (x.residue -ℤ y.residue)) (y.residue -ℤ x.residue) (omega (arith, ints)) (mult_neg x.modulus _ b)))

le_by : (g m : ℕ) (b d : Bool) → (g == 0) ≡ b → (m == 0) ≡ d → Multiple g (pos m) → cond b 25 (log_to 24 g) ≤ cond d 25 (log_to 24 m)
le_by g m true true p q h = omega arith
le_by g m false true p q h = let l = log_le 24 g in omega arith
le_by g m true false p q h =
    let z = eqb-true g 0 p in let k = subst (λ (n : ℕ). Multiple n (pos m)) z h in let e = k.is in
    absurd (eqb-false m 0 q (omega (arith, ints)))
le_by g m false false p q h =
    let z : 0 < m = omega (arith, eqb-false m 0 q) in
    log_mono 24 g m (omega (arith, eqb-false g 0 p)) (mult_bound g m z h)

pub room_le : (x y : Congruence) → room (joined x y) ≤ room x
room_le x y = le_by (hull_modulus x y) x.modulus (hull_modulus x y == 0) (x.modulus == 0) refl refl (divides_left x y)

lt_by : (g m : ℕ) (b d : Bool) → (g == 0) ≡ b → (m == 0) ≡ d → Multiple g (pos m) → m ≤ 20000000 → (g ≢ m) → cond b 25 (log_to 24 g) < cond d 25 (log_to 24 m)
lt_by g m true true p q h s n = absurd (n (eqb-true g 0 p ∙ sym (eqb-true m 0 q)))
lt_by g m false true p q h s n = let l = log_le 24 g in omega arith
lt_by g m true false p q h s n =
    let z = eqb-true g 0 p in let k = subst (λ (n : ℕ). Multiple n (pos m)) z h in let e = k.is in
    absurd (eqb-false m 0 q (omega (arith, ints)))
lt_by g m false false p q h s n =
    let z : 0 < m = omega (arith, eqb-false m 0 q) in
    log_falls 24 g m (omega (arith, eqb-false g 0 p)) (half g m z h n) (omega arith)

pub room_lt : (x y : Congruence) → inside y x ≡ false → room (joined x y) < room x
room_lt x y h = lt_by (hull_modulus x y) x.modulus (hull_modulus x y == 0) (x.modulus == 0) refl refl (divides_left x y) (bounded x).small (λ e. both_ways (inside y x) h (same_inside x y e))

pub room_top : (x : Congruence) → room x ≤ 25
room_top x = by (x.modulus == 0) (log_le 24 x.modulus)
  where
    by : (b : Bool) → log_to 24 x.modulus ≤ 24 → cond b 25 (log_to 24 x.modulus) ≤ 25
    by true l = omega arith
    by false l = omega arith
