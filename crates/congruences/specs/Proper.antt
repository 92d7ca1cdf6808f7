-- What makes a class proper, and what a proper class's numbers are.
use Rattle.std.specs.Prelude.{◌≡◌, ℕ, ◌<◌, ◌≤◌, Bool, true, false, cond, ◌&&◌, leb, ℤ, pos, negsuc, ◌≤ℤ◌, ◌<ℤ◌, ◌==◌, int_le, int_lt, nat_eq, nat_le, unsigned_abs, refl}
use Rattle.std.proofs.Common.{sym, arith, eqb-true, le-leb, leb-true, ne_eqb}
use Rattle.std.proofs.lemmas.Int.{ints}
use Rattle.std.proofs.lemmas.Bool.{and_parts, eqb-false}
use Rattle.model.specs.Environments.{Lies, full}
use Rattle.congruences.specs.Shape.{proper}
use Rattle.congruences.specs.declared.congruence.Congruence.{Congruence}
use Rattle.model.proofs.Numbers.{le_true}

pub lt_yes : (a b : ℤ) → a <ℤ b → int_lt a b ≡ true
lt_yes a b h = sym (omega (arith, ints))

-- a single number
pub proper_single : (r : ℤ) → Lies r full → proper 0 r ≡ true
proper_single r p = rw (le_true (negsuc 9999999) r p.low, le_true r (pos 10000000) p.high)

-- a modulus and a remainder by it
pub proper_many : (m : ℕ) (r : ℤ) → 0 < m → m ≤ 20000000 → pos 0 ≤ℤ r → r <ℤ pos m → proper m r ≡ true
proper_many m r h k p q =
    let z : nat_eq m 0 ≡ false = ne_eqb m 0 (λ e. omega arith) in
    let s : leb m 20000000 ≡ true = le-leb m 20000000 k in
    rw (z, s, le_true (pos 0) r p, lt_yes r (pos m) q)

pub record Bounded (m : ℕ) (r : ℤ) : Type 0 where
  pub small : m ≤ 20000000
  pub low : negsuc 9999999 ≤ℤ r
  pub high : r ≤ℤ pos 20000000
  pub single : m ≡ 0 → Lies r full
  pub least : 0 < m → pos 0 ≤ℤ r
  pub under : 0 < m → r <ℤ pos m

by_zero : (m : ℕ) (r : ℤ) (b : Bool) → (m == 0) ≡ b → cond b (int_le (negsuc 9999999) r && int_le r (pos 10000000)) (nat_le m 20000000 && (int_le (pos 0) r && int_lt r (pos m))) ≡ true → Bounded m r
by_zero m r true e h =
    let z = eqb-true m 0 e in
    let p = and_parts (int_le (negsuc 9999999) r) (int_le r (pos 10000000)) h in
    let a = p.0 in let b = p.1 in
    record {
      small = omega arith;
      low = omega (arith, ints);
      high = omega (arith, ints);
      single = λ q. record { low = omega (arith, ints); high = omega (arith, ints) };
      least = λ q. absurd (omega arith);
      under = λ q. absurd (omega arith);
    }
by_zero m r false e h =
    let z = eqb-false m 0 e in
    let p = and_parts (nat_le m 20000000) (int_le (pos 0) r && int_lt r (pos m)) h in
    let q = and_parts (int_le (pos 0) r) (int_lt r (pos m)) p.1 in
    let s = leb-true m 20000000 p.0 in
    let a = q.0 in let b = q.1 in
    record {
      small = s;
      low = omega (arith, ints);
      high = omega (arith, ints);
      single = λ q. absurd (omega arith);
      least = λ q. omega (arith, ints);
      under = λ q. omega (arith, ints);
    }

pub bounded : (c : Congruence) → Bounded c.modulus c.residue
bounded c = by_zero c.modulus c.residue (c.modulus == 0) refl c.ok

pub abs_small : (c : Congruence) → unsigned_abs c.residue ≤ 20000000
abs_small c = let b = bounded c in let p = b.low in let q = b.high in omega (arith, ints)
