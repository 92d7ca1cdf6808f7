-- The hull's modulus and residue make a congruence.
use Rattle.std.specs.Prelude.{◌≡◌, ℕ, zero, suc, ◌<◌, ◌≤◌, Bool, true, false, cond, ℤ, pos, ◌-ℤ◌, Some, ◌==◌, nat_le, unsigned_abs, refl}
use Rattle.std.proofs.Common.{◌∙◌, ap, subst, sym, arith, eqb-true, leb-false}
use Rattle.std.proofs.lemmas.Bool.{eqb-false}
use Rattle.std.proofs.lemmas.Int.{ints}
use Rattle.model.specs.Environments.{Lies, full}
use Rattle.divisibility.specs.Gcds.{Gcd, gcd}
use Rattle.divisibility.specs.Multiples.{Multiple, remainder}
use Rattle.divisibility.proofs.Gcds.{gcd_bound, gcd_is}
use Rattle.divisibility.proofs.Multiples.{mod_parts, mult_bound, mult_trans}
use Rattle.congruences.specs.Hulls.{hull, hull_modulus}
use Rattle.congruences.specs.Settled.{checked, folded}
use Rattle.congruences.specs.Shape.{proper}
use Rattle.congruences.specs.Singles.{or_whole}
use Rattle.congruences.specs.declared.congruence.Congruence.{Congruence}
use Rattle.congruences.specs.Checks.{checked_some}
use Rattle.congruences.specs.Proper.{Bounded, bounded, proper_many, proper_single}

-- a residue by any modulus
abbrev pub rest : ℕ → ℤ → ℤ
rest m r = cond (m == 0) r (remainder r m)

-- the difference of the residues: where both are single it is at most 20,000,000
pub join_small : (x y : Congruence) → hull_modulus x y ≤ 20000000
join_small x y = by x.modulus y.modulus (gcd x.modulus y.modulus) (gcd_is x.modulus y.modulus) (gcd_is (gcd x.modulus y.modulus) (unsigned_abs (x.residue -ℤ y.residue))).left (bounded x) (bounded y)
  where
    -- a divisor of a divisor
    up_to : (a g : ℕ) → 0 < a → a ≤ 20000000 → Multiple g (pos a) → Multiple (hull_modulus x y) (pos g) → hull_modulus x y ≤ 20000000
    up_to a g z l u v = let w = mult_bound (hull_modulus x y) a z (mult_trans (hull_modulus x y) g (pos a) v u) in omega arith

    both : (r s : ℤ) → Lies r full → Lies s full → unsigned_abs (r -ℤ s) ≤ 20000000
    both r s p q = omega (arith, ints)

    by : (m n g : ℕ) → Gcd m n g → Multiple (hull_modulus x y) (pos g) → Bounded m x.residue → Bounded n y.residue → hull_modulus x y ≤ 20000000
    by zero zero g h k p q =
        gcd_bound (gcd x.modulus y.modulus) (unsigned_abs (x.residue -ℤ y.residue)) (hull_modulus x y) 20000000
        (gcd_is (gcd x.modulus y.modulus) (unsigned_abs (x.residue -ℤ y.residue)))
        (gcd_bound x.modulus y.modulus (gcd x.modulus y.modulus) 20000000 (gcd_is x.modulus y.modulus) (bounded x).small (bounded y).small)
        (both x.residue y.residue (p.single refl) (q.single refl))
    by (suc m) n g h k p q = up_to (suc m) g (omega arith) p.small h.left k
    by zero (suc n) g h k p q = up_to (suc n) g (omega arith) q.small h.right k

-- of modulus 0 both are single, so the residue is legal
join_single : (x y : Congruence) → hull_modulus x y ≡ 0 → x.modulus ≡ 0
join_single x y e =
    let a = (gcd_is (gcd x.modulus y.modulus) (unsigned_abs (x.residue -ℤ y.residue))).left in
    let b = (gcd_is x.modulus y.modulus).left in
    let c = mult_trans (hull_modulus x y) (gcd x.modulus y.modulus) (pos x.modulus) a b in
    none x.modulus (hull_modulus x y) e c
  where
    none : (m g : ℕ) → g ≡ 0 → Multiple g (pos m) → m ≡ 0
    none m g z h = zero_only m (subst (λ (n : ℕ). Multiple n (pos m)) z h)
      where
        zero_only : (m : ℕ) → Multiple 0 (pos m) → m ≡ 0
        zero_only m h = let e = h.is in omega (arith, ints)

pub rest_proper : (m : ℕ) (r : ℤ) (b : Bool) → (m == 0) ≡ b → m ≤ 20000000 → (m ≡ 0 → Lies r full) → proper m (cond b r (remainder r m)) ≡ true
rest_proper m r true e h k = let z = eqb-true m 0 e in subst (λ (n : ℕ). proper n r ≡ true) (sym z) (proper_single r (k z))
rest_proper m r false e h k = let z : 0 < m = omega (arith, eqb-false m 0 e) in let p = mod_parts r m z in proper_many m (remainder r m) z h p.low p.high

pub join_proper : (x y : Congruence) → proper (hull_modulus x y) (rest (hull_modulus x y) x.residue) ≡ true
join_proper x y = rest_proper (hull_modulus x y) x.residue (hull_modulus x y == 0) refl (join_small x y) (λ e. (bounded x).single (join_single x y e))

abbrev pub joined : Congruence → Congruence → Congruence
joined x y = record { modulus = hull_modulus x y; residue = rest (hull_modulus x y) x.residue; ok = join_proper x y }

-- so the hull is never in need of its default
pub settled_small : (m : ℕ) (r : ℤ) (b d : Bool) → (m == 0) ≡ b → nat_le m 20000000 ≡ d → m ≤ 20000000 → (c : Congruence) → c.modulus ≡ m → c.residue ≡ cond b r (remainder r m) → cond b (checked 0 r) (cond d (checked m (remainder r m)) (folded m (remainder r m))) ≡ Some c
settled_small m r true d e f l c p q = checked_some 0 r c (p ∙ eqb-true m 0 e) q
settled_small m r false true e f l c p q = checked_some m (remainder r m) c p q
settled_small m r false false e f l c p q = let k = leb-false m 20000000 f in absurd (omega arith)

pub hull_is : (x y : Congruence) → hull x y ≡ joined x y
hull_is x y = ap or_whole (settled_small (hull_modulus x y) x.residue (hull_modulus x y == 0) (nat_le (hull_modulus x y) 20000000) refl refl (join_small x y) (joined x y) refl refl)
