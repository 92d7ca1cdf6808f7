-- Results of members lie in the result; a join holds both; inside means that every member is one of the other.
use Rattle.std.specs.Prelude.{◌≡◌, ℕ, suc, ◌*◌, Bool, true, false, cond, ℤ, pos, negsuc, ◌+ℤ◌, ◌-ℤ◌, ◌*ℤ◌, ◌==◌, unsigned_abs, refl}
use Rattle.std.proofs.Common.{◌∙◌, ap, ap₂, sym, arith}
use Rattle.std.proofs.Math.IntN.{*ℤ_comm}
use Rattle.std.proofs.lemmas.Int.{ints}
use Rattle.std.proofs.lemmas.Bool.{and_parts, eqb-false}
use Rattle.model.specs.Environments.{Lies, full}
use Rattle.model.specs.Values.{apply}
use Rattle.model.specs.declared.expression.Op.{Op}
use Rattle.model.specs.declared.expression.Op.TheVariants.{Add, Mul, Sub}
use Rattle.divisibility.specs.Gcds.{gcd}
use Rattle.divisibility.specs.Multiples.{Multiple, agrees, divides, remainder}
use Rattle.divisibility.proofs.Divides.{agrees_yes, divides_yes}
use Rattle.divisibility.proofs.Gcds.{gcd_is}
use Rattle.divisibility.proofs.Multiples.{mod_parts, moved, mult_add, mult_neg, mult_of_abs, mult_scale, mult_sub, mult_trans}
use Rattle.divisibility.proofs.Ring.{mul_assoc, mul_sub, mul_swap}
use Rattle.congruences.specs.Hulls.{hull_modulus, inside}
use Rattle.congruences.specs.Members.{In, InSome}
use Rattle.congruences.specs.Results.{modulus_of, results}
use Rattle.congruences.specs.declared.congruence.Congruence.{Congruence}
use Rattle.congruences.specs.Joining.{joined, rest}
use Rattle.congruences.specs.Settles.{settled_in}

-- g divides |r|n, so it divides r times any multiple of n
scaled : (g n : ℕ) (r z : ℤ) → Multiple g (pos (unsigned_abs r * n)) → Multiple n z → Multiple g (r *ℤ z)
scaled g n r z h k =
    moved g (k.times *ℤ (r *ℤ pos n)) (r *ℤ z) (mul_swap k.times r (pos n) ∙ ap (λ (a : ℤ). r *ℤ a) (sym k.is))
    (mult_scale g k.times (r *ℤ pos n) (signed r h))
  where
    signed : (r : ℤ) → Multiple g (pos (unsigned_abs r * n)) → Multiple g (r *ℤ pos n)
    signed (pos a) h = h
    signed (negsuc a) h = moved g _ _ (omega (arith, ints)) (mult_neg g (pos (suc a * n)) h)

-- uv − rs = r(v − s) + (s(u − r) + (u − r)(v − s))
crossed : (u v r s : ℤ) → (r *ℤ (v -ℤ s)) +ℤ ((s *ℤ (u -ℤ r)) +ℤ ((u -ℤ r) *ℤ (v -ℤ s))) ≡ (u *ℤ v) -ℤ (r *ℤ s)
crossed u v r s =
    let a = mul_sub r v s in let b = mul_sub s u r in let c = mul_sub (u -ℤ r) v s in
    let d = *ℤ_comm (u -ℤ r) v in let e = mul_sub v u r in let f = *ℤ_comm (u -ℤ r) s in
    let g = *ℤ_comm v u in let h = *ℤ_comm v r in let i = *ℤ_comm s r in let j = *ℤ_comm s u in
    omega (arith, ints)

-- the product of multiples
mult_times : (m n : ℕ) (y z : ℤ) → Multiple m y → Multiple n z → Multiple (m * n) (y *ℤ z)
mult_times m n y z h k = record {
  times = h.times *ℤ k.times;
  is = ap₂ (λ (a b : ℤ). a *ℤ b) h.is k.is ∙ (mul_assoc h.times (pos m) (k.times *ℤ pos n) ∙ (ap (λ (a : ℤ). h.times *ℤ a) (mul_swap (pos m) k.times (pos n)) ∙ sym (mul_assoc h.times k.times (pos m *ℤ pos n))));
}

-- the result of two members differs from the residues' result by a multiple of the modulus
pub apply_mult : (o : Op) (u v : ℤ) (x y : Congruence) → In u x → In v y → Multiple (modulus_of o x y) (apply o u v -ℤ apply o x.residue y.residue)
apply_mult Add u v x y h k =
    let g = gcd_is x.modulus y.modulus in let n = gcd x.modulus y.modulus in
    moved n ((u -ℤ x.residue) +ℤ (v -ℤ y.residue)) _ (omega (arith, ints)) (mult_add n _ _ (mult_trans n x.modulus _ g.left h) (mult_trans n y.modulus _ g.right k))
apply_mult Sub u v x y h k =
    let g = gcd_is x.modulus y.modulus in let n = gcd x.modulus y.modulus in
    moved n ((u -ℤ x.residue) -ℤ (v -ℤ y.residue)) _ (omega (arith, ints)) (mult_sub n _ _ (mult_trans n x.modulus _ g.left h) (mult_trans n y.modulus _ g.right k))
apply_mult Mul u v x y h k =
    let n = modulus_of Mul x y in
    let a = gcd_is (x.modulus * y.modulus) (gcd (unsigned_abs x.residue * y.modulus) (unsigned_abs y.residue * x.modulus)) in
    let b = gcd_is (unsigned_abs x.residue * y.modulus) (unsigned_abs y.residue * x.modulus) in
    let p = mult_trans n _ (pos (unsigned_abs x.residue * y.modulus)) a.right b.left in
    let q = mult_trans n _ (pos (unsigned_abs y.residue * x.modulus)) a.right b.right in
    moved n _ _ (crossed u v x.residue y.residue)
    (mult_add n _ _ (scaled n y.modulus x.residue (v -ℤ y.residue) p k)
    (mult_add n _ _ (scaled n x.modulus y.residue (u -ℤ x.residue) q h)
    (mult_trans n (x.modulus * y.modulus) _ a.left (mult_times x.modulus y.modulus _ _ h k))))

-- set: a result within the limits is a member of the result
pub results_in : (o : Op) (u v : ℤ) (x y : Congruence) → In u x → In v y → Lies (apply o u v) full → InSome (apply o u v) (results o x y)
results_in o u v x y h k l = settled_in (modulus_of o x y) (apply o x.residue y.residue) (apply o u v) l (apply_mult o u v x y h k)

rest_back : (m : ℕ) (r : ℤ) (b : Bool) → (m == 0) ≡ b → Multiple m (r -ℤ cond b r (remainder r m))
rest_back m r true e = record { times = pos 0; is = omega (arith, ints) }
rest_back m r false e = (mod_parts r m (omega (arith, eqb-false m 0 e))).whole

pub join_left : (v : ℤ) (x y : Congruence) → In v x → In v (joined x y)
join_left v x y h =
    let n = hull_modulus x y in
    let a = gcd_is (gcd x.modulus y.modulus) (unsigned_abs (x.residue -ℤ y.residue)) in
    let b = gcd_is x.modulus y.modulus in
    let p = mult_trans n x.modulus (v -ℤ x.residue) (mult_trans n _ (pos x.modulus) a.left b.left) h in
    moved n ((v -ℤ x.residue) +ℤ (x.residue -ℤ rest n x.residue)) (v -ℤ rest n x.residue) (between v x.residue (rest n x.residue)) (mult_add n _ _ p (rest_back n x.residue (n == 0) refl))
  where
    between : (v r s : ℤ) → (v -ℤ r) +ℤ (r -ℤ s) ≡ v -ℤ s
    between v r s = omega (arith, ints)

pub join_right : (v : ℤ) (x y : Congruence) → In v y → In v (joined x y)
join_right v x y h =
    let n = hull_modulus x y in
    let a = gcd_is (gcd x.modulus y.modulus) (unsigned_abs (x.residue -ℤ y.residue)) in
    let b = gcd_is x.modulus y.modulus in
    let p = mult_trans n y.modulus (v -ℤ y.residue) (mult_trans n _ (pos y.modulus) a.left b.right) h in
    let d = mult_of_abs n (x.residue -ℤ y.residue) a.right in
    moved n (((v -ℤ y.residue) -ℤ (x.residue -ℤ y.residue)) +ℤ (x.residue -ℤ rest n x.residue)) (v -ℤ rest n x.residue) (between v x.residue y.residue (rest n x.residue))
    (mult_add n _ _ (mult_sub n _ _ p d) (rest_back n x.residue (n == 0) refl))
  where
    between : (v r t s : ℤ) → ((v -ℤ t) -ℤ (r -ℤ t)) +ℤ (r -ℤ s) ≡ v -ℤ s
    between v r t s = omega (arith, ints)

pub inside_in : (v : ℤ) (x y : Congruence) → inside x y ≡ true → In v x → In v y
inside_in v x y h k =
    let p = and_parts (divides y.modulus x.modulus) (agrees y.modulus x.residue y.residue) h in
    let a = mult_trans y.modulus x.modulus (v -ℤ x.residue) (divides_yes y.modulus x.modulus p.0) k in
    let b = agrees_yes y.modulus x.residue y.residue p.1 in
    moved y.modulus ((v -ℤ x.residue) +ℤ (x.residue -ℤ y.residue)) _ (omega (arith, ints)) (mult_add y.modulus _ _ a b)
