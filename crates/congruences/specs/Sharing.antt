-- The common class has, within the limits, the members of both, and no others.
use Rattle.std.specs.Prelude.{◌≡◌, ℕ, ◌<◌, Bool, true, false, cond, ℤ, pos, negsuc, ◌+ℤ◌, ◌-ℤ◌, ◌*ℤ◌, neg_ℤ, Some, None, Option, ◌==◌, refl}
use Rattle.std.proofs.Common.{◌∙◌, ap, subst, sym, arith, eqb-true}
use Rattle.std.proofs.Math.IntN.{*ℤ_comm}
use Rattle.std.proofs.lemmas.Bool.{both_ways}
use Rattle.std.proofs.lemmas.Int.{ints}
use Rattle.model.specs.Environments.{Lies, full}
use Rattle.divisibility.specs.Gcds.{lcm}
use Rattle.divisibility.specs.Leasts.{least}
use Rattle.divisibility.specs.Multiples.{Multiple, agrees, remainder}
use Rattle.divisibility.proofs.Divides.{agrees_from, agrees_yes}
use Rattle.divisibility.proofs.Lcms.{lcm_is, lcm_left, lcm_right}
use Rattle.divisibility.proofs.Leasts.{Says, least_says}
use Rattle.divisibility.proofs.Multiples.{Parted, mod_parts, moved, mult_add, mult_scale, mult_self, mult_sub, mult_trans}
use Rattle.divisibility.proofs.Ring.{add_mul, neg_mul}
use Rattle.congruences.specs.Commons.{Shared, common, hits, lone, met, shifted}
use Rattle.congruences.specs.Members.{In, InSome}
use Rattle.congruences.specs.declared.congruence.Congruence.{Congruence}
use Rattle.congruences.specs.Settles.{positive, settled_in, settled_out, zero_same}

-- one member more
seen : (x y : Congruence) (t : ℕ) → hits x y t ≡ true → Multiple y.modulus (shifted x t -ℤ y.residue)
seen x y t h = agrees_yes y.modulus (shifted x t) y.residue h

met_out : (x y : Congruence) (v : ℤ) (o : Option ℕ) → 0 < y.modulus → Says y.modulus (hits x y) o → InSome v (met x y o) → In v x × In v y
met_out x y v None p s h = elim h [ ]
met_out x y v (Some t) p s h =
    let k = settled_out (lcm x.modulus y.modulus) (shifted x t) v h in
    let a = mult_trans x.modulus _ _ (lcm_left x.modulus y.modulus) k in
    let b = mult_trans y.modulus _ _ (lcm_right x.modulus y.modulus p) k in
    let c = mult_scale x.modulus (pos t) (pos x.modulus) (mult_self x.modulus) in (
      moved x.modulus _ _ (left v x.residue (pos t *ℤ pos x.modulus)) (mult_add x.modulus _ _ a c),
      moved y.modulus _ _ (right v (shifted x t) y.residue) (mult_add y.modulus _ _ b (seen x y t s.passes)),
    )
  where
    left : (v r z : ℤ) → (v -ℤ (r +ℤ z)) +ℤ z ≡ v -ℤ r
    left v r z = omega (arith, ints)

    right : (v w s : ℤ) → (v -ℤ w) +ℤ (w -ℤ s) ≡ v -ℤ s
    right v w s = omega (arith, ints)

-- a common member is some number of moduli below y's modulus above x's residue, but for multiples of it
record Near (x y : Congruence) : Type 0 where
  place : ℕ
  below : place < y.modulus
  hit : hits x y place ≡ true

near : (x y : Congruence) (v : ℤ) → 0 < y.modulus → In v x → In v y → Near x y
near x y v p h k = by (remainder h.times y.modulus) (mod_parts h.times y.modulus p)
  where
    at : (r j t m v s jm tm d : ℤ) → v -ℤ r ≡ jm → d ≡ jm +ℤ neg_ℤ tm → (v -ℤ s) -ℤ d ≡ (r +ℤ tm) -ℤ s
    at r j t m v s jm tm d e f = omega (arith, ints)

    by : (t : ℤ) → Parted h.times y.modulus t → Near x y
    by (pos t) q =
        let w = mult_scale y.modulus (pos x.modulus) (h.times -ℤ pos t) q.whole in
        let c = *ℤ_comm (pos x.modulus) (h.times -ℤ pos t) in
        let f = add_mul h.times (neg_ℤ (pos t)) (pos x.modulus) in
        let g = neg_mul (pos t) (pos x.modulus) in
        let e = h.is in
        record {
          place = t;
          below = let l = q.high in omega (arith, ints);
          hit = agrees_from y.modulus (shifted x t) y.residue
              (moved y.modulus ((v -ℤ y.residue) -ℤ (pos x.modulus *ℤ (h.times -ℤ pos t))) (shifted x t -ℤ y.residue)
              (at x.residue h.times (pos t) (pos x.modulus) v y.residue (h.times *ℤ pos x.modulus) (pos t *ℤ pos x.modulus) (pos x.modulus *ℤ (h.times -ℤ pos t)) e (c ∙ (f ∙ ap (λ (z : ℤ). (h.times *ℤ pos x.modulus) +ℤ z) g)))
              (mult_sub y.modulus _ _ k w));
        }
    by (negsuc t) q = let l = q.low in absurd (omega (arith, ints))

met_in : (x y : Congruence) (v : ℤ) (o : Option ℕ) → 0 < y.modulus → Says y.modulus (hits x y) o → Lies v full → In v x → In v y → InSome v (met x y o)
met_in x y v None p s l h k = let n = near x y v p h k in both_ways (hits x y n.place) (s n.place n.below) n.hit
met_in x y v (Some t) p s l h k =
    let c = mult_scale x.modulus (pos t) (pos x.modulus) (mult_self x.modulus) in
    let a = moved x.modulus _ (v -ℤ shifted x t) (left x.residue (pos t *ℤ pos x.modulus)) (mult_sub x.modulus _ _ h c) in
    let b = moved y.modulus _ (v -ℤ shifted x t) (right (shifted x t) y.residue) (mult_sub y.modulus _ _ k (seen x y t s.passes)) in
    settled_in (lcm x.modulus y.modulus) (shifted x t) v l ((lcm_is x.modulus y.modulus p).least (v -ℤ shifted x t) a b)
  where
    left : (r z : ℤ) → (v -ℤ r) -ℤ z ≡ v -ℤ (r +ℤ z)
    left r z = omega (arith, ints)

    right : (w r : ℤ) → (v -ℤ r) -ℤ (w -ℤ r) ≡ v -ℤ w
    right w r = omega (arith, ints)

-- a single number
lone_out : (x y : Congruence) (v : ℤ) (b : Bool) → agrees y.modulus x.residue y.residue ≡ b → x.modulus ≡ 0 → InSome v (cond b (Some x) None) → In v x × In v y
lone_out x y v true e z h =
    let s = zero_same v x.residue (subst (λ (n : ℕ). Multiple n (v -ℤ x.residue)) z h) in
    (h, moved y.modulus (x.residue -ℤ y.residue) (v -ℤ y.residue) (ap (λ (w : ℤ). w -ℤ y.residue) (sym s)) (agrees_yes y.modulus x.residue y.residue e))
lone_out x y v false e z h = elim h [ ]

lone_in : (x y : Congruence) (v : ℤ) (b : Bool) → agrees y.modulus x.residue y.residue ≡ b → x.modulus ≡ 0 → In v x → In v y → InSome v (cond b (Some x) None)
lone_in x y v true e z h k = h
lone_in x y v false e z h k =
    let s = zero_same v x.residue (subst (λ (n : ℕ). Multiple n (v -ℤ x.residue)) z h) in
    both_ways (agrees y.modulus x.residue y.residue) e (agrees_from y.modulus x.residue y.residue (moved y.modulus (v -ℤ y.residue) (x.residue -ℤ y.residue) (ap (λ (w : ℤ). w -ℤ y.residue) s) k))

in_by : (x y : Congruence) (v : ℤ) (b d : Bool) → (x.modulus == 0) ≡ b → (y.modulus == 0) ≡ d → Lies v full → In v x → In v y → InSome v (cond b (lone x y) (cond d (lone y x) (met x y (least y.modulus (hits x y)))))
in_by x y v true d p q l h k = lone_in x y v (agrees y.modulus x.residue y.residue) refl (eqb-true x.modulus 0 p) h k
in_by x y v false true p q l h k = lone_in y x v (agrees x.modulus y.residue x.residue) refl (eqb-true y.modulus 0 q) k h
in_by x y v false false p q l h k = met_in x y v (least y.modulus (hits x y)) (positive y.modulus q) (least_says y.modulus (hits x y)) l h k

common_in : (v : ℤ) (x y : Congruence) → Lies v full → In v x → In v y → InSome v (common x y)
common_in v x y l h k = in_by x y v (x.modulus == 0) (y.modulus == 0) refl refl l h k

out_by : (x y : Congruence) (v : ℤ) (b d : Bool) → (x.modulus == 0) ≡ b → (y.modulus == 0) ≡ d → InSome v (cond b (lone x y) (cond d (lone y x) (met x y (least y.modulus (hits x y))))) → In v x × In v y
out_by x y v true d p q h = lone_out x y v (agrees y.modulus x.residue y.residue) refl (eqb-true x.modulus 0 p) h
out_by x y v false true p q h = let r = lone_out y x v (agrees x.modulus y.residue x.residue) refl (eqb-true y.modulus 0 q) h in (r.1, r.0)
out_by x y v false false p q h = met_out x y v (least y.modulus (hits x y)) (positive y.modulus q) (least_says y.modulus (hits x y)) h

common_out : (v : ℤ) (x y : Congruence) → InSome v (common x y) → In v x × In v y
common_out v x y h = out_by x y v (x.modulus == 0) (y.modulus == 0) refl refl h

pub common_shared : (x y : Congruence) → Shared x y (common x y)
common_shared x y = record { all = λ v l h k. common_in v x y l h k; only = λ v h. common_out v x y h }

-- so it is of what is the common congruence
pub shared_of : (x y : Congruence) (o : Option Congruence) → o ≡ common x y → Shared x y o
shared_of x y o e = subst (Shared x y) (sym e) (common_shared x y)
