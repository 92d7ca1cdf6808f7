-- Congruences keep the laws of sets of numbers.
use Rattle.std.specs.Prelude.{◌≡◌, ◌<◌, ◌≤◌, true, ◌&&◌, ℤ, pos, ◌+ℤ◌, neg_ℤ, ◌≤ℤ◌, Some, None, Option, int_le, refl}
use Rattle.std.proofs.Common.{ap, ap₂, subst, sym, arith}
use Rattle.std.proofs.lemmas.Int.{ints}
use Rattle.std.proofs.lemmas.Bool.{and_parts}
use Rattle.model.specs.Environments.{Lies, fit, full}
use Rattle.model.specs.Sides.{scaled, signed}
use Rattle.model.specs.Values.{apply}
use Rattle.model.specs.declared.expression.Op.{Op}
use Rattle.model.specs.declared.side.Factor.{Factor}
use Rattle.model.specs.declared.side.Factor.TheVariants.{Minus, Plus, Zero}
use Rattle.model.specs.declared.side.Sign.{Sign}
use Rattle.model.proofs.Numbers.{lies_in, true_le}
use Rattle.number_sets.specs.Sets.{HasSome, LawfulSets}
use Rattle.congruences.specs.Bounds.{bounded_by, settles}
use Rattle.congruences.specs.Commons.{common}
use Rattle.congruences.specs.Members.{In, InSome}
use Rattle.congruences.specs.Numbers.{congruences}
use Rattle.congruences.specs.Ranges.{narrowed}
use Rattle.congruences.specs.Results.{fits, results}
use Rattle.congruences.specs.Room.{room}
use Rattle.congruences.specs.Singles.{alone, single, whole}
use Rattle.congruences.specs.declared.congruence.Congruence.{Congruence}
use Rattle.congruences.specs.Holds.{inside_in, join_left, join_right, results_in}
use Rattle.congruences.specs.Joining.{hull_is}
use Rattle.congruences.specs.Keeps.{kept_in, member_is}
use Rattle.congruences.specs.Narrows.{narrowed_in, ranged_in, ranged_inside}
use Rattle.congruences.specs.Rooms.{room_le, room_lt, room_top}
use Rattle.congruences.specs.Sharing.{common_shared}
use Rattle.congruences.specs.SinglesLemmas.{single_is}

to_has : (o : Option Congruence) (v : ℤ) → InSome v o → HasSome congruences o v
to_has None v h = h
to_has (Some c) v h = h

whole_in : (v : ℤ) → In v whole
whole_in v = record { times = v; is = omega (arith, ints) }

single_in : (v : ℤ) → Lies v full → In v (single v)
single_in v l = subst (In v) (sym (single_is v l)) (record { times = pos 0; is = omega (arith, ints) })

-- a single number is the only member
lone_is : (v : ℤ) (x : Congruence) → alone x ≡ true → In v x → v ≡ x.residue
lone_is v x e h = member_is v x e h

fits_in : (o : Op) (x y : Congruence) (u v : ℤ) → fits o x y ≡ true → In u x → In v y → Lies (apply o u v) full
fits_in o x y u v e h k =
    let p = and_parts (alone x) (alone y && fit (apply o x.residue y.residue)) e in
    let q = and_parts (alone y) (fit (apply o x.residue y.residue)) p.1 in
    let s = ap₂ (apply o) (member_is u x p.0 h) (member_is v y q.0 k) in
    subst (λ (w : ℤ). Lies w full) (sym s) (lies_in (apply o x.residue y.residue) full q.1)

-- a factor times a member is known
settles_is : (f : Factor) (y : Congruence) (v : ℤ) → settles f y ≡ true → In v y → scaled f v ≡ scaled f y.residue
settles_is Plus y v e h = member_is v y e h
settles_is Zero y v e h = refl
settles_is Minus y v e h = ap neg_ℤ (member_is v y e h)

bounds_in : (s : Sign) (x : Congruence) (f : Factor) (y : Congruence) (c u v : ℤ) → bounded_by s x f y c ≡ true → In u x → In v y → (signed s u +ℤ scaled f v) ≤ℤ c
bounds_in s x f y c u v e h k =
    let p = and_parts (alone x) (settles f y && int_le (signed s x.residue +ℤ scaled f y.residue) c) e in
    let q = and_parts (settles f y) (int_le (signed s x.residue +ℤ scaled f y.residue) c) p.1 in
    let w = ap₂ (λ (a b : ℤ). a +ℤ b) (ap (signed s) (member_is u x p.0 h)) (settles_is f y v q.0 k) in
    subst (λ (z : ℤ). z ≤ℤ c) (sym w) (true_le _ _ q.1)

pub lawful : LawfulSets congruences
lawful = record {
  whole_has = λ n l. whole_in n;
  single_has = single_in;
  apply_has = λ o x y m n k l g h f. to_has (results o x y) (apply o m n) (results_in o m n x y g h f);
  kept_has = λ r x y m n k l g h e. kept_in r m n x y k e g h;
  meet_has = λ x y n l g h. to_has (common x y) n ((common_shared x y).all n l g h);
  narrow_has = λ x z n l h k. to_has (narrowed x z) n (narrowed_in x z n l h k);
  hull_left = λ x y n l h. subst (In n) (sym (hull_is x y)) (join_left n x y h);
  hull_right = λ x y n l h. subst (In n) (sym (hull_is x y)) (join_right n x y h);
  widen_left = λ x y n l h. subst (In n) (sym (hull_is x y)) (join_left n x y h);
  widen_right = λ x y n l h. subst (In n) (sym (hull_is x y)) (join_right n x y h);
  inside_has = λ x y n l e h. inside_in n x y e h;
  fits_all = λ o x y m n k l e g h. fits_in o x y m n e g h;
  bounds_all = λ s x f y c m n k l e g h. bounds_in s x f y c m n e g h;
  range_inside = ranged_inside;
  range_has = λ x z n l h k. ranged_in x z n l h k;
  room_most = room_top;
  room_le = λ x y. subst (λ (z : Congruence). room z ≤ room x) (sym (hull_is x y)) (room_le x y);
  room_lt = λ x y e. subst (λ (z : Congruence). room z < room x) (sym (hull_is x y)) (room_lt x y e);
}
