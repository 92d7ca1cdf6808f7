-- A product's laws from its sides' alone, over any number n of registers.
use Rattle.std.specs.Prelude.{◌≡◌, ℕ, zero, suc, ◌+◌, ◌%◌, ◌^◌, ◌<◌, ◌≤◌, false, ◌&&◌, ◌⊎◌, ◌≢◌}
use Rattle.std.proofs.Common.{ap₂, ◌∙◌, subst, inl, inr, arith}
use Rattle.std.proofs.Math.Nat.{mod-add-mod, add-mod-mod}
use Rattle.std.proofs.lemmas.Int.{ints}
use Rattle.std.proofs.lemmas.Bool.{and_parts, and_cases, or_cases}
use Rattle.model.specs.declared.range.Range.{Range}
use Rattle.model.specs.Environments.{Env, LegalOf, Lies, at, full}
use Rattle.domain.specs.declared.product.Product.{Product}
use Rattle.domain.specs.Lattice.{Lattice, Meaning, Lawful, Inside, empty}
use Rattle.domain.specs.Pairs.{pair, reduce, reduce_at, outcome}
use Rattle.domain.specs.Environments.{legal_after}

pub inside_empty : (x y : Range) → Inside x y → y ≢ empty
inside_empty x y h e =
    let k : Inside x empty = subst (λ (z : Range). Inside x z) e h in
    let p = k.low in let q = k.ordered in let r = k.high in omega (arith, ints)

inside_twice : (x y z : Range) → Inside x y → Inside y z → Inside x z
inside_twice x y z h k =
    let p = h.low in let q = h.high in let r = k.low in let s = k.high in
    record { low = omega (arith, ints); ordered = h.ordered; high = omega (arith, ints) }

ranges_inside : (x y z : Range) → Inside x y ⊎ (x ≡ empty) → Inside y z ⊎ (y ≡ empty) → Inside x z ⊎ (x ≡ empty)
ranges_inside x y z (inl h) (inl k) = inl (inside_twice x y z h k)
ranges_inside x y z (inl h) (inr e) = absurd (inside_empty x y h e)
ranges_inside x y z (inr e) k = inr e

module _ (n : ℕ) {A B : Type 0} {M : Meaning A} {N : Meaning B} (a : Lattice M) (b : Lattice N) (p : Lawful n a) (q : Lawful n b) where
  pub outcome_holds : (r : ℕ) (s : Product A B) (e : Env) → r < n → LegalOf n e → M s.first e → N s.second e → Lies (at e r) (outcome a b r s)
  outcome_holds r s e i w h k =
      p.range_holds s.first r _ e i w h (q.range_holds s.second r _ e i w k (p.range_holds s.first r full e i w h (w.fits r)))

  -- an environment that both sides mean stays in both
  pub reduce_holds : (k : ℕ) (s : Product A B) (e : Env) → k ≤ n → LegalOf n e → M s.first e → N s.second e →
      M (reduce a b k s).first e × N (reduce a b k s).second e
  unfolding reduce reduce_at
  reduce_holds zero s e i w h m = (h, m)
  reduce_holds (suc k) s e i w h m =
      let d = reduce_holds k s e (omega arith) w h m in
      let o = outcome_holds k (reduce a b k s) e (omega arith) w d.0 d.1 in
      (p.narrow_holds _ k _ e (omega arith) w d.0 o, q.narrow_holds _ k _ e (omega arith) w d.1 o)

  widen_falls : (s t : Product A B) → (a.within t.first s.first && b.within t.second s.second) ≡ false →
      a.rank (a.widen s.first t.first) + b.rank (b.widen s.second t.second) < a.rank s.first + b.rank s.second
  widen_falls s t h =
      let f = p.widen_le s.first t.first in
      let g = q.widen_le s.second t.second in
      elim (and_cases _ _ h) [ inl x ↦ let l = p.widen_lt s.first t.first x in omega arith | inr y ↦ let l = q.widen_lt s.second t.second y in omega arith ]

  pub pair_lawful : Lawful n (pair a b n)
  pair_lawful = record {
    any_all = λ e w. (p.any_all e w, q.any_all e w);
    none_empty = λ e w h. p.none_empty e w h.0;
    narrow_holds = λ s r x e i w h k. reduce_holds n _ e (omega arith) w (p.narrow_holds _ r x e i w h.0 k) (q.narrow_holds _ r x e i w h.1 k);
    keep_holds = λ s c e v w h k. reduce_holds n _ e (omega arith) w (p.keep_holds _ c e v w h.0 k) (q.keep_holds _ c e v w h.1 k);
    set_holds = λ s r x e i v w h k. reduce_holds n _ _ (omega arith) (legal_after n e r x w i k) (p.set_holds _ r x e i v w h.0 k) (q.set_holds _ r x e i v w h.1 k);
    join_left = λ s t e w h. (p.join_left _ _ e w h.0, q.join_left _ _ e w h.1);
    join_right = λ s t e w h. (p.join_right _ _ e w h.0, q.join_right _ _ e w h.1);
    widen_left = λ s t e w h. (p.widen_left _ _ e w h.0, q.widen_left _ _ e w h.1);
    widen_right = λ s t e w h. (p.widen_right _ _ e w h.0, q.widen_right _ _ e w h.1);
    within_holds = λ s t e w y h. let z = and_parts _ _ y in (p.within_holds _ _ e w z.0 h.0, q.within_holds _ _ e w z.1 h.1);
    sure_holds = λ s x e v w y h. elim (or_cases _ _ y) [ inl k ↦ p.sure_holds _ x e v w k h.0 | inr k ↦ q.sure_holds _ x e v w k h.1 ];
    shows_holds = λ s d e f w y h. elim (or_cases _ _ y) [ inl k ↦ p.shows_holds _ d e f w k h.0 | inr k ↦ q.shows_holds _ d e f w k h.1 ];
    range_inside = λ s r x i. ranges_inside _ _ x (q.range_inside s.second r _ i) (p.range_inside s.first r x i);
    range_holds = λ s r x e i w h k. q.range_holds _ r _ e i w h.1 (p.range_holds _ r x e i w h.0 k);
    widen_le = λ s t. let f = p.widen_le s.first t.first in let g = q.widen_le s.second t.second in omega arith;
    widen_lt = widen_falls;
  }

-- the wrapping sum of the sides' ranks of none is the product's
pub pair_ranked : (n : ℕ) {A B : Type 0} {M : Meaning A} {N : Meaning B} (a : Lattice M) (b : Lattice N) (x y : ℕ) → x ≡ a.rank a.none % 2 ^ 64 → y ≡ b.rank b.none % 2 ^ 64 →
    (x + y) % 2 ^ 64 ≡ (pair a b n).rank (pair a b n).none % 2 ^ 64
pair_ranked n a b x y h k =
    ap₂ (λ (i j : ℕ). (i + j) % 2 ^ 64) h k ∙ (mod-add-mod (a.rank a.none) (2 ^ 64) (b.rank b.none % 2 ^ 64) ∙ add-mod-mod (a.rank a.none) (b.rank b.none) (2 ^ 64))
