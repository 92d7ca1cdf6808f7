-- A product follows an environment as its first side does, whatever its second side.
use Rattle.std.specs.Prelude.{◌≡◌, ℕ, zero, suc, ◌<◌, ◌≤◌, Bool, true, false, ◌||◌, ◌⊎◌, ℤ, ◌≤ℤ◌, Some, None, Option, ◌≢◌, refl}
use Rattle.std.proofs.Common.{ap, sym, ◌∙◌, subst, inl, inr, arith}
use Rattle.std.proofs.lemmas.Int.{ints}
use Rattle.std.proofs.lemmas.Bool.{or_left}
use Rattle.model.specs.declared.range.Range.{Range}
use Rattle.model.specs.Environments.{Env, LegalOf, Lies, at, full}
use Rattle.domain.specs.declared.product.Product.{Product}
use Rattle.domain.specs.Lattice.{Lattice, Meaning, Lawful, Inside, empty, single}
use Rattle.domain.specs.Tracking.{Sharpens, begin, cut, pin, Tracking}
use Rattle.domain.specs.Pairs.{pair, PairTracks, reduce, reduce_at, outcome}
use Rattle.domain.specs.Environments.{legal_after}
use Rattle.model.proofs.Numbers.{le_true}
use Rattle.domain.specs.PairLaws.{inside_empty, outcome_holds}

same_number : (m n : ℤ) → m ≤ℤ n → n ≤ℤ m → m ≡ n
same_number m n h k = omega (arith, ints)

pub lies_single : (n : ℤ) → Lies n (single n)
lies_single n = record { low = omega (arith, ints); high = omega (arith, ints) }

not_empty : (n : ℤ) (x : Range) → Lies n x → x ≢ empty
not_empty n x h e =
    let k : Lies n empty = subst (λ (y : Range). Lies n y) e h in
    let a = k.low in let b = k.high in omega (arith, ints)

-- a range inside n..n that has n is n..n
only_single : (n : ℤ) (x : Range) → Inside x (single n) ⊎ (x ≡ empty) → Lies n x → x ≡ single n
only_single n x (inl h) k = λ i. record { lo = same_number x.lo n k.low h.low i; hi = same_number x.hi n h.high k.high i }
only_single n x (inr e) k = absurd (not_empty n x k e)

only_empty : (x y : Range) → Inside x y ⊎ (x ≡ empty) → y ≡ empty → x ≡ empty
only_empty x y (inl h) e = absurd (inside_empty x y h e)
only_empty x y (inr h) e = h

-- a test or another that only holds where the first does
or_same : (x y t : Bool) → x ≡ t → (y ≡ true → t ≡ true) → (x || y) ≡ t
or_same true y t e h = e
or_same false true t e h = sym (h refl)
or_same false false t e h = e

-- what is sharpened to an environment means it
pub sharp_means : (n : ℕ) {S : Type 0} {M : Meaning S} {l : Lattice M} {e : Env} {k : ℕ} {s : S} → Lawful n l → LegalOf n e → Sharpens n l e k s → M s e
sharp_means n p w begin = p.any_all _ w
sharp_means n p w (cut r x i h d) = p.narrow_holds _ r x _ i w (sharp_means n p w d) h
sharp_means n p w (pin {k = k} i d) = p.narrow_holds _ k _ _ i w (sharp_means n p w d) (lies_single _)

module _ (n : ℕ) {A B : Type 0} {M : Meaning A} {N : Meaning B} (a : Lattice M) (b : Lattice N) (p : Lawful n a) (q : Lawful n b) where
  reduce_sharp : (j k : ℕ) (s : Product A B) (e : Env) → j ≤ n → LegalOf n e → Sharpens n a e k s.first → N s.second e →
      Sharpens n a e k (reduce a b j s).first × N (reduce a b j s).second e
  unfolding reduce reduce_at
  reduce_sharp zero k s e i w h m = (h, m)
  reduce_sharp (suc j) k s e i w h m =
      let r = reduce_sharp j k s e (omega arith) w h m in
      let o = outcome_holds n a b p q j (reduce a b j s) e (omega arith) w (sharp_means n p w r.0) r.1 in
      (cut j _ (omega arith) o r.0, q.narrow_holds _ j _ e (omega arith) w r.1 o)

  pair_sharp : {e : Env} {k : ℕ} {s : Product A B} → LegalOf n e → Sharpens n (pair a b n) e k s → Sharpens n a e k s.first × N s.second e
  pair_sharp w begin = (begin, q.any_all _ w)
  pair_sharp {e = e} w (cut {k = k} r x i h d) =
      let m = pair_sharp w d in
      reduce_sharp n k _ e (omega arith) w (cut r x i h m.0) (q.narrow_holds _ r x e i w m.1 h)
  pair_sharp {e = e} w (pin {k = k} i d) =
      let m = pair_sharp w d in
      reduce_sharp n (suc k) _ e (omega arith) w (pin i m.0) (q.narrow_holds _ k _ e i w m.1 (lies_single _))

  module _ (tracks : A → Option Env → Type 0) (t : Tracking n a tracks) where
    range_lies : (s : A) (r : ℕ) (x : Range) (e : Env) → r < n → LegalOf n e → tracks s (Some e) → Lies (at e r) x → Lies (at e r) (a.range s r x)
    range_lies s r x e i w h k = subst (λ (y : Range). Lies (at e r) y) (sym (t.range_value s r x e i w h k)) (lies_single (at e r))

    outcome_lies : (r : ℕ) (s : Product A B) (e : Env) → r < n → LegalOf n e → tracks s.first (Some e) → N s.second e → Lies (at e r) (outcome a b r s)
    outcome_lies r s e i w h m =
        range_lies s.first r _ e i w h (q.range_holds s.second r _ e i w m (range_lies s.first r full e i w h (w.fits r)))

    reduce_value : (k : ℕ) (s : Product A B) (e : Env) → k ≤ n → LegalOf n e → tracks s.first (Some e) → N s.second e →
        tracks (reduce a b k s).first (Some e) × N (reduce a b k s).second e
    unfolding reduce reduce_at
    reduce_value zero s e i w h m = (h, m)
    reduce_value (suc k) s e i w h m =
        let r = reduce_value k s e (omega arith) w h m in
        let o = outcome_lies k (reduce a b k s) e (omega arith) w r.0 r.1 in
        (t.narrow_value _ k _ e (omega arith) w r.0 o, q.narrow_holds _ k _ e (omega arith) w r.1 o)

    reduce_none : (k : ℕ) (s : Product A B) → k ≤ n → tracks s.first None → tracks (reduce a b k s).first None
    unfolding reduce reduce_at
    reduce_none zero s i h = h
    reduce_none (suc k) s i h = t.narrow_none _ k _ (omega arith) (reduce_none k s (omega arith) h)

    pair_range : (s : Product A B) (r : ℕ) (x : Range) (e : Env) → r < n → LegalOf n e → tracks s.first (Some e) → N s.second e → Lies (at e r) x →
        b.range s.second r (a.range s.first r x) ≡ single (at e r)
    pair_range s r x e i w h m k =
        ap (b.range s.second r) (t.range_value s.first r x e i w h k) ∙
        only_single (at e r) _ (q.range_inside s.second r (single (at e r)) i) (q.range_holds s.second r (single (at e r)) e i w m (lies_single (at e r)))

    pub pair_tracking : Tracking n (pair a b n) (PairTracks a b tracks)
    pair_tracking = record {
      start = λ s e w h. let m = pair_sharp w h in (t.start s.first e w m.0, m.1);
      narrow_value = λ s r x e i w h k. reduce_value n _ e (omega arith) w (t.narrow_value _ r x e i w h.0 k) (q.narrow_holds _ r x e i w h.1 k);
      narrow_none = λ s r x i h. reduce_none n _ (omega arith) (t.narrow_none _ r x i h);
      set_value = λ s r x e i v w h k. reduce_value n _ _ (omega arith) (legal_after n e r x w i k) (t.set_value _ r x e i v w h.0 k) (q.set_holds _ r x e i v w h.1 k);
      set_none = λ s r x i h. reduce_none n _ (omega arith) (t.set_none _ r x i h);
      keep_holds = λ s c e v w h k. reduce_value n _ e (omega arith) w (t.keep_holds _ c e v w h.0 k) (q.keep_holds _ c e v w h.1 k);
      keep_fails = λ s c e v w h k. reduce_none n _ (omega arith) (t.keep_fails _ c e v w h.0 k);
      keep_none = λ s c h. reduce_none n _ (omega arith) (t.keep_none _ c h);
      join_left = λ s u e w h k. (t.join_left _ _ e w h.0 k, q.join_left _ _ e w h.1);
      join_right = λ s u e w h k. (t.join_right _ _ e w h k.0, q.join_right _ _ e w k.1);
      join_none = λ s u h k. t.join_none _ _ h k;
      sure_value = λ s x e v w h. or_same _ _ _ (t.sure_value _ x e v w h.0) (λ y. q.sure_holds _ x e v w y h.1);
      sure_none = λ s x h. or_left _ _ (t.sure_none _ x h);
      shows_value = λ s d e f w h. or_same _ _ _ (t.shows_value _ d e f w h.0) (λ y. le_true _ _ (q.shows_holds _ d e f w y h.1));
      shows_none = λ s d h. or_left _ _ (t.shows_none _ d h);
      range_value = λ s r x e i w h k. pair_range s r x e i w h.0 h.1 k;
      range_none = λ s r x i h. only_empty _ _ (q.range_inside s.second r _ i) (t.range_none s.first r x i h);
    }
