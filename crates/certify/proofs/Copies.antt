-- Runs that are copied place by place.
use Rattle.std.proofs.Common.{◌≡◌, ℕ, zero, suc, ◌+◌, ◌<◌, List, [], ◌∷◌, ◌++◌, length, take, drop, set, Some, None, Option, refl, sym, ap, subst, ◌∙◌, add-one, arith}
use Rattle.std.proofs.lemmas.List.{append-nil, drop_all, length_push, take_all, take_more_set}
use Rattle.model.specs.declared.range.Range.{Range}
use Rattle.model.specs.declared.side.Side.{Side}
use Rattle.model.specs.Environments.{full}
use Rattle.model.specs.Sides.{side_at}
use Rattle.domain.specs.Lattice.{Lattice, Meaning}
use Rattle.sweep.specs.Sweeps.{hull_with, hulls_with}
use Rattle.certify.proofs.Walks.{Turn}

taken_to : (ss : List Side) (n : ℕ) (s : Side) → Some s ≡ side_at ss n → take (suc n) ss ≡ take n ss ++ (s ∷ [])
taken_to [] n s e = let z : ◌≡◌ {A = ℕ} 0 1 = cc in absurd (omega arith)
taken_to (x ∷ ss) zero s e = cc
taken_to (x ∷ ss) (suc n) s e = ap (λ (xs : List Side). x ∷ xs) (taken_to ss n s e)

-- the side of a number goes to the place of that number
pub copied_more : (ss places : List Side) (n : ℕ) (s : Side) → n < length places → Some s ≡ side_at ss n → take n places ≡ take n ss → take (n + 1) (set places n s) ≡ take (n + 1) ss
copied_more ss places n s h e same =
    take_more_set places n s h ∙ (ap (λ (xs : List Side). xs ++ (s ∷ [])) same ∙ sym (rw add-one (taken_to ss n s e)))

-- each number below their count has a side
pub numbered_side : (ss : List Side) (n : ℕ) → n < length ss → None ≡ side_at ss n → ⊥
numbered_side [] n h e = omega arith
numbered_side (x ∷ ss) zero h e = let z : ◌≡◌ {A = ℕ} 0 1 = cc in omega arith
numbered_side (x ∷ ss) (suc n) h e = numbered_side ss n (omega arith) e

append_one : {A : Type 0} (xs : List A) (y : A) (zs : List A) → (xs ++ (y ∷ [])) ++ zs ≡ xs ++ (y ∷ zs)
append_one [] y zs = refl
append_one (x ∷ xs) y zs = ap (λ (ws : List _). x ∷ ws) (append_one xs y zs)

module _ {S : Type 0} {M : Meaning S} (l : Lattice M) (s : S) (before hulls : List (Option Range)) where
  -- hulls are replaced from the first on
  hulled_more : (n : ℕ) (h : Option Range) → n < length hulls → Turn before n h →
      take (n + 1) (set hulls n (hull_with h (l.range s n full))) ++ hulls_with l (n + 1) s (drop (n + 1) before) ≡ take n hulls ++ hulls_with l n s (drop n before)
  hulled_more n h k turn =
      let y = hull_with h (l.range s n full) in
      let rest = drop (n + 1) before in
      ap (λ (xs : List (Option Range)). xs ++ hulls_with l (n + 1) s rest) (take_more_set hulls n y k)
      ∙ append_one (take n hulls) y (hulls_with l (n + 1) s rest)
      ∙ ap (λ (m : ℕ). take n hulls ++ (y ∷ hulls_with l m s rest)) (add-one n)
      ∙ ap (λ (xs : List (Option Range)). take n hulls ++ hulls_with l n s xs) (sym turn.left)

  -- a turn of the loop, at the item p behind ys
  pub hulled_turn : (ys : List (ℕ × Option Range)) (p : ℕ × Option Range) (h : Option Range) → (p.0 ≡ length ys) × Turn before (length ys) p.1 → length ys < length hulls →
      h ≡ hull_with p.1 (l.range s p.0 full) →
      take (length (ys ++ (p ∷ []))) (set hulls p.0 h) ++ hulls_with l (length (ys ++ (p ∷ []))) s (drop (length (ys ++ (p ∷ []))) before)
      ≡ take (length ys) hulls ++ hulls_with l (length ys) s (drop (length ys) before)
  hulled_turn ys p h t k e =
      let n = length ys in
      let P : ℕ → Type 0 = λ m. take m (set hulls p.0 h) ++ hulls_with l m s (drop m before) ≡ take n hulls ++ hulls_with l n s (drop n before) in
      let Q : ℕ → Type 0 = λ j. take (n + 1) (set hulls j (hull_with p.1 (l.range s j full))) ++ hulls_with l (n + 1) s (drop (n + 1) before) ≡ take n hulls ++ hulls_with l n s (drop n before) in
      let R : Option Range → Type 0 = λ y. take (n + 1) (set hulls p.0 y) ++ hulls_with l (n + 1) s (drop (n + 1) before) ≡ take n hulls ++ hulls_with l n s (drop n before) in
      subst P (sym (length_push ys p)) (subst R (sym e) (subst Q (sym t.0) (hulled_more n p.1 k t.1)))

  -- none is left
  pub hulled_all : (n : ℕ) → n ≡ length before → length hulls ≡ length before → take n hulls ++ hulls_with l n s (drop n before) ≡ hulls
  hulled_all n e f =
      let none : drop n before ≡ [] = drop_all n before (omega arith) in
      let all : take n hulls ≡ hulls = take_all n hulls (omega arith) in
      ap (λ (xs : List (Option Range)). take n hulls ++ hulls_with l n s xs) none ∙ append-nil (take n hulls) ∙ all
