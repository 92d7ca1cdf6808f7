-- What tables hold, entry by entry, and one register written.
use Rattle.std.proofs.Common.{zero, suc, subst, ◌≡◌, ℕ, ◌<◌, Bool, true, false, cond, eqb, ◌≢◌, List, length, get_or, set, sym, refl, ap, ◌∙◌, arith, length-set, get_or-set_other, get_or-set_same}
use Rattle.std.proofs.lemmas.List.{same_lists, get_or_default}
use Rattle.std.proofs.lemmas.Bool.{eqb-true, eqb-false, and_from}
use Rattle.std.proofs.lemmas.Slice.Zip.{length-zip, get_or-zip}
use Rattle.std.specs.Bool.{MatchBool}
use Rattle.std.specs.List.{zip, AllWithin, HoldsAt}
use Rattle.number_sets.specs.Sets.{NumberSets}
use Rattle.pointwise.specs.States.{of, changed}
use Rattle.pointwise.specs.Tables.{build, every}
use Rattle.pointwise.specs.Built.{length_build, at_build, every_not}

-- a table of n entries that a function gives
pub build_same : {A : Type 0} (f : ℕ → A) (xs : List A) (n : ℕ) → length xs ≡ n → ((k : ℕ) (d : A) → k < n → get_or xs k d ≡ f k) → xs ≡ build n f
build_same f xs n l h =
    let b = length_build n f in
    same_lists xs (build n f) (l ∙ sym b) (λ k d q. let i : k < n = omega arith in h k d i ∙ sym (at_build n f k d i))

pub every_all : (n : ℕ) (p : ℕ → Bool) → ((k : ℕ) → k < n → p k ≡ true) → every n p ≡ true
unfolding every
every_all zero p h = refl
every_all (suc n) p h = and_from _ _ (every_all n p (λ k i. h k (omega arith))) (h n (omega arith))

-- a test of the pairs of two tables of n entries
pub every_pair : {V : Type 0} (test : V → V → Bool) (xs ys : List V) (n : ℕ) (d : V) (r : Bool) → length xs ≡ n → length ys ≡ n →
    MatchBool r (AllWithin (λ q. test q.0 q.1 ≡ true) (zip xs ys) 0 (length (zip xs ys))) ((k : ℕ) × (k < length (zip xs ys)) × HoldsAt (λ q. test q.0 q.1 ≡ false) (zip xs ys) k) →
    r ≡ every n (λ k. test (get_or xs k d) (get_or ys k d))
every_pair test xs ys n d true l m h =
    let z = length-zip xs ys in
    sym (every_all n _ (λ k i. let e = get_or-zip xs ys k (d, d) (omega arith) (omega arith) in subst (λ q. test q.0 q.1 ≡ true) e (h k (d, d) (omega arith) (omega arith))))
every_pair test xs ys n d false l m h =
    let z = length-zip xs ys in
    let i : h.0 < n = omega (arith, h.1) in
    let e = get_or-zip xs ys h.0 (d, d) (omega arith) (omega arith) in
    sym (every_not _ n h.0 i (subst (λ q. test q.0 q.1 ≡ false) e (h.2 (d, d))))

module _ {V : Type 0} (a : NumberSets V) where
  written_at : (xs : List V) (r k : ℕ) (x d : V) (b : Bool) → eqb k r ≡ b → r < length xs → k < length xs → get_or (set xs r x) k d ≡ cond b x (of a xs k)
  written_at xs r k x d true e h l = ap (λ (j : ℕ). get_or (set xs r x) j d) (eqb-true k r e) ∙ get_or-set_same xs r x d h
  written_at xs r k x d false e h l = let ne : k ≢ r = eqb-false k r e in get_or-set_other xs r k x d ne ∙ get_or_default xs k d a.whole l

  -- a table with one entry written is the table that `changed` builds
  pub set_changed : (n : ℕ) (xs : List V) (r : ℕ) (x : V) → length xs ≡ n → r < n → set xs r x ≡ changed a n xs r x
  set_changed n xs r x l h =
      let s = length-set xs r x in
      build_same (λ k. cond (eqb k r) x (of a xs k)) (set xs r x) n (s ∙ l) (λ k d i. written_at xs r k x d (eqb k r) refl (omega arith) (omega arith))
