-- What built tables hold, tests over all registers, and sums.
use Rattle.std.specs.Prelude.{◌≡◌, ℕ, zero, suc, ◌*◌, ◌<◌, ◌≤◌, Bool, true, false, ◌⊎◌, [], ◌∷◌, length, slice_index_or, refl}
use Rattle.std.proofs.Common.{ap, sym, ◌∙◌, subst, inl, inr, arith, length-append}
use Rattle.std.proofs.Math.Decide.{dec_lt}
use Rattle.std.proofs.lemmas.List.{get_or_push, get_or_append_left}
use Rattle.std.proofs.lemmas.Bool.{and_parts, and_cases, and_left, and_right}
use Rattle.pointwise.specs.Tables.{build, every, sum_to}

pub last_or : (i n : ℕ) → i < suc n → (i < n) ⊎ (i ≡ n)
last_or i n h = elim (dec_lt i n) [ yes q ↦ inl q | no q ↦ inr (omega arith) ]

pub length_build : {A : Type 0} (n : ℕ) (f : ℕ → A) → length (build n f) ≡ n
unfolding build
length_build zero f = refl
length_build (suc n) f = let h = length_build n f in let k = length-append (build n f) (f n ∷ []) in omega arith

pub at_build : {A : Type 0} (n : ℕ) (f : ℕ → A) (r : ℕ) (d : A) → r < n → slice_index_or (build n f) r d ≡ f r
unfolding build
at_build zero f r d h = absurd (omega arith)
at_build (suc n) f r d h = elim (last_or r n h) [
  | inl q ↦ (let k : r < length (build n f) = (let l = length_build n f in omega arith) in get_or_append_left (build n f) (f n ∷ []) d r k ∙ at_build n f r d q)
  | inr q ↦ get_or_push (build n f) (f n) d r (length_build n f ∙ sym q) ∙ ap f (sym q)
]

pub every_at : (n : ℕ) (p : ℕ → Bool) (r : ℕ) → every n p ≡ true → r < n → p r ≡ true
unfolding every
every_at zero p r e h = absurd (omega arith)
every_at (suc n) p r e h = let z = and_parts _ _ e in elim (last_or r n h) [ inl q ↦ every_at n p r z.0 q | inr q ↦ ap p q ∙ z.1 ]

-- a test over all registers fails at some register
pub every_fails : (n : ℕ) (p : ℕ → Bool) → every n p ≡ false → (r : ℕ) × (r < n) × (p r ≡ false)
unfolding every
every_fails zero p e = let z : ◌≡◌ {A = ℕ} 0 1 = cc in absurd (omega arith)
every_fails (suc n) p e = elim (and_cases _ _ e) [
  | inl q ↦ (let w = every_fails n p q in (w.0, (let h = w.1 in omega arith), w.2))
  | inr q ↦ (n, omega arith, q)
]

pub every_not : (p : ℕ → Bool) (n i : ℕ) → i < n → p i ≡ false → every n p ≡ false
unfolding every
every_not p zero i h e = absurd (omega arith)
every_not p (suc n) i h e = elim (last_or i n h) [ inl q ↦ and_left _ _ (every_not p n i q e) | inr q ↦ and_right _ _ (ap p (sym q) ∙ e) ]

pub sum_le : (n : ℕ) (f g : ℕ → ℕ) → ((r : ℕ) → r < n → f r ≤ g r) → sum_to n f ≤ sum_to n g
unfolding sum_to
sum_le zero f g h = omega arith
sum_le (suc n) f g h = let a = sum_le n f g (λ r q. h r (omega arith)) in let b = h n (omega arith) in omega arith

pub sum_lt : (n : ℕ) (f g : ℕ → ℕ) → ((r : ℕ) → r < n → f r ≤ g r) → (r : ℕ) → r < n → f r < g r → sum_to n f < sum_to n g
unfolding sum_to
sum_lt zero f g h r q l = absurd (omega arith)
sum_lt (suc n) f g h r q l =
    let b = h n (omega arith) in
    elim (last_or r n q) [
      | inl w ↦ (let a = sum_lt n f g (λ k s. h k (omega arith)) r w l in omega arith)
      | inr w ↦ (let a = sum_le n f g (λ k s. h k (omega arith)) in let k : f n < g n = subst (λ (j : ℕ). f j < g j) w l in omega arith)
    ]

pub sum_most : (n m : ℕ) (f : ℕ → ℕ) → ((r : ℕ) → f r ≤ m) → sum_to n f ≤ m * n
unfolding sum_to
sum_most zero m f h = omega arith
sum_most (suc n) m f h = let a = sum_most n m f h in let b = h n in omega arith
