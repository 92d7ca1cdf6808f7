-- Where a label stands among others, and what it means that it does not.
use Rattle.std.proofs.Common.{◌≡◌, ℕ, zero, suc, ◌+◌, ◌<◌, ◌≤◌, Bool, true, false, cond, eqb, List, [], ◌∷◌, ◌++◌, length, get_or, Some, None, refl, ap, ◌∙◌, arith}
use Rattle.std.proofs.lemmas.Bool.{eq-eqb, ne_eqb}
use Rattle.model.specs.Blocks.{place_from}

-- the place of the first that is the label
pub placed : (n : ℕ) (ls : List ℕ) (l i : ℕ) → ((k : ℕ) → k < i → get_or ls k 0 ≡ l → ⊥) → i < length ls → get_or ls i 0 ≡ l → Some (n + i) ≡ place_from n ls l
placed n [] l i none h e = absurd (omega arith)
placed n (m ∷ ls) l zero none h e = let t : eqb m l ≡ true = eq-eqb m l e in rw t (ap Some (omega arith))
placed n (m ∷ ls) l (suc i) none h e =
    let t : eqb m l ≡ false = ne_eqb m l (none 0 (omega arith)) in
    rw t (ap Some (omega arith) ∙ placed (n + 1) ls l i (λ k q. none (suc k) (omega arith)) (omega arith) e)

-- a label that none of them is
pub unplaced : (n : ℕ) (ls : List ℕ) (l : ℕ) → ((k : ℕ) → k < length ls → get_or ls k 0 ≡ l → ⊥) → None ≡ place_from n ls l
unplaced n [] l none = refl
unplaced n (m ∷ ls) l none =
    let t : eqb m l ≡ false = ne_eqb m l (none 0 (omega arith)) in
    rw t (unplaced (n + 1) ls l (λ k q. none (suc k) (omega arith)))

-- a place that was found is one of theirs
pub place_within : (n : ℕ) (ls : List ℕ) (l i : ℕ) → Some i ≡ place_from n ls l → (n ≤ i) × (i < n + length ls)
place_within n [] l i e = let z : ◌≡◌ {A = ℕ} 0 1 = cc in absurd (omega arith)
place_within n (m ∷ ls) l i e = by_test (eqb m l) (place_within (n + 1) ls l i) e
  where
    by_test : (b : Bool) → (Some i ≡ place_from (n + 1) ls l → (n + 1 ≤ i) × (i < n + 1 + length ls)) → Some i ≡ cond b (Some n) (place_from (n + 1) ls l) → (n ≤ i) × (i < n + length (m ∷ ls))
    by_test true more h = let s : i ≡ n = cc in (omega arith, omega arith)
    by_test false more h = let q = more h in (omega arith, omega arith)

-- a label that is not among others is unlike the first of them, and not among the rest
pub missing_both : (n : ℕ) (ls : List ℕ) (m l : ℕ) → place_from n (m ∷ ls) l ≡ None → (eqb m l ≡ false) × (place_from (n + 1) ls l ≡ None)
missing_both n ls m l e = by_test (eqb m l) refl e
  where
    by_test : (b : Bool) → eqb m l ≡ b → cond b (Some n) (place_from (n + 1) ls l) ≡ None → (eqb m l ≡ false) × (place_from (n + 1) ls l ≡ None)
    by_test true f h = let z : ◌≡◌ {A = ℕ} 0 1 = cc in absurd (omega arith)
    by_test false f h = (f, h)

-- where the count starts does not matter to a label that is missing
pub missing_from : (n k : ℕ) (ls : List ℕ) (l : ℕ) → place_from n ls l ≡ None → place_from k ls l ≡ None
missing_from n k [] l e = refl
missing_from n k (m ∷ ls) l e = let h = missing_both n ls m l e in rw h.0 (missing_from (n + 1) (k + 1) ls l h.1)

pub missing_push : (n : ℕ) (ls : List ℕ) (m l : ℕ) → place_from n ls l ≡ None → eqb m l ≡ false → place_from n (ls ++ (m ∷ [])) l ≡ None
missing_push n [] m l e h = rw h
missing_push n (k ∷ ls) m l e h = let a = missing_both n ls k l e in rw a.0 (missing_push (n + 1) ls m l a.1 h)

pub missing_pushed : (n : ℕ) (ls : List ℕ) (m l : ℕ) → place_from n (ls ++ (m ∷ [])) l ≡ None → (place_from n ls l ≡ None) × (eqb m l ≡ false)
missing_pushed n [] m l e = (refl, (missing_both n [] m l e).0)
missing_pushed n (k ∷ ls) m l e =
    let a = missing_both n (ls ++ (m ∷ [])) k l e in
    let b = missing_pushed (n + 1) ls m l a.1 in
    (rw a.0 b.0, b.1)

pub missing_at : (n : ℕ) (ls : List ℕ) (l j : ℕ) → place_from n ls l ≡ None → j < length ls → eqb (get_or ls j 0) l ≡ false
missing_at n [] l j e h = absurd (omega arith)
missing_at n (m ∷ ls) l zero e h = (missing_both n ls m l e).0
missing_at n (m ∷ ls) l (suc j) e h = missing_at (n + 1) ls l j (missing_both n ls m l e).1 (omega arith)
