-- The least number that passes a test.
use Rattle.std.proofs.Common.{◌≡◌, ℕ, zero, suc, ◌<◌, Bool, true, false, cond, Some, None, Option, sym, refl, ap, subst, arith}
use native.Mathlib.Decide.{dec_lt}
use Rattle.divisibility.specs.Leasts.{least, Below}
use Rattle.std.specs.Option.{option_or}

pub least_none : (n : ℕ) (p : ℕ → Bool) → ((t : ℕ) → t < n → p t ≡ false) → least n p ≡ None
unfolding least
least_none zero p h = refl
least_none (suc n) p h = let a = least_none n p (λ t l. h t (omega arith)) in let b = h n (omega arith) in rw (a, b)

pub least_some : (n : ℕ) (p : ℕ → Bool) (t : ℕ) → t < n → p t ≡ true → ((s : ℕ) → s < t → p s ≡ false) → least n p ≡ Some t
unfolding least
least_some zero p t l e h = absurd (omega arith)
least_some (suc n) p t l e h = elim (dec_lt t n) [
  | yes q ↦ (let a = least_some n p t q e h in rw a)
  | no q ↦ (let z : t ≡ n = omega arith in
      let a = least_none n p (λ s k. h s (omega arith)) in
      let b = subst (λ (s : ℕ). p s ≡ true) z e in
      let c = ap (λ (s : ℕ). Some s) (sym z) in rw (a, b) c)
]

-- tests that agree find the same
pub least_same : (n : ℕ) (p q : ℕ → Bool) → ((t : ℕ) → p t ≡ q t) → least n p ≡ least n q
unfolding least
least_same zero p q h = refl
least_same (suc n) p q h = let a = least_same n p q h in let b = h n in rw (a, b)

-- what was found, or that there is nothing
pub record Hit (n : ℕ) (p : ℕ → Bool) (t : ℕ) : Type 0 where
  pub below : t < n
  pub passes : p t ≡ true

abbrev pub Says : ℕ → (ℕ → Bool) → Option ℕ → Type 0
Says n p None = (t : ℕ) → t < n → p t ≡ false
Says n p (Some t) = Hit n p t

pub least_says : (n : ℕ) (p : ℕ → Bool) → Says n p (least n p)
unfolding least
least_says zero p = λ t l. absurd (omega arith)
least_says (suc n) p = by (least n p) (least_says n p) (p n) refl
  where
    last : (t : ℕ) → t < suc n → (t < n → p t ≡ false) → p n ≡ false → p t ≡ false
    last t l f e = elim (dec_lt t n) [ yes q ↦ f q | no q ↦ (let z : n ≡ t = omega arith in subst (λ (s : ℕ). p s ≡ false) z e) ]

    by : (o : Option ℕ) → Says n p o → (b : Bool) → p n ≡ b → Says (suc n) p (option_or o (cond b (Some n) None))
    by None s true e = record { below = omega arith; passes = e }
    by None s false e = λ t l. last t l (s t) e
    by (Some t) s b e = record { below = let q = s.below in omega arith; passes = s.passes }

pub says_below : (n : ℕ) (p : ℕ → Bool) (o : Option ℕ) → Says n p o → Below n o
says_below n p None h = tt
says_below n p (Some t) h = h.below

pub least_below : (n : ℕ) (p : ℕ → Bool) (o : Option ℕ) → o ≡ least n p → Below n o
least_below n p o e = subst (λ (x : Option ℕ). Below n x) (sym e) (says_below n p (least n p) (least_says n p))
