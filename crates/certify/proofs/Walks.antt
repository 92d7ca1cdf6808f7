-- Loops over a copied run, with and without its index: which item each turn has, and that the run is over.
use Rattle.std.proofs.Common.{◌≡◌, ℕ, ◌+◌, ◌<◌, List, ◌∷◌, length, drop, get_or, Some, None, Option, sym, ap, ◌∙◌, arith}
use Rattle.std.specs.Iterator.{Yields}
use Rattle.std.proofs.lemmas.Iterator.{YieldsList}
use Rattle.std.proofs.lemmas.Iterator.Consumers.{YieldsList-turn, YieldsList-end}
use Rattle.std.proofs.lemmas.List.{drop_more}
use Rattle.std.proofs.lemmas.List.FromFn.{length-enumerate_from, get_or-enumerate_from}
use Rattle.std.specs.List.{enumerate_from}

-- a loop over xs has come to x, its item number n, which is what is left with the next ones behind it
pub record Turn {A : Type 0} (xs : List A) (n : ℕ) (x : A) : Type 0 where
  pub inner : n < length xs
  pub left : drop n xs ≡ x ∷ drop (n + 1) xs

module _ {S A : Type 0} {steps : S → Option A → S → Type 0} {s : S} (xs : List A) (e : YieldsList steps (λ x. x) s xs) where
  pub turn : (ys : List A) (t : S) (y : Yields steps s ys t) (r : Option A) (u : S) (x : A) → r ≡ Some x → steps t r u → Turn xs (length ys) x
  turn ys t y r u x i st =
      let k = YieldsList-turn e ys t y r u x i st in
      record { inner = k.0; left = drop_more xs (length ys) x k.0 ∙ ap (λ (z : A). z ∷ drop (length ys + 1) xs) (sym k.1) }

  pub over : (ys : List A) (t : S) (y : Yields steps s ys t) (r : Option A) (u : S) → r ≡ None → steps t r u → length ys ≡ length xs
  over ys t y r u i st = (YieldsList-end e ys t y r u i st).1

module _ {S A : Type 0} {steps : S → Option (ℕ × A) → S → Type 0} {s : S} (xs : List A) (e : YieldsList {B = ℕ × A} steps (λ p. (p.0, p.1)) s (enumerate_from 0 xs)) where
  pub numbered : (ys : List (ℕ × A)) (t : S) (y : Yields steps s ys t) (r : Option (ℕ × A)) (u : S) (p : ℕ × A) → r ≡ Some p → steps t r u →
      (p.0 ≡ length ys) × Turn xs (length ys) p.1
  numbered ys t y r u p i st =
      let k = YieldsList-turn e ys t y r u p i st in
      let long = length-enumerate_from 0 xs in
      let inner : length ys < length xs = omega arith in
      let at : ◌≡◌ {A = ℕ × A} (p.0, p.1) (0 + length ys, get_or xs (length ys) p.1) = k.1 ∙ get_or-enumerate_from 0 xs (length ys) p inner in
      let same : p.1 ≡ get_or xs (length ys) p.1 = ap (λ (q : ℕ × A). q.1) at in
      let number : p.0 ≡ 0 + length ys = ap (λ (q : ℕ × A). q.0) at in
      (omega arith, record { inner = inner; left = drop_more xs (length ys) p.1 inner ∙ ap (λ (z : A). z ∷ drop (length ys + 1) xs) (sym same) })

  pub numbered_over : (ys : List (ℕ × A)) (t : S) (y : Yields steps s ys t) (r : Option (ℕ × A)) (u : S) → r ≡ None → steps t r u → length ys ≡ length xs
  numbered_over ys t y r u i st = (YieldsList-end e ys t y r u i st).1 ∙ length-enumerate_from 0 xs
