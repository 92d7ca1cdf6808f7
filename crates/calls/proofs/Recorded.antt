-- One list more of a tape.
use Rattle.std.proofs.Common.{◌≡◌, ℕ, zero, suc, ◌+◌, ◌<◌, List, [], ◌∷◌, ◌++◌, length, get_or, take, drop, set, sym, refl, ap, ◌∙◌, append_assoc, add-one, arith}
use Rattle.std.proofs.lemmas.List.{append-nil}
use Rattle.calls.specs.Law.{Event}
use Rattle.calls.specs.Events.{recorded}

module _ {C A : Type 0} (f : C → C → A → List Event) where
  recorded_suc : (cs ds : List C) (rs : List A) (n : ℕ) (o d : C) (r : A) → n < length cs → n < length ds → n < length rs → drop n ds ≡ drop n cs
      → recorded f (take (suc n) cs) (set ds n d) (set rs n r) ≡ recorded f (take n cs) ds rs ++ f (get_or ds n o) d r
  recorded_suc [] ds rs n o d r lc ld lr e = absurd (omega arith)
  recorded_suc (x ∷ cs) [] rs n o d r lc ld lr e = absurd (omega arith)
  recorded_suc (x ∷ cs) (y ∷ ds) [] n o d r lc ld lr e = absurd (omega arith)
  recorded_suc (x ∷ cs) (y ∷ ds) (z ∷ rs) zero o d r lc ld lr e = let same : x ≡ y = cc in append-nil (f x d r) ∙ ap (λ (b : C). f b d r) same
  recorded_suc (x ∷ cs) (y ∷ ds) (z ∷ rs) (suc n) o d r lc ld lr e =
      ap (λ (es : List Event). f x y z ++ es) (recorded_suc cs ds rs n o d r (omega arith) (omega arith) (omega arith) e) ∙ sym (append_assoc (f x y z) (recorded f (take n cs) ds rs) (f (get_or ds n o) d r))

  -- the list at n was as it was made, and is played
  pub recorded_more : (cs ds : List C) (rs : List A) (n : ℕ) (o d : C) (r : A) → n < length cs → n < length ds → n < length rs → drop n ds ≡ drop n cs
      → recorded f (take (n + 1) cs) (set ds n d) (set rs n r) ≡ recorded f (take n cs) ds rs ++ f (get_or ds n o) d r
  recorded_more cs ds rs n o d r lc ld lr e = rw add-one (recorded_suc cs ds rs n o d r lc ld lr e)

  -- all are played that have room for an answer
  pub recorded_all : (cs ds : List C) (rs : List A) (n : ℕ) → (n < length cs → n < length rs → ⊥) → recorded f (take n cs) ds rs ≡ recorded f cs ds rs
  recorded_all [] ds rs zero none = refl
  recorded_all [] ds rs (suc n) none = refl
  recorded_all (x ∷ cs) [] rs zero none = refl
  recorded_all (x ∷ cs) [] rs (suc n) none = refl
  recorded_all (x ∷ cs) (y ∷ ds) [] zero none = refl
  recorded_all (x ∷ cs) (y ∷ ds) [] (suc n) none = refl
  recorded_all (x ∷ cs) (y ∷ ds) (z ∷ rs) zero none = absurd (none (omega arith) (omega arith))
  recorded_all (x ∷ cs) (y ∷ ds) (z ∷ rs) (suc n) none = ap (λ (es : List Event). f x y z ++ es) (recorded_all cs ds rs n (λ p q. none (omega arith) (omega arith)))
