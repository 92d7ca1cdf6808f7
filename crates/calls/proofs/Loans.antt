-- One list more of a tape is left as it says.
use Rattle.std.proofs.Common.{◌≡◌, ℕ, zero, suc, ◌+◌, ◌<◌, List, [], ◌∷◌, length, get_or, drop, set, subst, add-one, arith}
use Rattle.calls.specs.Loans.{EachLeft}

module _ {C A : Type 0} (stays : C → C → A → Type 0) where
  left_suc : (cs ds : List C) (rs : List A) (n : ℕ) (o d : C) (a : A) → n < length cs → n < length ds → n < length rs → drop n ds ≡ drop n cs → EachLeft stays n cs ds rs → stays (get_or ds n o) d a → EachLeft stays (suc n) cs (set ds n d) (set rs n a)
  left_suc [] ds rs n o d a lc ld lr e h s k c r lt = absurd (omega arith)
  left_suc (x ∷ cs) [] rs n o d a lc ld lr e h s k c r lt = absurd (omega arith)
  left_suc (x ∷ cs) (y ∷ ds) [] n o d a lc ld lr e h s k c r lt = absurd (omega arith)
  left_suc (x ∷ cs) (y ∷ ds) (q ∷ rs) zero o d a lc ld lr e h s zero c r lt = let is : y ≡ x = cc in subst (λ (b : C). stays b d a) is s
  left_suc (x ∷ cs) (y ∷ ds) (q ∷ rs) zero o d a lc ld lr e h s (suc k) c r lt = absurd (omega arith)
  left_suc (x ∷ cs) (y ∷ ds) (q ∷ rs) (suc n) o d a lc ld lr e h s zero c r lt = h zero c r (omega arith)
  left_suc (x ∷ cs) (y ∷ ds) (q ∷ rs) (suc n) o d a lc ld lr e h s (suc k) c r lt = left_suc cs ds rs n o d a (omega arith) (omega arith) (omega arith) e (λ j b p l. h (suc j) b p (omega arith)) s k c r (omega arith)

  pub left_more : (cs ds : List C) (rs : List A) (n : ℕ) (o d : C) (a : A) → n < length cs → n < length ds → n < length rs → drop n ds ≡ drop n cs → EachLeft stays n cs ds rs → stays (get_or ds n o) d a → EachLeft stays (n + 1) cs (set ds n d) (set rs n a)
  left_more cs ds rs n o d a lc ld lr e h s = rw add-one (left_suc cs ds rs n o d a lc ld lr e h s)
