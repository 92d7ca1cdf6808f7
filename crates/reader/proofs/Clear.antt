-- Texts of allowed bytes: what the test of all of them says, and where the first other byte stands.
use Rattle.std.proofs.Common.{◌≡◌, ℕ, ◌+◌, true, false, Bool, cond, ◌&&◌, List, [], ◌∷◌, length, refl, true≢false, sym, arith}
use Rattle.std.specs.List.{list_all, fold}
use Rattle.grammar.specs.Answer.{permitted, clear}

fold_false : (s : List ℕ) → fold (λ so_far b. so_far && permitted b) false s ≡ false
fold_false [] = refl
fold_false (b ∷ bs) = fold_false bs

pub fold_all : (s : List ℕ) → fold (λ so_far b. so_far && permitted b) true s ≡ list_all permitted s
fold_all [] = refl
fold_all (b ∷ bs) = by (permitted b) (fold_all bs)
  where
    by : (v : Bool) → fold (λ so_far c. so_far && permitted c) true bs ≡ list_all permitted bs → fold (λ so_far c. so_far && permitted c) v bs ≡ (v && list_all permitted bs)
    by true e = e
    by false e = fold_false bs

pub all_clear : (s : List ℕ) → list_all permitted s ≡ true → clear s ≡ length s
all_clear [] e = refl
all_clear (b ∷ bs) e = by (permitted b) e (all_clear bs)
  where
    by : (v : Bool) → (v && list_all permitted bs) ≡ true → (list_all permitted bs ≡ true → clear bs ≡ length bs) → cond v (1 + clear bs) 0 ≡ length (b ∷ bs)
    by true e h = omega (arith, h e)
    by false e h = absurd (true≢false (sym e))
