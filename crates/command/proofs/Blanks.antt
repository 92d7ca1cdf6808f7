-- A line cut at its first blank: its first word, and what follows.
use Rattle.std.proofs.Common.{◌≡◌, ℕ, ◌+◌, ◌-◌, ◌≤◌, Bool, true, false, cond, eqb, List, [], ◌∷◌, length, get_or, take, drop, sym, refl, ap, ◌∙◌, add-one, arith}
use Rattle.std.proofs.lemmas.Bool.{eq-eqb}
use Rattle.std.proofs.lemmas.List.{take_rest}
use Rattle.words.specs.Cuts.{until, before}
use Rattle.command.specs.Words.{words_of, arguments}

-- the first word, and the others
pub cut : (bs : List ℕ) → words_of bs ≡ take (until 32 bs) bs ∷ arguments (drop (until 32 bs) bs)
cut [] = refl
cut (b ∷ bs) = go (eqb b 32) refl (cut bs)
  where
    go : (t : Bool) → eqb b 32 ≡ t → words_of bs ≡ take (until 32 bs) bs ∷ arguments (drop (until 32 bs) bs) → cond t ([] ∷ words_of bs) (before b (words_of bs)) ≡ take (cond t 0 (until 32 bs + 1)) (b ∷ bs) ∷ arguments (drop (cond t 0 (until 32 bs + 1)) (b ∷ bs))
    go true e more = rw e
    go false e more = ap (before b) more ∙ rw (add-one (until 32 bs))

-- the same at the parts that code cuts
pub cut_at : (bs : List ℕ) (n : ℕ) → n ≡ until 32 bs → words_of bs ≡ take (n - 0) bs ∷ arguments (take (length bs - n) (drop n bs))
cut_at bs n e =
    let none : n - 0 ≡ n = omega arith in
    rw (take_rest bs n, none, e) (cut bs)

-- the words after one blank
pub after_blank : (bs : List ℕ) → 1 ≤ length bs → get_or bs 0 0 ≡ 32 → arguments bs ≡ words_of (take (length bs - 1) (drop 1 bs))
after_blank [] some blank = absurd (omega arith)
after_blank (b ∷ bs) some blank = let t : eqb b 32 ≡ true = eq-eqb b 32 blank in rw t (ap words_of (sym (take_rest (b ∷ bs) 1)))

-- no word follows exactly if no byte does
pub no_argument : (bs : List ℕ) → length bs ≡ 0 → arguments bs ≡ []
no_argument [] h = refl
no_argument (b ∷ bs) h = absurd (omega arith)

pub some_argument : {A : Type 0} (f : List (List ℕ) → A) (a : A) → ((w : List ℕ) (ws : List (List ℕ)) → f (w ∷ ws) ≡ a) → (bs : List ℕ) → (length bs ≡ 0 → ⊥) → f (arguments bs) ≡ a
some_argument f a same [] h = absurd (h refl)
some_argument f a same (b ∷ bs) h = go (eqb b 32)
  where
    go : (t : Bool) → f (cond t (words_of bs) ([] ∷ [])) ≡ a
    go true = ap f (cut bs) ∙ same _ _
    go false = same _ _
