-- Numbers after blanks are read exactly if the grammar has them.
use Rattle.std.proofs.Common.{◌≡◌, ℕ, zero, suc, true, List, [], ◌∷◌, ◌++◌, length, take, drop, ℤ, Some, None, Option, sym, refl, ap, ap₂, ◌∙◌, subst, arith}
use Rattle.std.proofs.lemmas.List.{take_at, drop_at, take-append-drop}
use Rattle.words.specs.Cuts.{until}
use Rattle.words.specs.Numbers.{number_of}
use Rattle.words.proofs.Cutting.{lacks, Stops, until_at, stops_after}
use Rattle.words.proofs.NumberGrammar.{number_lacks, number_read, number_had}
use Rattle.command.specs.Words.{words_of, arguments}
use Rattle.command.specs.Numbers.{put, numbers_of}
use Rattle.command.specs.Grammar.{NumbersAre, none, more}
use Rattle.command.proofs.Blanks.{cut, some_argument}

-- the words of a text that begins with a word
pub first_word : (w rest : List ℕ) → lacks 32 w ≡ true → Stops 32 rest → words_of (w ++ rest) ≡ w ∷ arguments rest
first_word w rest h s =
    let n = until_at 32 w rest h s in
    cut (w ++ rest) ∙ ap₂ (λ u v. u ∷ arguments v) (take_at w rest (until 32 (w ++ rest)) (sym n)) (drop_at w rest (until 32 (w ++ rest)) (sym n))

pub numbers_stop : {bs : List ℕ} {ns : List ℤ} → NumbersAre bs ns → Stops 32 bs
numbers_stop none = tt
numbers_stop (more w n i r) = refl

pub numbers_read : {bs : List ℕ} {ns : List ℤ} → NumbersAre bs ns → numbers_of (length ns) (arguments bs) ≡ Some ns
numbers_read none = refl
numbers_read (more {bs} {ns} w n i r) =
    ap (numbers_of (suc (length ns))) (first_word w bs (number_lacks w n i) (numbers_stop r)) ∙ ap (λ o. put o (numbers_of (length ns) (arguments bs))) (number_read w n i) ∙ ap (put (Some n)) (numbers_read r)

-- what is read
put_had : (a : Option ℤ) (o : Option (List ℤ)) (ns : List ℤ) → put a o ≡ Some ns → (x : ℤ) × (xs : List ℤ) × (a ≡ Some x) × (o ≡ Some xs) × (ns ≡ x ∷ xs)
put_had None o ns e = let z : ◌≡◌ {A = ℕ} 0 1 = cc in absurd (omega arith)
put_had (Some x) None ns e = let z : ◌≡◌ {A = ℕ} 0 1 = cc in absurd (omega arith)
put_had (Some x) (Some xs) ns e = (x, xs, refl, refl, cc)

never : {P : Type 0} (o : Option (List ℤ)) (ns : List ℤ) → o ≡ None → o ≡ Some ns → P
never o ns e f = let z : ◌≡◌ {A = ℕ} 0 1 = cc in absurd (omega arith)

pub numbers_had : (n : ℕ) (bs : List ℕ) (ns : List ℤ) → Stops 32 bs → numbers_of n (arguments bs) ≡ Some ns → NumbersAre bs ns × (length ns ≡ n)
numbers_had zero [] ns s e = let nil : [] ≡ ns = cc in (subst (NumbersAre []) nil none, ap length (sym nil))
numbers_had zero (b ∷ bs) ns s e = never _ ns (some_argument (numbers_of zero) None (λ w ws. refl) (b ∷ bs) (λ z. omega arith)) e
numbers_had (suc n) [] ns s e = never None ns refl e
numbers_had (suc n) (b ∷ bs) ns s e =
    let w = take (until 32 bs) bs in
    let rest = drop (until 32 bs) bs in
    let f : numbers_of (suc n) (arguments (32 ∷ bs)) ≡ Some ns = subst (λ c. numbers_of (suc n) (arguments (c ∷ bs)) ≡ Some ns) s e in
    let h = put_had (number_of w) (numbers_of n (arguments rest)) ns (ap (numbers_of (suc n)) (sym (cut bs)) ∙ f) in
    let more_of = numbers_had n rest h.1 (stops_after 32 bs) h.3 in
    let whole : NumbersAre (32 ∷ bs) (h.0 ∷ h.1) = subst (λ l. NumbersAre (32 ∷ l) (h.0 ∷ h.1)) (take-append-drop (until 32 bs) bs) (more w h.0 (number_had w h.0 h.2) more_of.0) in
    (subst (λ c. NumbersAre (c ∷ bs) ns) (sym s) (subst (NumbersAre (32 ∷ bs)) (sym h.4) whole), ap length h.4 ∙ ap suc more_of.1)
