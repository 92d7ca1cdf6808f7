-- Each text has its tokens, and no others.
use Rattle.std.proofs.Common.{◌≡◌, ℕ, zero, suc, ◌+◌, ◌-◌, ◌<◌, ◌≤◌, Bool, true, false, cond, List, [], ◌∷◌, ◌++◌, length, get_or, take, drop, sym, refl, ap, ◌∙◌, subst, true≢false, arith, length-append, length-drop}
use Rattle.std.specs.List.{AllByRecursion}
use Rattle.std.proofs.lemmas.List.Sums.{prefix_len-le-length}
use Rattle.std.proofs.lemmas.List.{take_at, drop_at, take-append-drop, length-take-le}
use Rattle.lexer.specs.declared.class.Class.{Class}
use Rattle.lexer.specs.declared.class.Class.TheVariants.{Letter, Digit, Blank, Mark}
use Rattle.lexer.specs.Classes.{class, same, run}
use Rattle.lexer.specs.Kinds.{size, size_by}
use Rattle.lexer.specs.Lexemes.{Lexeme, Stops, IsToken, letters, digits, mark, LexemesAre, none, blank, token, lexemes_from, lexemes}
use Rattle.lexer.proofs.Heads.{run_step, size_some, one}
use Rattle.lexer.specs.Equality.{same_class, same_self}

differ : (j k : Class) → (j ≡ k → ⊥) → same j k ≡ false
differ j k h = elim (same j k) as (λ v. same j k ≡ v → v ≡ false) [ true ↦ λ e. absurd (h (same_class j k e)) | false ↦ λ e. refl ] refl

-- ---- a run at the front of a text
run_all : (k : Class) (s : List ℕ) → AllByRecursion (λ c. class c ≡ k) (take (run k s) s)
run_all k [] = tt
run_all k (b ∷ bs) =
    subst (λ n. AllByRecursion (λ c. class c ≡ k) (take n (b ∷ bs))) (sym (run_step k b bs)) (elim (same (class b) k) as (λ v. same (class b) k ≡ v → AllByRecursion (λ c. class c ≡ k) (take (cond v (suc (run k bs)) 0) (b ∷ bs))) [
      | true ↦ λ e. (same_class (class b) k e, run_all k bs)
      | false ↦ λ e. tt
    ] refl)

run_stops : (k : Class) (s : List ℕ) → Stops k (drop (run k s) s)
run_stops k [] = tt
run_stops k (b ∷ bs) =
    subst (λ n. Stops k (drop n (b ∷ bs))) (sym (run_step k b bs)) (elim (same (class b) k) as (λ v. same (class b) k ≡ v → Stops k (drop (cond v (suc (run k bs)) 0) (b ∷ bs))) [
      | true ↦ λ e. run_stops k bs
      | false ↦ λ e h. true≢false (sym (ap (λ j. same j k) h ∙ same_self k) ∙ e)
    ] refl)

-- a run that stops is as long as it is
run_whole : (k : Class) (t s : List ℕ) → AllByRecursion (λ c. class c ≡ k) t → Stops k s → run k (t ++ s) ≡ length t
run_whole k [] [] a h = refl
run_whole k [] (b ∷ s) a h = run_step k b s ∙ ap (λ v. cond v (suc (run k s)) 0) (differ (class b) k h)
run_whole k (b ∷ t) s (e, a) h = run_step k b (t ++ s) ∙ ap (λ v. cond v (suc (run k (t ++ s))) 0) (ap (λ j. same j k) e ∙ same_self k) ∙ ap suc (run_whole k t s a h)

-- ---- each text has its tokens
size_within : (b : ℕ) (bs : List ℕ) (k : Class) → class b ≡ k → size_by k (b ∷ bs) ≤ length (b ∷ bs)
size_within b bs Letter e = prefix_len-le-length (λ c. same (class c) Letter) (b ∷ bs)
size_within b bs Digit e = prefix_len-le-length (λ c. same (class c) Digit) (b ∷ bs)
size_within b bs Blank e = omega arith
size_within b bs Mark e = omega arith

pub run_cons : (k : Class) (b : ℕ) (bs : List ℕ) → class b ≡ k → run k (b ∷ bs) ≡ suc (run k bs)
run_cons k b bs e = run_step k b bs ∙ ap (λ v. cond v (suc (run k bs)) 0) (ap (λ j. same j k) e ∙ same_self k)

first_token : (b : ℕ) (bs : List ℕ) (k : Class) → class b ≡ k → (k ≡ Blank → ⊥) → IsToken (take (size_by k (b ∷ bs)) (b ∷ bs)) (drop (size_by k (b ∷ bs)) (b ∷ bs))
first_token b bs Letter e n =
    let r = run_cons Letter b bs e in
    subst (λ m. IsToken (take m (b ∷ bs)) (drop m (b ∷ bs))) (sym r) (letters b (take (run Letter bs) bs) (e, run_all Letter bs) (run_stops Letter bs))
first_token b bs Digit e n =
    let r = run_cons Digit b bs e in
    subst (λ m. IsToken (take m (b ∷ bs)) (drop m (b ∷ bs))) (sym r) (digits b (take (run Digit bs) bs) (e, run_all Digit bs) (run_stops Digit bs))
first_token b bs Blank e n = absurd (n refl)
first_token b bs Mark e n = mark b e

-- a token in front of the tokens of the rest
headed : (p : ℕ) (s : List ℕ) (n : ℕ) (ls : List Lexeme) → n ≤ length s → IsToken (take n s) (drop n s) → LexemesAre (p + n) (drop n s) ls → LexemesAre p s (record { place = p; bytes = take n s } ∷ ls)
headed p s n ls h t l = subst (λ x. LexemesAre p x (record { place = p; bytes = take n s } ∷ ls)) (take-append-drop n s) (token (take n s) t (subst (λ m. LexemesAre (p + m) (drop n s) ls) (sym (length-take-le n s h)) l))

are_lexemes : (n p : ℕ) (s : List ℕ) → length s ≤ n → LexemesAre p s (lexemes_from 0 p s)
are_lexemes n p [] h = none
are_lexemes zero p (b ∷ bs) h = absurd (omega arith)
are_lexemes (suc n) p (b ∷ bs) h = go (same (class b) Blank) refl (are_lexemes n)
  where
    go : (v : Bool) → same (class b) Blank ≡ v → ((q : ℕ) (r : List ℕ) → length r ≤ n → LexemesAre q r (lexemes_from 0 q r)) → LexemesAre p (b ∷ bs) (cond v (lexemes_from 0 (p + 1) bs) (record { place = p; bytes = take (size (b ∷ bs)) (b ∷ bs) } ∷ lexemes_from (size (b ∷ bs) - 1) (p + 1) bs))
    go true e shorter = blank b (same_class (class b) Blank e) (shorter (p + 1) bs (omega arith))
    go false e shorter =
        let m = size (b ∷ bs) in
        let w : m ≤ length (b ∷ bs) = size_within b bs (class b) refl in
        let s : 1 ≤ m = size_some b bs (class b) refl in
        let is : lexemes_from 0 p (b ∷ bs) ≡ record { place = p; bytes = take m (b ∷ bs) } ∷ lexemes_from 0 (p + m) (drop m (b ∷ bs)) = one p (b ∷ bs) (omega arith) w e in
        let here : lexemes_from 0 p (b ∷ bs) ≡ record { place = p; bytes = take m (b ∷ bs) } ∷ lexemes_from (m - 1) (p + 1) bs = ap (λ v. cond v (lexemes_from 0 (p + 1) bs) (record { place = p; bytes = take m (b ∷ bs) } ∷ lexemes_from (m - 1) (p + 1) bs)) e in
        let rest = shorter (p + m) (drop m (b ∷ bs)) (omega (arith, length-drop m (b ∷ bs))) in
        subst (LexemesAre p (b ∷ bs)) (sym is ∙ here) (headed p (b ∷ bs) m _ w (first_token b bs (class b) refl (λ c. true≢false (sym (ap (λ j. same j Blank) c) ∙ e))) rest)

pub has_lexemes : (s : List ℕ) → LexemesAre 0 s (lexemes s)
has_lexemes s = are_lexemes (length s) 0 s (omega arith)

-- ---- and no others
token_size : (t s : List ℕ) → IsToken t s → (size (t ++ s) ≡ length t) × (same (class (get_or (t ++ s) 0 0)) Blank ≡ false) × (0 < length (t ++ s))
token_size t s (letters b bs (e, a) h) = (ap (λ k. size_by k ((b ∷ bs) ++ s)) e ∙ run_whole Letter (b ∷ bs) s (e, a) h, ap (λ k. same k Blank) e, omega arith)
token_size t s (digits b bs (e, a) h) = (ap (λ k. size_by k ((b ∷ bs) ++ s)) e ∙ run_whole Digit (b ∷ bs) s (e, a) h, ap (λ k. same k Blank) e, omega arith)
token_size t s (mark b e) = (ap (λ k. size_by k (b ∷ s)) e, ap (λ k. same k Blank) e, omega arith)

only_from : (p : ℕ) (s : List ℕ) (ls : List Lexeme) → LexemesAre p s ls → ls ≡ lexemes_from 0 p s
only_from p s ls none = refl
only_from p s ls (blank {s = r} b e l) =
    only_from (p + 1) r ls l ∙ sym (ap (λ v. cond v (lexemes_from 0 (p + 1) r) (record { place = p; bytes = take (size (b ∷ r)) (b ∷ r) } ∷ lexemes_from (size (b ∷ r) - 1) (p + 1) r)) (ap (λ k. same k Blank) e))
only_from p s ls (token {s = r} {ls = ms} t is l) =
    let z = token_size t r is in
    let w : size (t ++ r) ≤ length (t ++ r) = omega (arith, z.0, length-append t r) in
    let heads = one p (t ++ r) z.2 w z.1 in
    let front : take (size (t ++ r)) (t ++ r) ≡ t = take_at t r (size (t ++ r)) (sym z.0) in
    let back : drop (size (t ++ r)) (t ++ r) ≡ r = drop_at t r (size (t ++ r)) (sym z.0) in
    ap (λ x. record { place = p; bytes = t } ∷ x) (only_from (p + length t) r ms l) ∙ sym (heads ∙ (λ i. record { place = p; bytes = front i } ∷ lexemes_from 0 (p + z.0 i) (back i)))

pub only_lexemes : (s : List ℕ) (ls : List Lexeme) → LexemesAre 0 s ls → ls ≡ lexemes s
only_lexemes s ls l = only_from 0 s ls l
