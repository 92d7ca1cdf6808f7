-- The next token of a text heads the list of its tokens.
use Rattle.std.proofs.Common.{◌≡◌, ℕ, zero, suc, ◌+◌, ◌-◌, ◌<◌, ◌≤◌, true, false, cond, List, [], ◌∷◌, length, get_or, take, drop, sym, refl, ap, ◌∙◌, subst, arith, length-drop, Bor}
use Rattle.std.proofs.lemmas.List.{drop-drop, drop_all}
use Rattle.lexer.specs.declared.class.Class.{Class}
use Rattle.lexer.specs.declared.class.Class.TheVariants.{Letter, Digit, Mark, Blank}
use Rattle.lexer.specs.declared.token.Token.{Token}
use Rattle.lexer.specs.Classes.{class, same, run}
use Rattle.lexer.specs.Kinds.{size, size_by}
use Rattle.lexer.specs.Parts.{start, Found}
use Rattle.lexer.specs.Lexemes.{lexemes_from}

skip : (n p : ℕ) (s : List ℕ) → n ≤ length s → lexemes_from n p s ≡ lexemes_from 0 (p + n) (drop n s)
skip zero p s h = ap (λ m. lexemes_from 0 m s) (omega arith)
skip (suc n) p [] h = absurd (omega arith)
skip (suc n) p (b ∷ bs) h = skip n (p + 1) bs (omega arith) ∙ ap (λ m. lexemes_from 0 m (drop n bs)) (omega arith)

-- how far a run at the front goes, by its first byte
pub run_step : (k : Class) (b : ℕ) (bs : List ℕ) → run k (b ∷ bs) ≡ cond (same (class b) k) (suc (run k bs)) 0
run_step k b bs = ap (λ n. cond (same (class b) k) n 0) (omega arith)

blanks : (p : ℕ) (s : List ℕ) → lexemes_from 0 p s ≡ lexemes_from 0 (p + run Blank s) (drop (run Blank s) s)
blanks p [] = refl
blanks p (b ∷ bs) =
    subst (λ n. lexemes_from 0 p (b ∷ bs) ≡ lexemes_from 0 (p + n) (drop n (b ∷ bs))) (sym (run_step Blank b bs)) (elim (same (class b) Blank) as (λ v. same (class b) Blank ≡ v → lexemes_from 0 p (b ∷ bs) ≡ lexemes_from 0 (p + cond v (suc (run Blank bs)) 0) (drop (cond v (suc (run Blank bs)) 0) (b ∷ bs))) [
      | true ↦ λ e. ap (λ v. cond v (lexemes_from 0 (p + 1) bs) (record { place = p; bytes = take (size (b ∷ bs)) (b ∷ bs) } ∷ lexemes_from (size (b ∷ bs) - 1) (p + 1) bs)) e ∙ blanks (p + 1) bs ∙ ap (λ m. lexemes_from 0 m (drop (run Blank bs) bs)) (omega arith)
      | false ↦ λ e. ap (λ m. lexemes_from 0 m (b ∷ bs)) (omega arith)
    ] refl)

pub size_some : (b : ℕ) (bs : List ℕ) (k : Class) → class b ≡ k → 1 ≤ size_by k (b ∷ bs)
size_some b bs Letter e = let r : run Letter (b ∷ bs) ≡ suc (run Letter bs) = run_step Letter b bs ∙ ap (λ c. cond (same c Letter) (suc (run Letter bs)) 0) e in omega arith
size_some b bs Digit e = let r : run Digit (b ∷ bs) ≡ suc (run Digit bs) = run_step Digit b bs ∙ ap (λ c. cond (same c Digit) (suc (run Digit bs)) 0) e in omega arith
size_some b bs Mark e = omega arith
size_some b bs Blank e = omega arith

pub one : (p : ℕ) (s : List ℕ) → 0 < length s → size s ≤ length s → same (class (get_or s 0 0)) Blank ≡ false → lexemes_from 0 p s ≡ record { place = p; bytes = take (size s) s } ∷ lexemes_from 0 (p + size s) (drop (size s) s)
one p [] h w e = absurd (omega arith)
one p (b ∷ bs) h w e =
    let n = size (b ∷ bs) in
    let some : 1 ≤ n = size_some b bs (class b) refl in
    let back : suc (n - 1) ≡ n = omega arith in
    let rest : lexemes_from (n - 1) (p + 1) bs ≡ lexemes_from 0 (p + n) (drop n (b ∷ bs)) =
    skip (n - 1) (p + 1) bs (omega arith) ∙ (λ i. lexemes_from 0 ((let q : p + 1 + (n - 1) ≡ p + n = omega arith in q) i) (drop (back i) (b ∷ bs))) in
    ap (λ v. cond v (lexemes_from 0 (p + 1) bs) (record { place = p; bytes = take n (b ∷ bs) } ∷ lexemes_from (n - 1) (p + 1) bs)) e ∙ ap (λ l. record { place = p; bytes = take n (b ∷ bs) } ∷ l) rest

past : (s : List ℕ) → run Blank s < length s → same (class (get_or (drop (run Blank s) s) 0 0)) Blank ≡ false
past [] h = absurd (omega arith)
past (b ∷ bs) h =
    subst (λ n. n < length (b ∷ bs) → same (class (get_or (drop n (b ∷ bs)) 0 0)) Blank ≡ false) (sym (run_step Blank b bs)) (elim (same (class b) Blank) as (λ v. same (class b) Blank ≡ v → cond v (suc (run Blank bs)) 0 < length (b ∷ bs) → same (class (get_or (drop (cond v (suc (run Blank bs)) 0) (b ∷ bs)) 0 0)) Blank ≡ false) [
      | true ↦ λ e h. past bs (omega arith)
      | false ↦ λ e h. e
    ] refl) h

-- what `Found` says, on the list of tokens
pub found_heads : (text : Bor (List ℕ)) (n : ℕ) (t : Token) (m : ℕ) → n ≤ length text.now → Found text n t m → lexemes_from 0 n (drop n text.now) ≡ record { place = t.place; bytes = t.part.now } ∷ lexemes_from 0 m (drop m text.now)
found_heads text n t m in-text f =
    let s = text.now in
    let r = drop n s in
    let long : length r ≡ length s - n = length-drop n s in
    let at : t.place ≡ n + run Blank r = f.place in
    let same_rest : drop (run Blank r) r ≡ drop t.place s = drop-drop (run Blank r) n s ∙ ap (λ k. drop k s) (sym at) in
    let q = drop t.place s in
    let q_long : length q ≡ length s - t.place = length-drop t.place s in
    let not-blank : same (class (get_or q 0 0)) Blank ≡ false = subst (λ l. same (class (get_or l 0 0)) Blank ≡ false) same_rest (past r (omega (arith, f.some))) in
    let first = one t.place q (omega (arith, f.some)) (omega (arith, f.after, f.within, f.some)) not-blank in
    let after : drop (size q) q ≡ drop m s = drop-drop (size q) t.place s ∙ ap (λ k. drop k s) (sym f.after) in
    blanks n r ∙ (λ i. lexemes_from 0 (sym at i) (same_rest i)) ∙ first ∙ (λ i. record { place = t.place; bytes = sym f.part.bytes i } ∷ lexemes_from 0 (sym f.after i) (after i))

pub none_heads : (s : List ℕ) (n : ℕ) → start s n ≡ length s → lexemes_from 0 n (drop n s) ≡ []
none_heads s n h =
    let r = drop n s in
    blanks n r ∙ ap (λ l. lexemes_from 0 (n + run Blank r) l) (drop-drop (run Blank r) n s ∙ drop_all (n + run Blank r) s (omega arith))
