-- From rows of symbols to texts: what a text is answered is an answer by the grammar.
use Rattle.std.proofs.Common.{◌≡◌, ℕ, ◌-◌, ◌<◌, ◌≤◌, Bool, true, false, cond, eqb, leb, List, [], ◌∷◌, ◌++◌, length, get_or, drop, sym, refl, ap, ◌∙◌, subst, arith, length-append, Ok, Err, Result}
use Rattle.std.proofs.lemmas.List.Sums.{prefix_len-le-length, prefix_len_is, prefix_len_passes, prefix_len_stops}
use Rattle.std.proofs.lemmas.List.{length-map}
use Rattle.std.proofs.Math.Seq.{drop-append_seam}
use Rattle.std.proofs.lemmas.Bool.Decides.{nat_tests}
use Rattle.std.proofs.lemmas.Bool.{eq-eqb}
use Rattle.model.specs.declared.line.Line.{Line}
use Rattle.grammar.specs.declared.symbol.Symbol.{Symbol}
use Rattle.grammar.specs.declared.refusal.Cause.{Cause}
use Rattle.grammar.specs.declared.refusal.Cause.TheVariants.{Length, Byte}
use Rattle.grammar.specs.declared.refusal.Refusal.{Refusal}
use Rattle.grammar.specs.Limits.{longest}
use Rattle.grammar.specs.Causes.{refused}
use Rattle.grammar.specs.Prefixes.{Viable, Follows, Ends, Refused, Again}
use Rattle.grammar.specs.Combinators.{Parsed, got, bad}
use Rattle.grammar.specs.Grammar.{LineIs}
use Rattle.grammar.specs.Parser.{line}
use Rattle.grammar.specs.Symbols.{symbol_of, symbols}
use Rattle.grammar.specs.Answer.{front, answered, reading, permitted, clear, short_answer, answer}
use Rattle.grammar.specs.Law.{Allowed, Clean, RefusedAt, Answers, too_long, spoilt, accepted, stuck}
use Rattle.lexer.specs.Lexemes.{Lexeme, LexemesAre, lexemes}
use Rattle.lexer.proofs.Lexemes.{has_lexemes}
use Rattle.grammar.proofs.Cuts.{empty_cons}
use Rattle.grammar.proofs.Mores.{true_false}
use Rattle.grammar.proofs.Whole.{reads_line}

-- a cut of the symbols is a cut of the tokens
pub cut_back : (ts : List Lexeme) (us rest : List Symbol) → symbols ts ≡ us ++ rest → (xs : List Lexeme) × (ys : List Lexeme) × (ts ≡ xs ++ ys) × (symbols xs ≡ us) × (symbols ys ≡ rest)
cut_back ts [] rest e = ([], ts, refl, refl, e)
cut_back [] (u ∷ us) rest e = empty_cons e
cut_back (t ∷ ts) (u ∷ us) rest e =
    let h : symbol_of t.bytes ≡ u = cc in
    let r : symbols ts ≡ us ++ rest = cc in
    let c = cut_back ts us rest r in
    (t ∷ c.0, c.1, ap (λ l. t ∷ l) c.2, (λ i. h i ∷ c.3 i), c.4)

-- what is left, by its length
pub dropped : (ts xs ys : List Lexeme) (rest : List Symbol) → ts ≡ xs ++ ys → symbols ys ≡ rest → drop (length ts - length rest) ts ≡ ys
dropped ts xs ys rest e f =
    let n : length ts - length rest ≡ length xs = omega (arith, ap length e, length-append xs ys, ap length f, length-map ys (λ (t : Lexeme). symbol_of t.bytes)) in
    (λ i. drop (n i) (e i)) ∙ drop-append_seam xs ys

read_not : {P : Type 0} {l : Line} {e : Refusal} → ◌≡◌ {A = Result Line Refusal} (Ok l) (Err e) → P
read_not e = absurd (let z : ◌≡◌ {A = ℕ} 0 1 = cc in omega arith)

same_refusal : {e f : Refusal} → ◌≡◌ {A = Result Line Refusal} (Err e) (Err f) → e ≡ f
same_refusal h = cc

pub lawful_at : (s : List ℕ) (l : Line) (v : Parsed Line) → line (symbols (lexemes s)) ≡ v → answered (lexemes s) (length s) v ≡ Ok l → LineIs (symbols (lexemes s)) l
lawful_at s l (got m rest) e h = let same : m ≡ l = cc in subst (λ x. LineIs (symbols (lexemes s)) x) same (reads_line.lawful (symbols (lexemes s)) rest m e).1
lawful_at s l (bad k rest) e h = read_not (sym h)

pub refuses_at : (s : List ℕ) (k : Cause) (p : ℕ) (v : Parsed Line) → line (symbols (lexemes s)) ≡ v → answered (lexemes s) (length s) v ≡ refused k p → RefusedAt s k p
refuses_at s k p (got m rest) e h = read_not h
refuses_at s k p (bad j rest) e h =
    let same = same_refusal h in
    let jk : j ≡ k = ap (λ x. x.cause) same in
    let at : front (drop (length (lexemes s) - length rest) (lexemes s)) (length s) ≡ p = ap (λ x. x.place) same in
    let st = reads_line.refuses (symbols (lexemes s)) rest k (e ∙ ap (λ n. bad n rest) jk) in
    let c = cut_back (lexemes s) st.0 rest st.1 in
    record {
      us = c.0;
      ws = c.1;
      tokens = subst (LexemesAre 0 s) c.2 (has_lexemes s);
      place = sym at ∙ ap (λ l. front l (length s)) (dropped (lexemes s) c.0 c.1 rest c.2 c.4);
      viable = subst (λ u. Viable LineIs u) (sym c.3) st.2;
      cause = subst (λ u. Refused k (symbols c.1) (Follows LineIs u) (Ends LineIs u) (Again LineIs u)) (sym c.3) (subst (λ r. Refused k r (Follows LineIs st.0) (Ends LineIs st.0) (Again LineIs st.0)) (sym c.4) st.3);
    }

-- ---- bytes that are allowed
allowed_yes : (b : ℕ) → Allowed b → permitted b ≡ true
allowed_yes b (l, h) = grind (arith, nat_tests)

allowed_no : (b : ℕ) → (Allowed b → ⊥) → permitted b ≡ false
allowed_no b n =
    elim (permitted b) as (λ v. permitted b ≡ v → v ≡ false) [
      | true ↦ λ e. absurd (n (grind (arith, nat_tests), grind (arith, nat_tests)))
      | false ↦ λ e. refl
    ] refl

clear_all : (s : List ℕ) → ((i : ℕ) → i < length s → Allowed (get_or s i 0)) → clear s ≡ length s
clear_all s h = prefix_len_is permitted s (length s) 0 (omega arith) (λ k l. allowed_yes _ (h k l)) (λ l. absurd (omega arith))

pub clear_to : (s : List ℕ) (p : ℕ) → p < length s → (Allowed (get_or s p 0) → ⊥) → ((i : ℕ) → i < p → Allowed (get_or s i 0)) → clear s ≡ p
clear_to s p l n h = prefix_len_is permitted s p 0 (omega arith) (λ k q. allowed_yes _ (h k q)) (λ q. allowed_no _ n)

yes_allowed : (b : ℕ) → permitted b ≡ true → Allowed b
yes_allowed b e = (grind (arith, nat_tests), grind (arith, nat_tests))

cleared : (s : List ℕ) → clear s ≡ length s → (i : ℕ) → i < length s → Allowed (get_or s i 0)
cleared s e i l = yes_allowed _ (prefix_len_passes permitted s i 0 (omega arith))

-- ---- the two tests before the tokens
pub clean_answer : (s : List ℕ) → Clean s → answer s ≡ reading s
clean_answer s (short, all) =
    let t : leb (length s) longest ≡ true = grind (arith, nat_tests) in
    let u : eqb (clear s) (length s) ≡ true = let e = clear_all s all in grind (arith, nat_tests) in
    ap (λ v. cond v (short_answer s) (refused Length longest)) t ∙ ap (λ v. cond v (reading s) (refused Byte (clear s))) u

pub long_answer : (s : List ℕ) → longest < length s → answer s ≡ refused Length longest
long_answer s h =
    let t : leb (length s) longest ≡ false = grind (arith, nat_tests) in
    ap (λ v. cond v (short_answer s) (refused Length longest)) t

pub byte_answer : (s : List ℕ) (p : ℕ) → length s ≤ longest → clear s ≡ p → p < length s → answer s ≡ refused Byte p
byte_answer s p short e l =
    let t : leb (length s) longest ≡ true = grind (arith, nat_tests) in
    let u : eqb (clear s) (length s) ≡ false = grind (arith, nat_tests) in
    ap (λ v. cond v (short_answer s) (refused Length longest)) t ∙ ap (λ v. cond v (reading s) (refused Byte (clear s))) u ∙ ap (refused Byte) e

-- ---- the answer by its three tests
pub accepts_at : (s : List ℕ) (l : Line) → LineIs (symbols (lexemes s)) l → reading s ≡ Ok l
accepts_at s l h = ap (answered (lexemes s) (length s)) (reads_line.accepts (symbols (lexemes s)) l h)

pub reading_is : (s : List ℕ) (v : Parsed Line) → line (symbols (lexemes s)) ≡ v → Clean s → Answers s (answered (lexemes s) (length s) v)
reading_is s (got l rest) e c = accepted (lexemes s) l c (has_lexemes s) (lawful_at s l (got l rest) e refl)
reading_is s (bad k rest) e c = stuck k _ c (refuses_at s k _ (bad k rest) e refl)

first_spoilt : (s : List ℕ) → clear s < length s → (Allowed (get_or s (clear s) 0) → ⊥) × ((i : ℕ) → i < clear s → Allowed (get_or s i 0))
first_spoilt s h = (λ a. true_false (allowed_yes _ a) (prefix_len_stops permitted s 0 h), λ i l. yes_allowed _ (prefix_len_passes permitted s i 0 l))

answer_is : (s : List ℕ) (t u : Bool) → leb (length s) longest ≡ t → eqb (clear s) (length s) ≡ u → Answers s (cond t (cond u (reading s) (refused Byte (clear s))) (refused Length longest))
answer_is s true true p q = reading_is s _ refl (let h : length s ≤ longest = grind (arith, nat_tests) in h, cleared s (let h : clear s ≡ length s = grind (arith, nat_tests) in h))
answer_is s true false p q =
    let short : length s ≤ longest = grind (arith, nat_tests) in
    let apart : clear s ≡ length s → ⊥ = λ e. true_false (eq-eqb _ _ e) q in
    let less : clear s < length s = let w : clear s ≤ length s = prefix_len-le-length permitted s in omega (arith, apart) in
    let f = first_spoilt s less in
    spoilt (clear s) (short, less, f.0, f.1)
answer_is s false u p q = too_long (let h : longest < length s = grind (arith, nat_tests) in h)

pub is_an_answer : (s : List ℕ) → Answers s (answer s)
is_an_answer s = answer_is s _ _ refl refl
