-- A text has one answer only: no two refusals fit it, and none fits a line.
use Rattle.std.proofs.Common.{◌≡◌, ℕ, false, ◌⊎◌, List, [], ◌∷◌, ◌++◌, length, sym, refl, ap, ◌∙◌, subst, inl, inr, ⊎_elim, append_assoc, append-nil, Result}
use Rattle.std.proofs.lemmas.List.{map-append}
use Rattle.lexer.specs.Lexemes.{Lexeme, lexemes}
use Rattle.lexer.proofs.Lexemes.{only_lexemes}
use Rattle.model.specs.declared.line.Line.{Line}
use Rattle.model.specs.declared.line.Line.TheVariants.{Plain, Setting, Move, While, If, EndIf, EndWhile}
use Rattle.grammar.specs.declared.symbol.Symbol.{Symbol}
use Rattle.grammar.specs.declared.symbol.Symbol.TheVariants.{Fixed, Digits, Long, Letter, Relation, Unknown}
use Rattle.grammar.specs.Axes.{names}
use Rattle.grammar.specs.declared.refusal.Cause.{Cause}
use Rattle.grammar.specs.declared.refusal.Refusal.{Refusal}
use Rattle.grammar.specs.Causes.{refused}
use Rattle.grammar.specs.Prefixes.{Viable, Follows, Ends, IsDigits, Refused, Again, CauseAt}
use Rattle.grammar.specs.Combinators.{Parsed, got, bad}
use Rattle.grammar.specs.Grammar.{LineIs}
use Rattle.grammar.specs.Parser.{line}
use Rattle.grammar.specs.Symbols.{symbol_of, symbols}
use Rattle.grammar.specs.Answer.{front, answered, answer}
use Rattle.grammar.specs.Law.{RefusedAt, Answers, too_long, spoilt, accepted, stuck, TheAnswer}
use Rattle.grammar.proofs.Mores.{true_false}
use Rattle.grammar.proofs.Texts.{long_answer, byte_answer, clean_answer, clear_to, accepts_at, lawful_at, refuses_at, is_an_answer}

-- no line names digits
digits_unnamed : (l : Line) (t : Symbol) → IsDigits t → names l t ≡ false
digits_unnamed Plain t d = refl
digits_unnamed (Setting p v) t d = refl
digits_unnamed (Move g x y z u) (Fixed w) d = absurd d
digits_unnamed (Move g x y z u) (Digits n) d = refl
digits_unnamed (Move g x y z u) Long d = refl
digits_unnamed (Move g x y z u) (Letter a) d = absurd d
digits_unnamed (Move g x y z u) (Relation r) d = absurd d
digits_unnamed (Move g x y z u) Unknown d = absurd d
digits_unnamed (While n c) t d = refl
digits_unnamed (If n c) t d = refl
digits_unnamed (EndIf n) t d = refl
digits_unnamed (EndWhile n) t d = refl

-- the three causes shut each other out
one_cause : (k j : Cause) (t : Symbol) (F N : Symbol → Type 0) → (N t → IsDigits t → ⊥) → CauseAt k t F N → CauseAt j t F N → k ≡ j
one_cause k j t F N apart (inl a) (inl b) = a.0 ∙ sym b.0
one_cause k j t F N apart (inl a) (inr (inl b)) = absurd (apart a.1 b.1.0)
one_cause k j t F N apart (inl a) (inr (inr b)) = absurd (b.2 a.1)
one_cause k j t F N apart (inr (inl a)) (inl b) = absurd (apart b.1 a.1.0)
one_cause k j t F N apart (inr (inl a)) (inr (inl b)) = a.0 ∙ sym b.0
one_cause k j t F N apart (inr (inl a)) (inr (inr b)) = absurd (b.1 a.1)
one_cause k j t F N apart (inr (inr a)) (inl b) = absurd (a.2 b.1)
one_cause k j t F N apart (inr (inr a)) (inr (inl b)) = absurd (a.1 b.1)
one_cause k j t F N apart (inr (inr a)) (inr (inr b)) = a.0 ∙ sym b.0

named_apart : (us : List Symbol) (t : Symbol) → Again LineIs us t → IsDigits t → ⊥
named_apart us t (l, is, n) d = true_false n (digits_unnamed l t d)

same_cause : (k j : Cause) (us ws : List Symbol) → Refused k ws (Follows LineIs us) (Ends LineIs us) (Again LineIs us) → Refused j ws (Follows LineIs us) (Ends LineIs us) (Again LineIs us) → k ≡ j
same_cause k j us [] a b = a.0 ∙ sym b.0
same_cause k j us (t ∷ ws) a b = one_cause k j t (Follows LineIs us) (Again LineIs us) (named_apart us t) a.1 b.1

-- ys is xs and at least one more
Longer : List Lexeme → List Lexeme → List Lexeme → Type 0
Longer xs ws ys = (w : Lexeme) × (ms : List Lexeme) × (rest : List Lexeme) × (ys ≡ xs ++ w ∷ ms) × (ws ≡ w ∷ rest)

-- two cuts of one list are the same, or one lies before the other
two_cuts : (us ws vs zs : List Lexeme) → us ++ ws ≡ vs ++ zs → ((us ≡ vs) × (ws ≡ zs)) ⊎ (Longer us ws vs ⊎ Longer vs zs us)
unfolding Longer
two_cuts [] ws [] zs e = inl (refl, e)
two_cuts [] ws (v ∷ vs) zs e = inr (inl (v, vs, vs ++ zs, refl, e))
two_cuts (u ∷ us) ws [] zs e = inr (inr (u, us, us ++ ws, refl, sym e))
two_cuts (u ∷ us) ws (v ∷ vs) zs e =
    let h : u ≡ v = cc in
    let r : us ++ ws ≡ vs ++ zs = cc in
    ⊎_elim (λ s. inl ((λ i. h i ∷ s.0 i), s.1))
    (⊎_elim (λ s. inr (inl (s.0, s.1, s.2, (λ i. sym h i ∷ s.3 i), s.4))) (λ s. inr (inr (s.0, s.1, s.2, (λ i. h i ∷ s.3 i), s.4))))
    (two_cuts us ws vs zs r)

-- what is refused behind us does not begin a line that goes further
not_longer : (k : Cause) (us ws vs : List Lexeme) → Refused k (symbols ws) (Follows LineIs (symbols us)) (Ends LineIs (symbols us)) (Again LineIs (symbols us)) → Viable LineIs (symbols vs) → Longer us ws vs → ⊥
unfolding Longer
not_longer k us ws vs r (xs, l, is) (w, ms, rest, e, f) =
    let row : symbols vs ++ xs ≡ symbols us ++ symbol_of w.bytes ∷ (symbols ms ++ xs) = ap (λ y. symbols y ++ xs) e ∙ ap (λ y. y ++ xs) (map-append (λ (t : Lexeme). symbol_of t.bytes) us (w ∷ ms)) ∙ append_assoc (symbols us) (symbol_of w.bytes ∷ symbols ms) xs in
    (subst (λ y. Refused k (symbols y) (Follows LineIs (symbols us)) (Ends LineIs (symbols us)) (Again LineIs (symbols us))) f r).0 (symbols ms ++ xs, l, subst (λ y. LineIs y l) row is)

one_refusal : (s : List ℕ) (k j : Cause) (p q : ℕ) → RefusedAt s k p → RefusedAt s j q → (k ≡ j) × (p ≡ q)
one_refusal s k j p q a b =
    ⊎_elim
    (λ e.
    let moved = subst (λ y. Refused j (symbols a.ws) (Follows LineIs (symbols y)) (Ends LineIs (symbols y)) (Again LineIs (symbols y))) (sym e.0) (subst (λ y. Refused j (symbols y) (Follows LineIs (symbols b.us)) (Ends LineIs (symbols b.us)) (Again LineIs (symbols b.us))) (sym e.1) b.cause) in
    (same_cause k j (symbols a.us) (symbols a.ws) a.cause moved, a.place ∙ ap (λ y. front y (length s)) e.1 ∙ sym b.place))
    (⊎_elim (λ e. absurd (not_longer k a.us a.ws b.us a.cause b.viable e)) (λ e. absurd (not_longer j b.us b.ws a.us b.cause a.viable e)))
    (two_cuts a.us a.ws b.us b.ws (only_lexemes s (a.us ++ a.ws) a.tokens ∙ sym (only_lexemes s (b.us ++ b.ws) b.tokens)))

-- a line is refused nowhere
no_line : (s : List ℕ) (k : Cause) (p : ℕ) (l : Line) → RefusedAt s k p → LineIs (symbols (lexemes s)) l → ⊥
no_line s k p l a is = go a.ws a.cause (subst (λ y. LineIs y l) (ap symbols (sym (only_lexemes s (a.us ++ a.ws) a.tokens)) ∙ map-append (λ (t : Lexeme). symbol_of t.bytes) a.us a.ws) is)
  where
    go : (ws : List Lexeme) → Refused k (symbols ws) (Follows LineIs (symbols a.us)) (Ends LineIs (symbols a.us)) (Again LineIs (symbols a.us)) → LineIs (symbols a.us ++ symbols ws) l → ⊥
    go [] r h = r.1 (l, subst (λ y. LineIs y l) (append-nil (symbols a.us)) h)
    go (w ∷ ws) r h = r.0 (symbols ws, l, h)

stuck_at : (s : List ℕ) (k : Cause) (p : ℕ) (v : Parsed Line) → line (symbols (lexemes s)) ≡ v → RefusedAt s k p → refused k p ≡ answered (lexemes s) (length s) v
stuck_at s k p (got l rest) e a = absurd (no_line s k p l a (lawful_at s l (got l rest) e refl))
stuck_at s k p (bad j rest) e a =
    let o = one_refusal s k j p _ a (refuses_at s j _ (bad j rest) e refl) in
    λ i. refused (o.0 i) (o.1 i)

one_answer : (s : List ℕ) (r : Result Line Refusal) → Answers s r → r ≡ answer s
one_answer s r (too_long h) = sym (long_answer s h)
one_answer s r (spoilt p h) = sym (byte_answer s p h.0 (clear_to s p h.1 h.2 h.3) h.1)
one_answer s r (accepted ts l c t h) = sym (clean_answer s c ∙ accepts_at s l (subst (λ x. LineIs (symbols x) l) (only_lexemes s ts t) h))
one_answer s r (stuck k p c a) = stuck_at s k p _ refl a ∙ sym (clean_answer s c)

pub the_answer : (s : List ℕ) → TheAnswer s (answer s)
the_answer s = record { is = is_an_answer s; only = one_answer s }
