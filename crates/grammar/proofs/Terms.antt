-- The parser of terms reads terms.
use Rattle.std.proofs.Common.{◌≡◌, ℕ, ◌≤◌, ◌⊎◌, List, [], ◌∷◌, ◌++◌, pos, neg_ℤ, sym, refl, ap, ◌∙◌, subst, inl, inr, arith, Ok}
use Rattle.model.specs.declared.expression.Term.{Term}
use Rattle.model.specs.declared.expression.Term.TheVariants.{Number, Parameter as Held}
use Rattle.grammar.specs.declared.symbol.Keyword.{Keyword}
use Rattle.grammar.specs.declared.symbol.Keyword.TheVariants.{Hash, Plus, Minus}
use Rattle.grammar.specs.declared.symbol.Symbol.{Symbol}
use Rattle.grammar.specs.declared.symbol.Symbol.TheVariants.{Fixed, Digits}
use Rattle.grammar.specs.declared.symbol.TermStart.{TermStart}
use Rattle.grammar.specs.declared.symbol.TermStart.TheVariants.{Whole as whole, Plus as plus, Minus as minus, Hash as hash}
use Rattle.grammar.specs.Prefixes.{Lang}
use Rattle.grammar.specs.Grammar.{parameter_of, TermIs}
use Rattle.grammar.specs.Grammar as is
use Rattle.grammar.specs.Combinators.{bind, pure, expect}
use Rattle.grammar.proofs.Reading.{Reads, bindL, pure_l, oneL}
use Rattle.grammar.specs.Tests.{digits}
use Rattle.grammar.specs.Parser.{term_words, term_first, term_rest, term}
use Rattle.grammar.proofs.Binds.{reads_bind}
use Rattle.grammar.proofs.Ones.{reads_same, reads_pure, reads_one}
use Rattle.grammar.proofs.Meets.{In, upto_in, mixed_lawful, mixed_is, digits_is}
use Rattle.model.specs.Limits.{limit}

abbrev pub term_restL : TermStart → Lang Term
term_restL (whole t) = pure_l t
term_restL plus = bindL (oneL (digits 0 limit)) (λ n. pure_l (Number (pos n)))
term_restL minus = bindL (oneL (digits 0 limit)) (λ n. pure_l (Number (neg_ℤ (pos n))))
term_restL hash = bindL (oneL (digits 1 6)) (λ n. pure_l (Held (parameter_of n)))

abbrev termL : Lang Term
termL = bindL (oneL term_first) term_restL

pub reads_digits : (lo hi : ℕ) → lo ≤ hi → Reads (oneL (digits lo hi)) (expect (digits lo hi))
reads_digits lo hi h = reads_one (digits lo hi) (mixed_lawful [] lo hi (λ n. n) h)

digits_then : {A : Type 0} (lo hi : ℕ) → lo ≤ hi → (f : ℕ → A) → Reads (bindL (oneL (digits lo hi)) (λ n. pure_l (f n))) (bind (expect (digits lo hi)) (λ n. pure (f n)))
digits_then lo hi h f = reads_bind _ _ _ _ (reads_digits lo hi h) (λ n. reads_pure (f n))

pub term_rest_reads : (c : TermStart) → Reads (term_restL c) (term_rest c)
term_rest_reads (whole t) = reads_pure t
term_rest_reads plus = digits_then 0 limit (omega arith) (λ n. Number (pos n))
term_rest_reads minus = digits_then 0 limit (omega arith) (λ n. Number (neg_ℤ (pos n)))
term_rest_reads hash = digits_then 1 6 (omega arith) (λ n. Held (parameter_of n))

term_reads : Reads termL term
term_reads = reads_bind _ _ _ _ (reads_one term_first (mixed_lawful term_words 0 limit (λ n. whole (Number (pos n))) (omega arith))) term_rest_reads

-- ---- from the language to the grammar
after_digits : {A : Type 0} (lo hi : ℕ) (f : ℕ → A) (vs : List Symbol) (x : A) → bindL (oneL (digits lo hi)) (λ n. pure_l (f n)) vs x → (n : ℕ) × (vs ≡ Digits n ∷ []) × (lo ≤ n) × (n ≤ hi) × (f n ≡ x)
after_digits lo hi f vs x (us, ws, n, e, (t, e1, h), (e2, e3)) =
    let d = digits_is lo hi t n h in
    (n, e ∙ (λ i. e1 i ++ e2 i) ∙ ap (λ s. s ∷ []) d.0, d.1, d.2, e3)

moved : (t : Symbol) (us vs : List Symbol) (a x : Term) → vs ≡ us → a ≡ x → TermIs (t ∷ us) a → TermIs (t ∷ vs) x
moved t us vs a x e f h = subst (λ y. TermIs (t ∷ vs) y) f (subst (λ l. TermIs (t ∷ l) a) (sym e) h)

hash_to : (vs : List Symbol) (x : Term) → term_restL hash vs x → TermIs (Fixed Hash ∷ vs) x
hash_to vs x r = let d = after_digits 1 6 (λ n. Held (parameter_of n)) vs x r in moved (Fixed Hash) _ vs _ x d.1 d.4 (is.parameter d.0 d.2 d.3)

plus_to : (vs : List Symbol) (x : Term) → term_restL plus vs x → TermIs (Fixed Plus ∷ vs) x
plus_to vs x r = let d = after_digits 0 limit (λ n. Number (pos n)) vs x r in moved (Fixed Plus) _ vs _ x d.1 d.4 (is.plus d.0 d.3)

minus_to : (vs : List Symbol) (x : Term) → term_restL minus vs x → TermIs (Fixed Minus ∷ vs) x
minus_to vs x r = let d = after_digits 0 limit (λ n. Number (neg_ℤ (pos n))) vs x r in moved (Fixed Minus) _ vs _ x d.1 d.4 (is.minus d.0 d.3)

word_to : (u : Keyword) (c : TermStart) (vs : List Symbol) (x : Term) → In term_words u c → term_restL c vs x → TermIs (Fixed u ∷ vs) x
word_to u c vs x (inl i) r = subst (λ w. TermIs (Fixed w ∷ vs) x) (sym i.0) (hash_to vs x (subst (λ d. term_restL d vs x) (sym i.1) r))
word_to u c vs x (inr (inl i)) r = subst (λ w. TermIs (Fixed w ∷ vs) x) (sym i.0) (plus_to vs x (subst (λ d. term_restL d vs x) (sym i.1) r))
word_to u c vs x (inr (inr (inl i))) r = subst (λ w. TermIs (Fixed w ∷ vs) x) (sym i.0) (minus_to vs x (subst (λ d. term_restL d vs x) (sym i.1) r))
word_to u c vs x (inr (inr (inr i))) r = absurd i

-- the token t begins a term, as c
abbrev pub Begins : Symbol → TermStart → Type 0
Begins t c = ((u : Keyword) × (t ≡ Fixed u) × In term_words u c) ⊎ ((n : ℕ) × (t ≡ Digits n) × (0 ≤ n) × (n ≤ limit) × (whole (Number (pos n)) ≡ c))

pub begun : (t : Symbol) (c : TermStart) (vs : List Symbol) (x : Term) → Begins t c → term_restL c vs x → TermIs (t ∷ vs) x
begun t c vs x (inl (u, e, i)) r = subst (λ s. TermIs (s ∷ vs) x) (sym e) (word_to u c vs x i r)
begun t c vs x (inr (n, e, l, h, i)) r =
    let q = subst (λ d. term_restL d vs x) (sym i) r in
    subst (λ s. TermIs (s ∷ vs) x) (sym e) (moved (Digits n) [] vs _ x q.0 q.1 (is.number n h))

term_to : (ts : List Symbol) (x : Term) → termL ts x → TermIs ts x
term_to ts x (us, vs, c, e, (t, e1, h), r) = subst (λ l. TermIs l x) (sym (e ∙ ap (λ l. l ++ vs) e1)) (begun t c vs x (mixed_is term_words 0 limit (λ n. whole (Number (pos n))) t c h) r)

-- ---- and back
digits_row : {A : Type 0} (lo hi : ℕ) (f : ℕ → A) (n : ℕ) → lo ≤ n → n ≤ hi → bindL (oneL (digits lo hi)) (λ n. pure_l (f n)) (Digits n ∷ []) (f n)
digits_row lo hi f n l h = (Digits n ∷ [], [], n, refl, (Digits n, refl, upto_in lo hi n (λ m. m) l h), (refl, refl))

-- a term is a token that begins one and the rest of it
pub parts : (ts : List Symbol) (x : Term) → TermIs ts x → (t : Symbol) × (vs : List Symbol) × (c : TermStart) × (ts ≡ t ∷ vs) × Begins t c × term_restL c vs x
parts ts x (is.number n h) = (Digits n, [], whole (Number (pos n)), refl, inr (n, refl, omega arith, h, refl), (refl, refl))
parts ts x (is.plus n h) = (Fixed Plus, Digits n ∷ [], plus, refl, inl (Plus, refl, inr (inl (refl, refl))), digits_row 0 limit (λ n. Number (pos n)) n (omega arith) h)
parts ts x (is.minus n h) = (Fixed Minus, Digits n ∷ [], minus, refl, inl (Minus, refl, inr (inr (inl (refl, refl)))), digits_row 0 limit (λ n. Number (neg_ℤ (pos n))) n (omega arith) h)
parts ts x (is.parameter n l h) = (Fixed Hash, Digits n ∷ [], hash, refl, inl (Hash, refl, inl (refl, refl)), digits_row 1 6 (λ n. Held (parameter_of n)) n l h)

word_fits : (u : Keyword) (c : TermStart) → In term_words u c → term_first (Fixed u) ≡ Ok c
word_fits u c (inl i) = ap (λ w. term_first (Fixed w)) i.0 ∙ ap Ok i.1
word_fits u c (inr (inl i)) = ap (λ w. term_first (Fixed w)) i.0 ∙ ap Ok i.1
word_fits u c (inr (inr (inl i))) = ap (λ w. term_first (Fixed w)) i.0 ∙ ap Ok i.1
word_fits u c (inr (inr (inr i))) = absurd i

begins_fits : (t : Symbol) (c : TermStart) → Begins t c → term_first t ≡ Ok c
begins_fits t c (inl (u, e, i)) = ap term_first e ∙ word_fits u c i
begins_fits t c (inr (n, e, l, h, i)) = ap term_first e ∙ upto_in 0 limit n (λ n. whole (Number (pos n))) l h ∙ ap Ok i

term_from : (ts : List Symbol) (x : Term) → TermIs ts x → termL ts x
term_from ts x h = let p = parts ts x h in (p.0 ∷ [], p.1, p.2, p.3, (p.0, refl, begins_fits p.0 p.2 p.4), p.5)

pub reads_term : Reads TermIs term
reads_term = reads_same termL TermIs term term_to term_from term_reads
