-- The parsers of values and conditions read values and conditions.
use Rattle.std.proofs.Common.{◌≡◌, ◌⊎◌, List, [], ◌∷◌, ◌++◌, pos, sym, refl, ap, ◌∙◌, subst, inl, inr, ⊎_elim, append-nil, arith, Ok}
use Rattle.model.specs.declared.expression.Term.TheVariants.{Number}
use Rattle.model.specs.declared.expression.Op.{Op}
use Rattle.model.specs.declared.expression.Op.TheVariants.{Add, Sub, Mul}
use Rattle.model.specs.declared.expression.Value.{Value}
use Rattle.model.specs.declared.expression.Condition.{Condition}
use Rattle.grammar.specs.declared.symbol.Keyword.{Keyword}
use Rattle.grammar.specs.declared.symbol.Keyword.TheVariants.{Open, Close, Plus, Minus, Star}
use Rattle.grammar.specs.declared.symbol.Symbol.{Symbol}
use Rattle.grammar.specs.declared.symbol.Symbol.TheVariants.{Fixed, Relation}
use Rattle.grammar.specs.declared.symbol.TermStart.{TermStart}
use Rattle.grammar.specs.declared.symbol.TermStart.TheVariants.{Whole as whole, Plus as plus, Minus as minus, Hash as hash}
use Rattle.grammar.specs.declared.symbol.ValueStart.{ValueStart}
use Rattle.grammar.specs.declared.symbol.ValueStart.TheVariants.{Opens as opens, Begins as begins}
use Rattle.grammar.specs.Prefixes.{Lang}
use Rattle.grammar.specs.Grammar.{TermIs, OpIs, ValueIs, ConditionIs}
use Rattle.grammar.specs.Grammar as is
use Rattle.grammar.specs.Combinators.{expect}
use Rattle.grammar.proofs.Reading.{Reads, bindL, pure_l, oneL}
use Rattle.grammar.specs.Tests.{choose, only, relation}
use Rattle.grammar.specs.Parser.{term_words, value_words, value_first, value_rest, value, operator, bracket, condition}
use Rattle.grammar.proofs.Binds.{reads_bind}
use Rattle.grammar.proofs.Ones.{reads_same, reads_pure, reads_one}
use Rattle.grammar.proofs.Meets.{In, upto_in, mixed_lawful, mixed_is, words_lawful, words_is, only_is, relation_lawful, relation_is}
use Rattle.grammar.proofs.Terms.{term_restL, term_rest_reads, reads_term, Begins, begun, parts}
use Rattle.model.specs.Limits.{limit}
use Rattle.grammar.specs.Grammar.{bare, applied}

abbrev op_words : List (Keyword × Op)
op_words = (Plus, Add) ∷ (Minus, Sub) ∷ (Star, Mul) ∷ []

abbrev plainL : TermStart → Lang Value
plainL c = bindL (term_restL c) (λ t. pure_l (bare t))

abbrev bracketL : Lang Value
bracketL = bindL TermIs (λ a. bindL (oneL operator) (λ o. bindL TermIs (λ b. bindL (oneL (only Close)) (λ _. pure_l (applied o a b)))))

abbrev value_restL : ValueStart → Lang Value
value_restL opens = bracketL
value_restL (begins c) = plainL c

abbrev valueL : Lang Value
valueL = bindL (oneL value_first) value_restL

pub reads_only : (w : Keyword) → choose ((w, w) ∷ []) w ≡ Ok w → Reads (oneL (only w)) (expect (only w))
reads_only w e = reads_one (only w) (words_lawful ((w, w) ∷ []) w w e)

bracket_reads : Reads bracketL bracket
bracket_reads = reads_bind _ _ _ _ reads_term (λ a. reads_bind _ _ _ _ (reads_one operator (words_lawful op_words Plus Add refl)) (λ o. reads_bind _ _ _ _ reads_term (λ b. reads_bind _ _ _ _ (reads_only Close refl) (λ k. reads_pure (applied o a b)))))

value_rest_reads : (s : ValueStart) → Reads (value_restL s) (value_rest s)
value_rest_reads opens = bracket_reads
value_rest_reads (begins c) = reads_bind _ _ _ _ (term_rest_reads c) (λ t. reads_pure (bare t))

value_reads : Reads valueL value
value_reads = reads_bind _ _ _ _ (reads_one value_first (mixed_lawful value_words 0 limit (λ n. begins (whole (Number (pos n)))) (omega arith))) value_rest_reads

-- ---- from the language to the grammar
op_word : (u : Keyword) (o : Op) → In op_words u o → OpIs (Fixed u) o
op_word u o (inl i) = subst (λ p. OpIs (Fixed u) p) i.1 (subst (λ w. OpIs (Fixed w) Add) (sym i.0) is.add)
op_word u o (inr (inl i)) = subst (λ p. OpIs (Fixed u) p) i.1 (subst (λ w. OpIs (Fixed w) Sub) (sym i.0) is.sub)
op_word u o (inr (inr (inl i))) = subst (λ p. OpIs (Fixed u) p) i.1 (subst (λ w. OpIs (Fixed w) Mul) (sym i.0) is.mul)
op_word u o (inr (inr (inr i))) = absurd i

op_is : (t : Symbol) (o : Op) → operator t ≡ Ok o → OpIs t o
op_is t o e = let d = words_is op_words t o e in subst (λ s. OpIs s o) (sym d.1) (op_word d.0 o d.2)

bracket_to : (vs : List Symbol) (x : Value) → bracketL vs x → ValueIs (Fixed Open ∷ vs) x
bracket_to vs x (us, ws, a, e, ta, (us1, ws1, o, e1, (t, f1, h1), (us2, ws2, b, e2, tb, (us3, ws3, k, e3, (t3, f3, h3), (e4, e5))))) =
    let close : ws2 ≡ Fixed Close ∷ [] = e3 ∙ (λ i. f3 i ++ e4 i) ∙ ap (λ c. c ∷ []) (only_is Close t3 k h3) in
    let row : vs ≡ us ++ t ∷ (us2 ++ Fixed Close ∷ []) = e ∙ ap (λ l. us ++ l) (e1 ∙ (λ i. f1 i ++ e2 i) ∙ ap (λ l. t ∷ (us2 ++ l)) close) in
    subst (λ y. ValueIs (Fixed Open ∷ vs) y) e5 (subst (λ l. ValueIs (Fixed Open ∷ l) (applied o a b)) (sym row) (is.op ta (op_is t o h1) tb))

plain_to : (t : Symbol) (c : TermStart) (vs : List Symbol) (x : Value) → Begins t c → plainL c vs x → ValueIs (t ∷ vs) x
plain_to t c vs x h (us, ws, a, e, r, (e2, e3)) =
    subst (λ y. ValueIs (t ∷ vs) y) e3 (subst (λ l. ValueIs (t ∷ l) (bare a)) (sym (e ∙ ap (λ l. us ++ l) e2 ∙ append-nil us)) (is.term (begun t c us a h r)))

-- a token that begins a value opens a bracket or begins a term
starts_word : (u : Keyword) (s : ValueStart) → In value_words u s → ((u ≡ Open) × (opens ≡ s)) ⊎ ((c : TermStart) × (begins c ≡ s) × In term_words u c)
starts_word u s (inl i) = inl i
starts_word u s (inr (inl i)) = inr (hash, i.1, inl (i.0, refl))
starts_word u s (inr (inr (inl i))) = inr (plus, i.1, inr (inl (i.0, refl)))
starts_word u s (inr (inr (inr (inl i)))) = inr (minus, i.1, inr (inr (inl (i.0, refl))))
starts_word u s (inr (inr (inr (inr i)))) = absurd i

starts : (t : Symbol) (s : ValueStart) → value_first t ≡ Ok s → ((t ≡ Fixed Open) × (opens ≡ s)) ⊎ ((c : TermStart) × (begins c ≡ s) × Begins t c)
starts t s e =
    ⊎_elim
    (λ w. ⊎_elim (λ i. inl (w.1 ∙ ap Fixed i.0, i.1)) (λ i. inr (i.0, i.1, inl (w.0, w.1, i.2))) (starts_word w.0 s w.2))
    (λ d. inr (whole (Number (pos d.0)), d.4, inr (d.0, d.1, d.2, d.3, refl)))
    (mixed_is value_words 0 limit (λ n. begins (whole (Number (pos n)))) t s e)

value_to : (ts : List Symbol) (x : Value) → valueL ts x → ValueIs ts x
value_to ts x (us, vs, s, e, (t, e1, h), r) =
    subst (λ l. ValueIs l x) (sym (e ∙ ap (λ l. l ++ vs) e1))
    (⊎_elim
    (λ i. subst (λ u. ValueIs (u ∷ vs) x) (sym i.0) (bracket_to vs x (subst (λ d. value_restL d vs x) (sym i.1) r)))
    (λ i. plain_to t i.0 vs x i.2 (subst (λ d. value_restL d vs x) (sym i.1) r))
    (starts t s h))

-- ---- and back
word_starts : (u : Keyword) (c : TermStart) → In term_words u c → value_first (Fixed u) ≡ Ok (begins c)
word_starts u c (inl i) = ap (λ w. value_first (Fixed w)) i.0 ∙ ap (λ d. Ok (begins d)) i.1
word_starts u c (inr (inl i)) = ap (λ w. value_first (Fixed w)) i.0 ∙ ap (λ d. Ok (begins d)) i.1
word_starts u c (inr (inr (inl i))) = ap (λ w. value_first (Fixed w)) i.0 ∙ ap (λ d. Ok (begins d)) i.1
word_starts u c (inr (inr (inr i))) = absurd i

begins_starts : (t : Symbol) (c : TermStart) → Begins t c → value_first t ≡ Ok (begins c)
begins_starts t c (inl (u, e, i)) = ap value_first e ∙ word_starts u c i
begins_starts t c (inr (n, e, l, h, i)) = ap value_first e ∙ upto_in 0 limit n (λ k. begins (whole (Number (pos k)))) l h ∙ ap (λ d. Ok (begins d)) i

op_from : (t : Symbol) (o : Op) → OpIs t o → operator t ≡ Ok o
op_from t o is.add = refl
op_from t o is.sub = refl
op_from t o is.mul = refl

value_from : (ts : List Symbol) (x : Value) → ValueIs ts x → valueL ts x
value_from ts x (is.term {ts = us} {t = t} h) =
    let p = parts us t h in
    (p.0 ∷ [], p.1, begins p.2, p.3, (p.0, refl, begins_starts p.0 p.2 p.4), (p.1, [], t, sym (append-nil p.1), p.5, (refl, refl)))
value_from ts x (is.op {xs = xs} {ys = ys} {a = a} {b = b} {c = c} {o = o} ta co tb) =
    (Fixed Open ∷ [], xs ++ c ∷ (ys ++ Fixed Close ∷ []), opens, refl, (Fixed Open, refl, refl), (xs, c ∷ (ys ++ Fixed Close ∷ []), a, refl, ta, (c ∷ [], ys ++ Fixed Close ∷ [], o, refl, (c, refl, op_from c o co), (ys, Fixed Close ∷ [], b, refl, tb, (Fixed Close ∷ [], [], Close, refl, (Fixed Close, refl, refl), (refl, refl))))))

pub reads_value : Reads ValueIs value
reads_value = reads_same valueL ValueIs value value_to value_from value_reads

-- ---- conditions
abbrev conditionL : Lang Condition
conditionL = bindL (oneL (only Open)) (λ _. bindL TermIs (λ a. bindL (oneL relation) (λ r. bindL TermIs (λ b. bindL (oneL (only Close)) (λ _. pure_l (record { rel = r; left = a; right = b }))))))

condition_reads : Reads conditionL condition
condition_reads = reads_bind _ _ _ _ (reads_only Open refl) (λ o. reads_bind _ _ _ _ reads_term (λ a. reads_bind _ _ _ _ (reads_one relation relation_lawful) (λ r. reads_bind _ _ _ _ reads_term (λ b. reads_bind _ _ _ _ (reads_only Close refl) (λ k. reads_pure (record { rel = r; left = a; right = b }))))))

condition_to : (ts : List Symbol) (x : Condition) → conditionL ts x → ConditionIs ts x
condition_to ts x (vs0, vs, w, e0, (t0, f0, h0), (us, ws, a, e, ta, (us1, ws1, r, e1, (t, f1, h1), (us2, ws2, b, e2, tb, (us3, ws3, k, e3, (t3, f3, h3), (e4, e5)))))) =
    let close : ws2 ≡ Fixed Close ∷ [] = e3 ∙ (λ i. f3 i ++ e4 i) ∙ ap (λ c. c ∷ []) (only_is Close t3 k h3) in
    let mid : ws ≡ Relation r ∷ (us2 ++ Fixed Close ∷ []) = e1 ∙ (λ i. f1 i ++ e2 i) ∙ ap (λ l. t ∷ (us2 ++ l)) close ∙ ap (λ c. c ∷ (us2 ++ Fixed Close ∷ [])) (relation_is t r h1) in
    let row : ts ≡ Fixed Open ∷ (us ++ Relation r ∷ (us2 ++ Fixed Close ∷ [])) = e0 ∙ (λ i. f0 i ++ e i) ∙ ap (λ l. t0 ∷ (us ++ l)) mid ∙ ap (λ c. c ∷ (us ++ Relation r ∷ (us2 ++ Fixed Close ∷ []))) (only_is Open t0 w h0) in
    subst (λ y. ConditionIs ts y) e5 (subst (λ l. ConditionIs l (record { rel = r; left = a; right = b })) (sym row) (is.condition r ta tb))

condition_from : (ts : List Symbol) (x : Condition) → ConditionIs ts x → conditionL ts x
condition_from ts x (is.condition {xs = xs} {ys = ys} {a = a} {b = b} r ta tb) =
    (Fixed Open ∷ [], xs ++ Relation r ∷ (ys ++ Fixed Close ∷ []), Open, refl, (Fixed Open, refl, refl), (xs, Relation r ∷ (ys ++ Fixed Close ∷ []), a, refl, ta, (Relation r ∷ [], ys ++ Fixed Close ∷ [], r, refl, (Relation r, refl, refl), (ys, Fixed Close ∷ [], b, refl, tb, (Fixed Close ∷ [], [], Close, refl, (Fixed Close, refl, refl), (refl, refl))))))

pub reads_condition : Reads ConditionIs condition
reads_condition = reads_same conditionL ConditionIs condition condition_to condition_from condition_reads
