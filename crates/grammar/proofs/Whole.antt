-- The parser of lines reads the grammar's lines, no more and no less.
use Rattle.std.proofs.Common.{◌≡◌, ℕ, ◌≤◌, List, [], ◌∷◌, ◌++◌, sym, refl, ap, ◌∙◌, subst, inl, inr, append-nil, arith, Ok}
use Rattle.model.specs.declared.line.Line.{Line}
use Rattle.model.specs.declared.line.Line.TheVariants.{Plain, Setting, While as WhileLine, If as IfLine, EndIf as EndIfLine, EndWhile as EndWhileLine}
use Rattle.grammar.specs.declared.symbol.Keyword.{Keyword}
use Rattle.grammar.specs.declared.symbol.Keyword.TheVariants.{Hash, Equals, G, O, While, If, EndIf, EndWhile}
use Rattle.grammar.specs.declared.symbol.Symbol.{Symbol}
use Rattle.grammar.specs.declared.symbol.Symbol.TheVariants.{Fixed, Digits, Letter}
use Rattle.grammar.specs.declared.symbol.BlockWord.{BlockWord}
use Rattle.grammar.specs.declared.symbol.BlockWord.TheVariants.{While as while, If as if, EndIf as endif, EndWhile as endwhile}
use Rattle.grammar.specs.declared.symbol.LineStart.{LineStart}
use Rattle.grammar.specs.declared.symbol.LineStart.TheVariants.{Setting as setting', Move as move', Block as block'}
use Rattle.grammar.specs.Prefixes.{Lang}
use Rattle.grammar.specs.Grammar.{parameter_of, ValueIs, ConditionIs, LineIs}
use Rattle.grammar.specs.Grammar as is
use Rattle.grammar.proofs.Reading.{bindL, oneL, pure_l, or_moreL, Lines}
use Rattle.grammar.specs.Tests.{digits, only}
use Rattle.grammar.specs.Parser.{setting, block_word, block_rest, block, line_first, line_rest, line}
use Rattle.grammar.specs.Axes.{motion_of, moved}
use Rattle.grammar.proofs.Binds.{lines_bind, lines_same}
use Rattle.grammar.proofs.Ones.{reads_one}
use Rattle.grammar.proofs.Mores.{lines_end, lines_more}
use Rattle.grammar.proofs.Meets.{In, err_ok, upto_in, digits_is, only_is, words_lawful, words_is, words_wrong}
use Rattle.grammar.proofs.Terms.{reads_digits}
use Rattle.grammar.proofs.Values.{reads_only, reads_value, reads_condition}
use Rattle.grammar.proofs.Moves.{moveL, move_lines, move_to, move_from}

-- ---- settings, after the #
abbrev settingL : Lang Line
settingL = bindL (oneL (digits 1 6)) (λ n. bindL (oneL (only Equals)) (λ _. bindL ValueIs (λ v. pure_l (Setting (parameter_of n) v))))

setting_lines : Lines settingL setting
setting_lines = lines_bind _ _ _ _ (reads_digits 1 6 (omega arith)) (λ n. lines_bind _ _ _ _ (reads_only Equals refl) (λ k. lines_bind _ _ _ _ reads_value (λ v. lines_end (Setting (parameter_of n) v) (λ t. refl))))

setting_to : (vs : List Symbol) (b : Line) → settingL vs b → LineIs (Fixed Hash ∷ vs) b
setting_to vs b (us1, ws1, n, e1, (t1, f1, h1), (us2, ws2, k, e2, (t2, f2, h2), (us3, ws3, v, e3, tv, (e4, e5)))) =
    let d = digits_is 1 6 t1 n h1 in
    let last : ws2 ≡ us3 = e3 ∙ ap (λ l. us3 ++ l) e4 ∙ append-nil us3 in
    let row2 : ws1 ≡ Fixed Equals ∷ us3 = e2 ∙ (λ i. f2 i ++ last i) ∙ ap (λ c. c ∷ us3) (only_is Equals t2 k h2) in
    let row1 : vs ≡ Digits n ∷ Fixed Equals ∷ us3 = e1 ∙ (λ i. f1 i ++ row2 i) ∙ ap (λ c. c ∷ Fixed Equals ∷ us3) d.0 in
    subst (λ y. LineIs (Fixed Hash ∷ vs) y) e5 (subst (λ l. LineIs (Fixed Hash ∷ l) (Setting (parameter_of n) v)) (sym row1) (is.setting n d.1 d.2 tv))

-- ---- block lines, after the O
abbrev block_words : List (Keyword × BlockWord)
block_words = (While, while) ∷ (If, if) ∷ (EndIf, endif) ∷ (EndWhile, endwhile) ∷ []

abbrev block_restL : ℕ → BlockWord → Lang Line
block_restL n while = bindL ConditionIs (λ c. pure_l (WhileLine n c))
block_restL n if = bindL ConditionIs (λ c. pure_l (IfLine n c))
block_restL n endif = pure_l (EndIfLine n)
block_restL n endwhile = pure_l (EndWhileLine n)

abbrev blockL : Lang Line
blockL = bindL (oneL (digits 1 9999)) (λ n. bindL (oneL block_word) (block_restL n))

block_rest_lines : (n : ℕ) (w : BlockWord) → Lines (block_restL n w) (block_rest n w)
block_rest_lines n while = lines_bind _ _ _ _ reads_condition (λ c. lines_end (WhileLine n c) (λ t. refl))
block_rest_lines n if = lines_bind _ _ _ _ reads_condition (λ c. lines_end (IfLine n c) (λ t. refl))
block_rest_lines n endif = lines_end (EndIfLine n) (λ t. refl)
block_rest_lines n endwhile = lines_end (EndWhileLine n) (λ t. refl)

block_lines : Lines blockL block
block_lines = lines_bind _ _ _ _ (reads_digits 1 9999 (omega arith)) (λ n. lines_bind _ _ _ _ (reads_one block_word (words_lawful block_words While while refl)) (block_rest_lines n))

-- a block line from its word on
abbrev Blocks : ℕ → Keyword → List Symbol → Line → Type 0
Blocks n u ws b = LineIs (Fixed O ∷ Digits n ∷ Fixed u ∷ ws) b

block_at : (n : ℕ) → 1 ≤ n → n ≤ 9999 → (w : BlockWord) (u : Keyword) → In block_words u w → (ws : List Symbol) (b : Line) → block_restL n w ws b → Blocks n u ws b
block_at n l h w u (inl i) ws b r =
    let q = subst (λ k. block_restL n k ws b) (sym i.1) r in
    let row : ws ≡ q.0 = q.3 ∙ ap (λ x. q.0 ++ x) q.5.0 ∙ append-nil q.0 in
    subst (λ x. Blocks n x ws b) (sym i.0) (subst (λ x. Blocks n While ws x) q.5.1 (subst (λ x. Blocks n While x (WhileLine n q.2)) (sym row) (is.while n l h q.4)))
block_at n l h w u (inr (inl i)) ws b r =
    let q = subst (λ k. block_restL n k ws b) (sym i.1) r in
    let row : ws ≡ q.0 = q.3 ∙ ap (λ x. q.0 ++ x) q.5.0 ∙ append-nil q.0 in
    subst (λ x. Blocks n x ws b) (sym i.0) (subst (λ x. Blocks n If ws x) q.5.1 (subst (λ x. Blocks n If x (IfLine n q.2)) (sym row) (is.if n l h q.4)))
block_at n l h w u (inr (inr (inl i))) ws b r =
    let q = subst (λ k. block_restL n k ws b) (sym i.1) r in
    subst (λ x. Blocks n x ws b) (sym i.0) (subst (λ x. Blocks n EndIf ws x) q.1 (subst (λ x. Blocks n EndIf x (EndIfLine n)) (sym q.0) (is.endif n l h)))
block_at n l h w u (inr (inr (inr (inl i)))) ws b r =
    let q = subst (λ k. block_restL n k ws b) (sym i.1) r in
    subst (λ x. Blocks n x ws b) (sym i.0) (subst (λ x. Blocks n EndWhile ws x) q.1 (subst (λ x. Blocks n EndWhile x (EndWhileLine n)) (sym q.0) (is.endwhile n l h)))
block_at n l h w u (inr (inr (inr (inr i)))) ws b r = absurd i

block_to : (vs : List Symbol) (b : Line) → blockL vs b → LineIs (Fixed O ∷ vs) b
block_to vs b (us1, ws1, n, e1, (t1, f1, h1), (us2, ws2, w, e2, (t2, f2, h2), r)) =
    let d = digits_is 1 9999 t1 n h1 in
    let k = words_is block_words t2 w h2 in
    let row2 : ws1 ≡ Fixed k.0 ∷ ws2 = e2 ∙ ap (λ x. x ++ ws2) f2 ∙ ap (λ c. c ∷ ws2) k.1 in
    let row1 : vs ≡ Digits n ∷ Fixed k.0 ∷ ws2 = e1 ∙ (λ i. f1 i ++ row2 i) ∙ ap (λ c. c ∷ Fixed k.0 ∷ ws2) d.0 in
    subst (λ l. LineIs (Fixed O ∷ l) b) (sym row1) (block_at n d.1 d.2 w k.0 k.2 ws2 b r)

-- ---- lines
abbrev line_words : List (Keyword × LineStart)
line_words = (Hash, setting') ∷ (G, move') ∷ (O, block') ∷ []

abbrev line_restL : LineStart → Lang Line
line_restL setting' = settingL
line_restL move' = moveL
line_restL block' = blockL

abbrev lineL : Lang Line
lineL = or_moreL Plain line_first line_restL

line_rest_lines : (k : LineStart) → Lines (line_restL k) (line_rest k)
line_rest_lines setting' = setting_lines
line_rest_lines move' = move_lines
line_rest_lines block' = block_lines

line_lines : Lines lineL line
line_lines = lines_more Plain line_first line_restL line_rest (λ t k n h. line_rest_lines k) (λ t c e. words_wrong line_words t c e) (λ n k e. err_ok e)

line_at : (k : LineStart) (u : Keyword) → In line_words u k → (vs : List Symbol) (b : Line) → line_restL k vs b → LineIs (Fixed u ∷ vs) b
line_at k u (inl i) vs b r = subst (λ w. LineIs (Fixed w ∷ vs) b) (sym i.0) (setting_to vs b (subst (λ x. line_restL x vs b) (sym i.1) r))
line_at k u (inr (inl i)) vs b r =
    let q = move_to vs b (subst (λ x. line_restL x vs b) (sym i.1) r) in
    subst (λ w. LineIs (Fixed w ∷ vs) b) (sym i.0) (subst (λ x. LineIs (Fixed G ∷ vs) x) q.10 (subst (λ l. LineIs (Fixed G ∷ l) (moved (motion_of q.4) q.3)) (sym q.6) (is.move q.4 q.5 q.7 q.8 q.9)))
line_at k u (inr (inr (inl i))) vs b r = subst (λ w. LineIs (Fixed w ∷ vs) b) (sym i.0) (block_to vs b (subst (λ x. line_restL x vs b) (sym i.1) r))
line_at k u (inr (inr (inr i))) vs b r = absurd i

line_to : (ts : List Symbol) (b : Line) → lineL ts b → LineIs ts b
line_to ts b (inl e) = subst (λ x. LineIs ts x) e.1 (subst (λ x. LineIs x Plain) (sym e.0) is.plain)
line_to ts b (inr (t, vs, k, e, n, h, r)) =
    let d = words_is line_words t k h in
    subst (λ x. LineIs x b) (sym (e ∙ ap (λ c. c ∷ vs) d.1)) (line_at k d.0 d.2 vs b r)

labelled : (n : ℕ) (u : Keyword) (w : BlockWord) (vs : List Symbol) (b : Line) → 1 ≤ n → n ≤ 9999 → block_word (Fixed u) ≡ Ok w → block_restL n w vs b → lineL (Fixed O ∷ Digits n ∷ Fixed u ∷ vs) b
labelled n u w vs b l h e r =
    inr (Fixed O, Digits n ∷ Fixed u ∷ vs, block', refl, refl, refl, (Digits n ∷ [], Fixed u ∷ vs, n, refl, (Digits n, refl, upto_in 1 9999 n (λ m. m) l h), (Fixed u ∷ [], vs, w, refl, (Fixed u, refl, e), r)))

line_from : (ts : List Symbol) (b : Line) → LineIs ts b → lineL ts b
line_from ts b (is.plain) = inl (refl, refl)
line_from ts b (is.setting {vs = vs} {v = v} n l h tv) =
    inr (Fixed Hash, Digits n ∷ Fixed Equals ∷ vs, setting', refl, refl, refl, (Digits n ∷ [], Fixed Equals ∷ vs, n, refl, (Digits n, refl, upto_in 1 6 n (λ m. m) l h), (Fixed Equals ∷ [], vs, Equals, refl, (Fixed Equals, refl, refl), (vs, [], v, sym (append-nil vs), tv, (refl, refl)))))
line_from ts b (is.move {vs = vs} {ts = us} {v = v} {m = m} g a h tv w) = inr (Fixed G, Digits g ∷ Letter a ∷ (vs ++ us), move', refl, refl, refl, move_from vs us v m g a h tv w)
line_from ts b (is.while {cs = cs} {c = c} n l h tc) = labelled n While while cs _ l h refl (cs, [], c, sym (append-nil cs), tc, (refl, refl))
line_from ts b (is.if {cs = cs} {c = c} n l h tc) = labelled n If if cs _ l h refl (cs, [], c, sym (append-nil cs), tc, (refl, refl))
line_from ts b (is.endif n l h) = labelled n EndIf endif [] _ l h refl (refl, refl)
line_from ts b (is.endwhile n l h) = labelled n EndWhile endwhile [] _ l h refl (refl, refl)

pub reads_line : Lines LineIs line
reads_line = lines_same lineL LineIs line line_to line_from line_lines
