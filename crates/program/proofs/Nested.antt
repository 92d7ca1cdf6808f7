-- Lines that were taken one by one are nested, and no label is used twice; with no block open they are closed.
use Rattle.std.proofs.Common.{◌≡◌, ℕ, zero, suc, ◌+◌, Bool, true, false, cond, ◌&&◌, eqb, leb, ◌⊎◌, List, [], ◌∷◌, ◌++◌, length, is_some, is_ok, Some, Ok, Err, sym, refl, ap, ◌∙◌, subst, inl, inr, true≢false, append_assoc, append-nil, arith}
use Rattle.std.proofs.lemmas.Bool.{and_parts, eqb-true, eq-eqb}
use Rattle.model.specs.declared.block.BlockKind.{BlockKind}
use Rattle.model.specs.declared.block.BlockKind.TheVariants.{While, If}
use Rattle.model.specs.declared.block.Role.{Role}
use Rattle.model.specs.declared.block.Role.TheVariants.{Opens, Ends, Neither}
use Rattle.model.specs.declared.line.Line.{Line}
use Rattle.model.specs.Blocks.{Stack, role_of, past, open_blocks, is_empty, closed, label_before, labels, place_from}
use Rattle.model.specs.Programs.{Stands, opening, Once, Innermost, Fits, Leads, Closed}
use Rattle.model.proofs.Standing.{stands_later, some_one, none_some}
use Rattle.program.specs.declared.refusal.TableRefusal.{TableRefusal}
use Rattle.program.specs.declared.refusal.TableRefusal.TheVariants.{Lines, Label, Blocks, End}
use Rattle.program.specs.Limits.{max_lines, max_blocks}
use Rattle.program.specs.Refusals.{same_kind, fits, role_answer, push_answer, all_taken}
use Rattle.program.proofs.Readings.{open_more}
use Rattle.grammar.proofs.Mores.{true_false}

-- ---- one line more
leads_more : (os us : Stack) (xs : List Line) (x : Line) → Leads os xs us → Fits us (role_of x) → Leads os (xs ++ (x ∷ [])) (past us (role_of x))
leads_more os us [] x h f = (subst (λ (bs : Stack). Fits bs (role_of x)) (sym h) f, ap (λ (bs : Stack). past bs (role_of x)) h)
leads_more os us (y ∷ ys) x h f = (h.0, leads_more (past os (role_of y)) us ys x h.1 f)

-- a line of the longer program is the last, or one of the shorter
stands_more : (xs : List Line) (x y : Line) (i : ℕ) → Stands (xs ++ (x ∷ [])) i y → Stands xs i y ⊎ ((i ≡ length xs) × (x ≡ y))
stands_more [] x y zero st = inr (refl, st.is)
stands_more [] x y (suc i) st = absurd (let k = st.inner in omega arith)
stands_more (z ∷ zs) x y zero st = inl (record { inner = omega arith; is = st.is })
stands_more (z ∷ zs) x y (suc i) st = elim (stands_more zs x y i (record { inner = let k = st.inner in omega arith; is = st.is })) [
  | inl s ↦ inl (stands_later s)
  | inr e ↦ inr (ap suc e.0, e.1)
]

-- ---- labels
there_by : (n m l : ℕ) (ms : List ℕ) (t : Bool) → is_some (place_from (n + 1) ms l) ≡ true → is_some (cond t (Some n) (place_from (n + 1) ms l)) ≡ true
there_by n m l ms true h = refl
there_by n m l ms false h = h

first_label : (n l : ℕ) (ls : List ℕ) → is_some (place_from n (l ∷ ls) l) ≡ true
first_label n l ls = ap (λ (t : Bool). is_some (cond t (Some n) (place_from (n + 1) ls l))) (eq-eqb l l refl)

had_first : (n l : ℕ) (r : Role) (ls : List ℕ) → opening r ≡ Some l → is_some (place_from n (label_before r ls) l) ≡ true
had_first n l (Opens k m c) ls e = subst (λ (j : ℕ). is_some (place_from n (m ∷ ls) j) ≡ true) (some_one e) (first_label n m ls)
had_first n l (Ends k m) ls e = absurd (none_some e)
had_first n l Neither ls e = absurd (none_some e)

had_later : (n l : ℕ) (r : Role) (ls : List ℕ) → ((m : ℕ) → is_some (place_from m ls l) ≡ true) → is_some (place_from n (label_before r ls) l) ≡ true
had_later n l (Opens k m c) ls h = there_by n m l ls (eqb m l) (h (n + 1))
had_later n l (Ends k m) ls h = h n
had_later n l Neither ls h = h n

-- a label that a line opens is among the labels
had : (xs : List Line) (i l : ℕ) (x : Line) → Stands xs i x → opening (role_of x) ≡ Some l → (n : ℕ) → is_some (place_from n (labels xs) l) ≡ true
had [] i l x st e n = absurd (let k = st.inner in omega arith)
had (y ∷ ys) zero l x st e n = had_first n l (role_of y) (labels ys) (ap (λ (z : Line). opening (role_of z)) st.is ∙ e)
had (y ∷ ys) (suc i) l x st e n = had_later n l (role_of y) (labels ys) (had ys i l x (record { inner = let k = st.inner in omega arith; is = st.is }) e)

abbrev New : List Line → Line → Type 0
New xs x = (l : ℕ) → opening (role_of x) ≡ Some l → is_some (place_from 0 (labels xs) l) ≡ false

once_by : (xs : List Line) (x a b : Line) (i k l : ℕ) → Once xs → New xs x → opening (role_of a) ≡ Some l → opening (role_of b) ≡ Some l →
    Stands xs i a ⊎ ((i ≡ length xs) × (x ≡ a)) → Stands xs k b ⊎ ((k ≡ length xs) × (x ≡ b)) → i ≡ k
once_by xs x a b i k l o n p q (inl s) (inl t) = o i k l a b s t p q
once_by xs x a b i k l o n p q (inl s) (inr t) = true_false (had xs i l a s p 0) (n l (ap (λ (z : Line). opening (role_of z)) t.1 ∙ q))
once_by xs x a b i k l o n p q (inr s) (inl t) = true_false (had xs k l b t q 0) (n l (ap (λ (z : Line). opening (role_of z)) s.1 ∙ p))
once_by xs x a b i k l o n p q (inr s) (inr t) = s.0 ∙ sym t.0

once_more : (xs : List Line) (x : Line) → Once xs → New xs x → Once (xs ++ (x ∷ []))
once_more xs x o n i k l a b s t p q = once_by xs x a b i k l o n p q (stands_more xs x a i s) (stands_more xs x b k t)

-- ---- what it means that a line is taken
kinds : (a b : BlockKind) → same_kind a b ≡ true → a ≡ b
kinds While While e = refl
kinds While If e = absurd (true≢false (sym e))
kinds If While e = absurd (true≢false (sym e))
kinds If If e = refl

fits_top : (s : Stack) (k : BlockKind) (l : ℕ) → fits s k l ≡ true → Innermost (k, l) s
fits_top [] k l e = absurd (true≢false (sym e))
fits_top (b ∷ s) k l e = let q = and_parts (same_kind b.0 k) (eqb b.1 l) e in λ i. (kinds b.0 k q.0 i, eqb-true b.1 l q.1 i)

role_taken : (s : Stack) (xs : List Line) (r : Role) → is_ok (role_answer s (labels xs) r) ≡ true → Fits s r × ((l : ℕ) → opening r ≡ Some l → is_some (place_from 0 (labels xs) l) ≡ false)
role_taken s xs (Opens k m c) h = (tt, λ l e. subst (λ (j : ℕ). is_some (place_from 0 (labels xs) j) ≡ false) (some_one e) (go (is_some (place_from 0 (labels xs) m)) h))
  where
    go : (t : Bool) → is_ok {T = Unit {0}} {E = TableRefusal} (cond t (Err Label) (cond (leb max_blocks (length (labels xs))) (Err Blocks) (Ok tt))) ≡ true → t ≡ false
    go true f = absurd (true≢false (sym f))
    go false f = refl
role_taken s xs (Ends k m) h = (fits_top s k m (go (fits s k m) h), λ l e. absurd (none_some e))
  where
    go : (t : Bool) → is_ok {T = Unit {0}} {E = TableRefusal} (cond t (Ok tt) (Err End)) ≡ true → t ≡ true
    go true f = refl
    go false f = f
role_taken s xs Neither h = (tt, λ l e. absurd (none_some e))

push_role : (xs : List Line) (x : Line) → is_ok (push_answer xs x) ≡ true → is_ok (role_answer (open_blocks xs) (labels xs) (role_of x)) ≡ true
push_role xs x h = go (leb max_lines (length xs)) h
  where
    go : (t : Bool) → is_ok (cond t (Err Lines) (role_answer (open_blocks xs) (labels xs) (role_of x))) ≡ true → is_ok (role_answer (open_blocks xs) (labels xs) (role_of x)) ≡ true
    go true f = absurd (true≢false (sym f))
    go false f = f

-- ---- all lines
abbrev Nested : List Line → Type 0
Nested xs = Leads [] xs (open_blocks xs) × Once xs

nested_more : (xs : List Line) (x : Line) → is_ok (push_answer xs x) ≡ true → Nested xs → Nested (xs ++ (x ∷ []))
nested_more xs x h (n, o) =
    let r = role_taken (open_blocks xs) xs (role_of x) (push_role xs x h) in
    (subst (Leads [] (xs ++ (x ∷ []))) (sym (open_more [] xs x)) (leads_more [] (open_blocks xs) xs x n r.0), once_more xs x o r.1)

nested_all : (xs ys : List Line) → all_taken xs ys ≡ true → Nested xs → Nested (xs ++ ys)
nested_all xs [] h n = subst Nested (sym (append-nil xs)) n
nested_all xs (y ∷ ys) h n =
    let q = and_parts (is_ok (push_answer xs y)) (all_taken (xs ++ (y ∷ [])) ys) h in
    subst Nested (append_assoc xs (y ∷ []) ys) (nested_all (xs ++ (y ∷ [])) ys q.1 (nested_more xs y q.0 n))

empty_stack : (s : Stack) → is_empty s ≡ true → s ≡ []
empty_stack [] e = refl
empty_stack (b ∷ s) e = absurd (true≢false (sym e))

pub closed_lines : (xs : List Line) → all_taken [] xs ≡ true → closed xs ≡ true → Closed xs
closed_lines xs h e =
    let n = nested_all [] xs h (refl, λ i k l x y s. absurd (let z = s.inner in omega arith)) in
    record { nested = subst (Leads [] xs) (empty_stack (open_blocks xs) e) n.0; once = n.1 }

-- ---- one more line that is taken
pub taken_more : (xs ys : List Line) (x : Line) → all_taken xs ys ≡ true → is_ok (push_answer (xs ++ ys) x) ≡ true → all_taken xs (ys ++ (x ∷ [])) ≡ true
taken_more xs [] x h p = ap (λ (t : Bool). t && true) (subst (λ (zs : List Line). is_ok (push_answer zs x) ≡ true) (append-nil xs) p)
taken_more xs (y ∷ ys) x h p =
    let q = and_parts (is_ok (push_answer xs y)) (all_taken (xs ++ (y ∷ [])) ys) h in
    (λ i. q.0 i && taken_more (xs ++ (y ∷ [])) ys x q.1 (subst (λ (zs : List Line). is_ok (push_answer zs x) ≡ true) (sym (append_assoc xs (y ∷ []) ys)) p) i)
