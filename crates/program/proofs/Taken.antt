-- Which line a text adds to a program: where it is taken the one that it is read as, and else none.
use Rattle.std.proofs.Common.{◌≡◌, ℕ, Bool, true, false, cond, leb, List, [], ◌∷◌, ◌++◌, length, Ok, Err, Result, refl, ap, ◌∙◌}
use Rattle.model.specs.declared.line.Line.{Line}
use Rattle.grammar.specs.declared.refusal.Refusal.{Refusal}
use Rattle.grammar.specs.Answer.{answer}
use Rattle.program.specs.declared.refusal.TableRefusal.{TableRefusal}
use Rattle.program.specs.declared.refusal.TableRefusal.TheVariants.{Lines}
use Rattle.program.specs.declared.refusal.LineRefusal.{LineRefusal}
use Rattle.program.specs.declared.refusal.LineRefusal.TheVariants.{Table}
use Rattle.program.specs.Limits.{max_lines}
use Rattle.program.specs.Refusals.{push_answer, pushed}
use Rattle.program.specs.Entry.{by_table, by_text, with_answer, line_answer, lines_after}

-- a text that is read as r, and as a next line of xs is answered a, leaves the lines ys
abbrev pub Adds : List Line → Result Line Refusal → Result (Unit {0}) LineRefusal → List Line → Type 0
Adds xs r (Ok u) ys = (x : Line) × (r ≡ Ok x) × (push_answer xs x ≡ Ok tt) × (ys ≡ xs ++ (x ∷ []))
Adds xs r (Err e) ys = ys ≡ xs

by_push : (xs : List Line) (x : Line) (p : Result (Unit {0}) TableRefusal) → push_answer xs x ≡ p → Adds xs (Ok x) (by_table p) (pushed p xs x)
by_push xs x (Ok u) e = (x, refl, e, refl)
by_push xs x (Err f) e = refl

by_answer : (xs : List Line) (r : Result Line Refusal) → Adds xs r (by_text xs r) (with_answer xs r)
by_answer xs (Ok x) = by_push xs x (push_answer xs x) refl
by_answer xs (Err e) = refl

pub adds : (xs : List Line) (s : List ℕ) → Adds xs (answer s) (line_answer xs s) (lines_after xs s)
adds xs s = go (leb max_lines (length xs))
  where
    go : (b : Bool) → Adds xs (answer s) (cond b (Err (Table Lines)) (by_text xs (answer s))) (cond b xs (with_answer xs (answer s)))
    go true = refl
    go false = by_answer xs (answer s)

-- where there is room and the text is a line, the table's answer is the text's
pub answered_by_table : (xs : List Line) (s : List ℕ) (x : Line) (p : Result (Unit {0}) TableRefusal) → leb max_lines (length xs) ≡ false → answer s ≡ Ok x → push_answer xs x ≡ p → line_answer xs s ≡ by_table p
answered_by_table xs s x p room read put = ap (λ full. cond full (Err (Table Lines)) (by_text xs (answer s))) room ∙ ap (by_text xs) read ∙ ap by_table put
