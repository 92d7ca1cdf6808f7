-- After any calls there is one program: how a line and a wipe leave it.
use Rattle.std.proofs.Common.{◌≡◌, ℕ, Bool, true, false, cond, leb, List, [], ◌∷◌, ◌++◌, length, Ok, Err, Result, sym, refl, ap, ◌∙◌, subst}
use Rattle.grammar.specs.Answer.{answer}
use Rattle.grammar.specs.Law.{TheAnswer}
use Rattle.grammar.specs.declared.refusal.Refusal.{Refusal as NoLine}
use Rattle.grammar.proofs.Unique.{the_answer}
use Rattle.model.specs.declared.line.Line.{Line}
use Rattle.program.specs.Entry.{by_table, by_text, with_answer, line_answer, lines_after}
use Rattle.program.specs.Limits.{max_lines}
use Rattle.program.specs.Numbers.{line_refusal}
use Rattle.program.specs.Refusals.{push_answer, pushed}
use Rattle.program.specs.declared.refusal.LineRefusal.{LineRefusal}
use Rattle.program.specs.declared.refusal.LineRefusal.TheVariants.{Table}
use Rattle.program.specs.declared.refusal.TableRefusal.{TableRefusal}
use Rattle.program.specs.declared.refusal.TableRefusal.TheVariants.{Lines}
use Rattle.calls.specs.Law.{Answer, done_or, Event, event, line, wipe, OneMore, ProgramIs, TheProgram, take_text, AnswersLine}

-- ---- readings
pub only_reading : (text : List ℕ) (r : Result Line NoLine) → TheAnswer text r → answer text ≡ r
only_reading text r t = t.only (answer text) (the_answer text).is

-- a text is read as one line at most
one_line : (text : List ℕ) (x y : Line) → TheAnswer text (Ok x) → TheAnswer text (Ok y) → y ≡ x
one_line text x y t u = let e : ◌≡◌ {A = Result Line NoLine} (Ok y) (Ok x) = t.only (Ok y) u.is in cc

-- the answer by the relation is the one that can be computed
pub line_computed : (lines : List Line) (text : List ℕ) (a : Answer) → AnswersLine lines text a → a ≡ done_or line_refusal (line_answer lines text)
line_computed lines text a k = k.is ∙ ap (λ r. done_or line_refusal (take_text lines r)) (sym (only_reading text k.reading k.the_reading))

pub line_answered : (lines : List Line) (text : List ℕ) (r : Result (Unit {0}) LineRefusal) → r ≡ line_answer lines text → AnswersLine lines text (done_or line_refusal r)
line_answered lines text r e = record { reading = answer text; the_reading = the_answer text; is = ap (done_or line_refusal) e }

-- ---- the lines after a text
-- one more, as which the text is read, where it is taken; and else none
abbrev pub Grown : List Line → Result Line NoLine → Result (Unit {0}) LineRefusal → List Line → Type 0
Grown xs r (Ok u) ys = (x : Line) × (r ≡ Ok x) × (ys ≡ xs ++ (x ∷ []))
Grown xs r (Err e) ys = Unit {0}

by_push : (xs : List Line) (x : Line) (r : Result (Unit {0}) TableRefusal) → Grown xs (Ok x) (by_table r) (pushed r xs x)
by_push xs x (Ok u) = (x, refl, refl)
by_push xs x (Err e) = tt

by_reading : (xs : List Line) (r : Result Line NoLine) → Grown xs r (by_text xs r) (with_answer xs r)
by_reading xs (Ok x) = by_push xs x (push_answer xs x)
by_reading xs (Err e) = tt

pub grown : (xs : List Line) (text : List ℕ) → Grown xs (answer text) (line_answer xs text) (lines_after xs text)
grown xs text = go (leb max_lines (length xs))
  where
    go : (b : Bool) → Grown xs (answer text) (cond b (Err (Table Lines)) (by_text xs (answer text))) (cond b xs (with_answer xs (answer text)))
    go true = tt
    go false = by_reading xs (answer text)

-- ---- the program
pub no_program : TheProgram [] []
no_program = record { is = refl; only = λ others q. q }

pub program_wiped : (past : List Event) (a : Answer) → TheProgram (event wipe a ∷ past) []
program_wiped past a = record { is = refl; only = λ others q. q }

module _ (past : List Event) (xs : List Line) (p : TheProgram past xs) (text : List ℕ) where
  pub program_refused : (e : LineRefusal) → TheProgram (event (line text) (done_or line_refusal (Err e)) ∷ past) xs
  program_refused e = record { is = p.is; only = p.only }

  pub program_grown : (u : Unit {0}) (r : Result Line NoLine) (ys : List Line) → TheAnswer text r → Grown xs r (Ok u) ys → TheProgram (event (line text) (done_or line_refusal (Ok u)) ∷ past) ys
  program_grown u r ys t g = record { is = record { before = xs; held = p.is; added = g.0; read = read_as; is = g.2 }; only = only }
    where
      read_as : TheAnswer text (Ok g.0)
      read_as = subst (TheAnswer text) g.1 t

      only : (others : List Line) → OneMore text (ProgramIs past) others → others ≡ ys
      only others more =
          let before_same : more.before ≡ xs = p.only more.before more.held in
          let added_same : more.added ≡ g.0 = one_line text g.0 more.added read_as more.read in
          more.is ∙ (λ i. before_same i ++ (added_same i ∷ [])) ∙ sym g.2
