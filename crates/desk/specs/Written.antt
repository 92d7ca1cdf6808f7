-- What is noted and written of the lines of a script while they are answered.
use Rattle.std.specs.Prelude.{◌≡◌, ℕ, ◌+◌, List, [], ◌∷◌, ◌++◌, length, Some, None, Option, Result, IfOk}
use Rattle.std.specs.Borrow.{MutBor}
use Rattle.std.specs.Io.KnownBytes.{Appends}
use Rattle.console.specs.Lines.{lines_of}
use Rattle.desk.specs.declared.answer.Reply.{Reply}
use Rattle.desk.specs.declared.entry.Answer.{Answer}
use Rattle.desk.specs.declared.entry.Entry.{Entry}
use Rattle.desk.specs.Scripts.{Table, table_in, entry_text}
use Rattle.desk.specs.Stretches.{EntersEach, asked, NoTable, Answered}

-- entries, each with its reply, as answers
abbrev pub noted : List (Entry × Reply) → List Answer
noted [] = []
noted (h ∷ hs) = record { entry = h.0; reply = h.1 } ∷ noted hs

-- the text of each answer, and a line feed behind it
abbrev pub answer_lines : List Answer → List ℕ
answer_lines [] = []
answer_lines (a ∷ qs) = entry_text a.entry a.reply ++ (10 ∷ answer_lines qs)

-- ---- a stretch
-- the lines of a text, of which the first is line n + 1 of a script, are read up to line m, with these entries; the rest is left
pub record LinesRead (n m : ℕ) (text rest : List ℕ) (es : List Entry) : Type 0 where
  pub lines : List (List ℕ)
  pub all : lines_of text ≡ lines ++ lines_of rest
  pub entries : EntersEach (n + 1) lines es
  pub last : m ≡ n + length lines

-- a stretch lasts up to the end of its text, or to the first entry that sets up a table, which ends it
abbrev pub StretchEnds : List ℕ → List Answer → Option Table → Type 0
StretchEnds rest qs None = (lines_of rest ≡ []) × NoTable (asked qs)
StretchEnds rest qs (Some u) = (ps : List Answer) × (a : Answer) × (qs ≡ ps ++ (a ∷ [])) × NoTable (asked ps) × (table_in a.entry ≡ Some u)

-- the lines of a stretch are read and answered; the writer is the one that was lent, and holds the answers behind what it held.
-- Where a write failed, the stretch ends behind the answer that was not written whole.
pub record AnswersLines {W E : Type 0} (contents : W → Option (List ℕ)) (n m : ℕ) (text rest : List ℕ) (old new : MutBor W) (qs : List Answer) (r : Result (Option Table) E) : Type 0 where
  pub read : LinesRead n m text rest (asked qs)
  pub ends : IfOk r (StretchEnds rest qs)
  pub written : IfOk r (λ _. Appends (contents old.now) (contents new.now) (answer_lines qs))
  pub lent : new.ghost_name ≡ old.ghost_name

-- ---- a script
-- each line of the script is answered, and the answers are written behind what the writer held
pub record Replayed (script : List ℕ) (before after : Option (List ℕ)) : Type 0 where
  pub answers : List Answer
  pub answered : Answered script answers
  pub written : Appends before after (answer_lines answers)
