-- What a text is answered as the next line of a program, and the lines after it: first whether there is room for a line,
-- then the text, then the blocks.
use Rattle.std.specs.Prelude.{ℕ, cond, List, length, Ok, Err, Result, nat_le}
use Rattle.model.specs.declared.line.Line.{Line}
use Rattle.grammar.specs.declared.refusal.Refusal.{Refusal}
use Rattle.grammar.specs.Answer.{answer}
use Rattle.program.specs.declared.refusal.TableRefusal.{TableRefusal}
use Rattle.program.specs.declared.refusal.TableRefusal.TheVariants.{Lines}
use Rattle.program.specs.declared.refusal.LineRefusal.{LineRefusal}
use Rattle.program.specs.declared.refusal.LineRefusal.TheVariants.{Text, Table}
use Rattle.program.specs.Limits.{max_lines}
use Rattle.program.specs.Refusals.{push_answer, pushed}

-- what the table answers to a line, as the answer to its text
abbrev pub by_table : Result (Unit {0}) TableRefusal → Result (Unit {0}) LineRefusal
by_table (Ok u) = Ok u
by_table (Err e) = Err (Table e)

-- by what the text is read as
abbrev pub by_text : List Line → Result Line Refusal → Result (Unit {0}) LineRefusal
by_text xs (Ok x) = by_table (push_answer xs x)
by_text xs (Err e) = Err (Text e)

abbrev pub line_answer : List Line → List ℕ → Result (Unit {0}) LineRefusal
line_answer xs s = cond (nat_le max_lines (length xs)) (Err (Table Lines)) (by_text xs (answer s))

abbrev pub with_answer : List Line → Result Line Refusal → List Line
with_answer xs (Ok x) = pushed (push_answer xs x) xs x
with_answer xs (Err e) = xs

-- the lines after the text was answered
abbrev pub lines_after : List Line → List ℕ → List Line
lines_after xs s = cond (nat_le max_lines (length xs)) xs (with_answer xs (answer s))
