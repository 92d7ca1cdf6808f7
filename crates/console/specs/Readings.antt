-- What is read of an input: range lines first, not counted, then the lines of the program, numbered from 1.
use Rattle.std.specs.Prelude.{ℕ, ◌+◌, Bool, false, cond, List, [], ◌∷◌, length, Some, None, Ok, Err, Option, Result, ◌==◌, nat_lt}
use Rattle.model.specs.Blocks.{closed}
use Rattle.model.specs.declared.line.Line.{Line}
use Rattle.model.specs.declared.range.Range.{Range}
use Rattle.program.specs.Entry.{line_answer, lines_after}
use Rattle.program.specs.declared.refusal.LineRefusal.{LineRefusal}
use Rattle.session.specs.Answers.{allow_answer, no_ranges, ranges_after}
use Rattle.session.specs.declared.refusal.AllowRefusal.{AllowRefusal}
use Rattle.console.specs.declared.range_line.RangeLine.{RangeLine}
use Rattle.console.specs.declared.refusal.Refusal.{Refusal}
use Rattle.console.specs.declared.refusal.Refusal.TheVariants.{Input, RangeText, Allow as OfAllow, Line as OfLine, Open}
use Rattle.console.specs.Lines.{lines_of}
use Rattle.console.specs.RangeLines.{range_of}

abbrev pub max_input : ℕ
max_input = 32768

-- the allowed ranges and the lines of a program that was read whole; or a line, 0 for none, that is refused
pub data Reading : Type 0 where
  whole : (allowed : List Range) (lines : List Line) → Reading
  stopped_at : (line : ℕ) (why : Refusal) → Reading

-- ---- range lines
-- a line that begins with ?
abbrev pub is_range : List ℕ → Bool
is_range [] = false
is_range (b ∷ bs) = b == 63

abbrev pub by_allow : Result (Unit {0}) AllowRefusal → Result (Unit {0}) Refusal
by_allow (Ok u) = Ok u
by_allow (Err why) = Err (OfAllow why)

-- that a range line is accepted, or why not
abbrev pub by_range : Option RangeLine → Result (Unit {0}) Refusal
by_range None = Err RangeText
by_range (Some a) = by_allow (allow_answer a.parameter a.range)

abbrev pub range_answer : List ℕ → Result (Unit {0}) Refusal
range_answer l = by_range (range_of l)

-- the allowed ranges after a range line
abbrev pub ranges_with : List Range → Option RangeLine → List Range
ranges_with ts None = ts
ranges_with ts (Some a) = ranges_after ts a.parameter a.range

abbrev pub ranges_behind : List Range → List ℕ → List Range
ranges_behind ts l = ranges_with ts (range_of l)

-- the allowed ranges and what is left after the range lines, or why one of them is refused
pub data Skipped : Type 0 where
  rest : (allowed : List Range) (left : List (List ℕ)) → Skipped
  stopped : (why : Refusal) → Skipped

abbrev pub after_range : Result (Unit {0}) Refusal → Skipped → Skipped
after_range (Ok u) s = s
after_range (Err why) s = stopped why

abbrev pub skip : List Range → List (List ℕ) → Skipped
skip ts [] = rest ts []
skip ts (l ∷ ls) = cond (is_range l) (after_range (range_answer l) (skip (ranges_behind ts l) ls)) (rest ts (l ∷ ls))

-- ---- the program
-- a block that is left open is refused at the end
abbrev pub ending : List Range → List Line → Reading
ending ts xs = cond (closed xs) (whole ts xs) (stopped_at 0 Open)

abbrev pub by_line : ℕ → Result (Unit {0}) LineRefusal → Reading → Reading
by_line n (Ok u) r = r
by_line n (Err why) r = stopped_at n (OfLine why)

-- the lines from number n on, where the program holds xs
abbrev pub program_reading : ℕ → List Range → List Line → List (List ℕ) → Reading
program_reading n ts xs [] = ending ts xs
program_reading n ts xs (l ∷ ls) = by_line n (line_answer xs l) (program_reading (n + 1) ts (lines_after xs l) ls)

abbrev pub by_skipped : Skipped → Reading
by_skipped (rest ts ls) = program_reading 1 ts [] ls
by_skipped (stopped why) = stopped_at 0 why

abbrev pub reading_of : List ℕ → Reading
reading_of bs = cond (nat_lt max_input (length bs)) (stopped_at 0 Input) (by_skipped (skip no_ranges (lines_of bs)))
