-- What a text is answered: the line that it is, or why and where it is refused.
-- A text that is too long is refused where the longest would end, one with a byte that no text may hold at the first such byte;
-- any other is read symbol by symbol. The law of this answer, in the grammar's words, is in Law.
use Rattle.std.specs.Prelude.{ℕ, ◌-◌, Bool, cond, ◌&&◌, List, [], ◌∷◌, length, drop, Ok, Result, ◌==◌, nat_le}
use Rattle.std.specs.List.{prefix_len}
use Rattle.lexer.specs.Lexemes.{Lexeme, lexemes}
use Rattle.model.specs.declared.line.Line.{Line}
use Rattle.grammar.specs.declared.refusal.Cause.TheVariants.{Length, Byte}
use Rattle.grammar.specs.declared.refusal.Refusal.{Refusal}
use Rattle.grammar.specs.Limits.{longest, least_byte, greatest_byte}
use Rattle.grammar.specs.Causes.{refused}
use Rattle.grammar.specs.Combinators.{Parsed, got, bad}
use Rattle.grammar.specs.Parser.{line}
use Rattle.grammar.specs.Symbols.{symbols}

-- the place of the first of the tokens, or where the text ends
abbrev pub front : List Lexeme → ℕ → ℕ
front [] end = end
front (t ∷ ts) end = t.place

-- the tokens ts, of a text of end bytes, answered by what was read of them
abbrev pub answered : List Lexeme → ℕ → Parsed Line → Result Line Refusal
answered ts end (got l rest) = Ok l
answered ts end (bad c rest) = refused c (front (drop (length ts - length rest) ts) end)

abbrev pub reading : List ℕ → Result Line Refusal
reading s = answered (lexemes s) (length s) (line (symbols (lexemes s)))

-- a byte that a text may hold
abbrev pub permitted : ℕ → Bool
permitted b = nat_le least_byte b && nat_le b greatest_byte

-- how many bytes at the front are permitted
abbrev pub clear : List ℕ → ℕ
clear s = prefix_len permitted s

-- the answer to a text that is not too long
abbrev pub short_answer : List ℕ → Result Line Refusal
short_answer s = cond (clear s == length s) (reading s) (refused Byte (clear s))

abbrev pub answer : List ℕ → Result Line Refusal
answer s = cond (nat_le (length s) longest) (short_answer s) (refused Length longest)
