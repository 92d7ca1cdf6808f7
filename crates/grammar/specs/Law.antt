-- The law of the reader, by the grammar alone. A text is accepted exactly if its tokens are a line, and as that line.
-- Otherwise it is refused at the first token with which no line goes on, or at its end if no line ends there: as Twice
-- where the tokens before make a whole move and the token names an axis of it, as Limit where it is digits and other
-- digits might stand there, else as Unexpected. Texts that are too long, or hold a byte that no line has, are not read at all.
use Rattle.std.specs.Prelude.{◌≡◌, ℕ, ◌<◌, ◌≤◌, List, ◌++◌, length, Ok, Result, slice_index}
use Rattle.lexer.specs.Lexemes.{Lexeme, LexemesAre}
use Rattle.model.specs.declared.line.Line.{Line}
use Rattle.grammar.specs.declared.refusal.Cause.{Cause}
use Rattle.grammar.specs.declared.refusal.Cause.TheVariants.{Length, Byte}
use Rattle.grammar.specs.declared.refusal.Refusal.{Refusal}
use Rattle.grammar.specs.Limits.{longest, least_byte, greatest_byte}
use Rattle.grammar.specs.Causes.{refused}
use Rattle.grammar.specs.Prefixes.{Viable, Follows, Ends, Refused, Again}
use Rattle.grammar.specs.Grammar.{LineIs}
use Rattle.grammar.specs.Symbols.{symbols}
use Rattle.grammar.specs.Answer.{front}

abbrev pub Allowed : ℕ → Type 0
Allowed b = (least_byte ≤ b) × (b ≤ greatest_byte)

-- not too long, and each byte is allowed
abbrev pub Clean : List ℕ → Type 0
Clean s = (length s ≤ longest) × ((i : ℕ) → i < length s → Allowed (slice_index s i))

-- not too long, and the first byte that is not allowed stands at p
abbrev pub Spoilt : List ℕ → ℕ → Type 0
Spoilt s p = (length s ≤ longest) × (p < length s) × (Allowed (slice_index s p) → ⊥) × ((i : ℕ) → i < p → Allowed (slice_index s i))

-- the text s is refused for the cause c at the place p: the tokens us before the place begin a line, and
-- with the token at the place, the first of ws, none goes on; or none ends with us, and the place is the text's end
pub record RefusedAt (s : List ℕ) (c : Cause) (p : ℕ) : Type 0 where
  pub us : List Lexeme
  pub ws : List Lexeme
  pub tokens : LexemesAre 0 s (us ++ ws)
  pub place : p ≡ front ws (length s)
  pub viable : Viable LineIs (symbols us)
  pub cause : Refused c (symbols ws) (Follows LineIs (symbols us)) (Ends LineIs (symbols us)) (Again LineIs (symbols us))

pub data Answers (s : List ℕ) : Result Line Refusal → Type 0 where
  too_long : longest < length s → Answers s (refused Length longest)
  spoilt : (p : ℕ) → Spoilt s p → Answers s (refused Byte p)
  accepted : (ts : List Lexeme) (l : Line) → Clean s → LexemesAre 0 s ts → LineIs (symbols ts) l → Answers s (Ok l)
  stuck : (c : Cause) (p : ℕ) → Clean s → RefusedAt s c p → Answers s (refused c p)

-- r is an answer to the text, and there is no other
pub record TheAnswer (s : List ℕ) (r : Result Line Refusal) : Type 0 where
  pub is : Answers s r
  pub only : (q : Result Line Refusal) → Answers s q → q ≡ r
