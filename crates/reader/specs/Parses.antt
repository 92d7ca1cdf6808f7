-- What a method of the reader does: from the lexer at a to the lexer at b it reads by the parser p, and returns r.
use Rattle.std.specs.Prelude.{◌≡◌, ℕ, List, [], ◌∷◌, ◌++◌, length, drop, Some, None, Ok, Err, Option, Result}
use Rattle.lexer.specs.declared.lexer.Lexer.{Lexer}
use Rattle.lexer.specs.Lexemes.{Lexeme, lexemes_from}
use Rattle.model.specs.declared.line.Line.{Line}
use Rattle.model.specs.declared.line.Motion.{Motion}
use Rattle.grammar.specs.declared.symbol.Symbol.{Symbol}
use Rattle.grammar.specs.declared.symbol.Item.{Item}
use Rattle.grammar.specs.declared.refusal.Refusal.{Refusal}
use Rattle.grammar.specs.Combinators.{Parsed, got, bad, Parser}
use Rattle.grammar.specs.Symbols.{symbol_of, symbols}
use Rattle.grammar.specs.Answer.{front}
use Rattle.grammar.specs.Axes.{AxisValues, moved}
use Rattle.grammar.specs.Tests.{outcome}
use Rattle.grammar.specs.declared.refusal.Cause.{Cause}

-- the tokens that are still ahead of the lexer
abbrev pub ahead : Lexer → List Lexeme
ahead l = lexemes_from 0 l.at (drop l.at l.text.now)

-- ws is the last part of ts
abbrev pub Suffix : List Lexeme → List Lexeme → Type 0
Suffix ts ws = (us : List Lexeme) × (ts ≡ us ++ ws)

-- rest is what the last tokens are, and p the place of the first of them
abbrev pub Placed : List Lexeme → ℕ → List Symbol → ℕ → Type 0
Placed from end rest p = (ws : List Lexeme) × Suffix from ws × (symbols ws ≡ rest) × (p ≡ front ws end)

-- a result and the tokens left after it are what was parsed, or the refusal is for its cause and at its place
abbrev pub Agrees : {A : Type 0} → Parsed A → ℕ → List Lexeme → Result A Refusal → List Lexeme → Type 0
Agrees (got a rest) end from (Ok b) to = (b ≡ a) × (symbols to ≡ rest)
Agrees (got a rest) end from (Err e) to = ⊥
Agrees (bad c rest) end from (Ok b) to = ⊥
Agrees (bad c rest) end from (Err e) to = (e.cause ≡ c) × Placed from end rest e.place

pub record Parses {A : Type 0} (p : Parser A) (a : Lexer) (r : Result A Refusal) (b : Lexer) : Type 0 where
  pub same : b.text ≡ a.text
  pub past : Suffix (ahead a) (ahead b)
  pub says : Agrees (p (symbols (ahead a))) (length a.text.now) (ahead a) r (ahead b)

-- the symbol at a place is that of the first token, and to are the tokens after it; or there is none
abbrev pub Next : List Lexeme → ℕ → ℕ → Option Symbol → List Lexeme → Type 0
Next from end place None to = (from ≡ []) × (to ≡ []) × (place ≡ end)
Next from end place (Some s) to = (t : Lexeme) × (from ≡ t ∷ to) × (place ≡ t.place) × (s ≡ symbol_of t.bytes)

pub record Takes (a : Lexer) (i : Item) (b : Lexer) : Type 0 where
  pub same : b.text ≡ a.text
  pub next : Next (ahead a) (length a.text.now) i.place i.symbol (ahead b)

-- what the test P says of an item is answered at its place
pub record Taken {A : Type 0} (P : Option Symbol → Result A Cause → Type 0) (i : Item) (r : Result A Refusal) : Type 0 where
  pub tested : Result A Cause
  pub gives : P i.symbol tested
  pub is : r ≡ outcome tested i.place

-- the lexer goes on by one symbol, which the test P takes
pub record Expects {A : Type 0} (P : Option Symbol → Result A Cause → Type 0) (a : Lexer) (r : Result A Refusal) (b : Lexer) : Type 0 where
  pub item : Item
  pub takes : Takes a item b
  pub taken : Taken P item r

-- the values that the words of a move come to, as the line that the move is
abbrev pub made : Motion → AxisValues → Result (Unit {0}) Refusal → Result Line Refusal
made g m (Ok u) = Ok (moved g m)
made g m (Err e) = Err e
