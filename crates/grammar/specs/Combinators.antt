-- Parsers on rows of symbols, put together from three parts: one symbol, one parser after another, and the end of a line.
use Rattle.std.specs.Prelude.{cond, List, [], ◌∷◌, Ok, Err, Result}
use Rattle.model.specs.declared.line.Line.{Line}
use Rattle.grammar.specs.declared.symbol.Symbol.{Symbol}
use Rattle.grammar.specs.declared.refusal.Cause.{Cause}
use Rattle.grammar.specs.declared.refusal.Cause.TheVariants.{Unexpected, Twice}
use Rattle.grammar.specs.Axes.{names}

-- what was read with what is left, or why it is refused with what it is refused at
pub data Parsed (A : Type 0) : Type 0 where
  got : A → List Symbol → Parsed A
  bad : Cause → List Symbol → Parsed A

abbrev pub Parser : Type 0 → Type 0
Parser A = List Symbol → Parsed A

abbrev pub after : {A B : Type 0} → Parsed A → (A → Parser B) → Parsed B
after (got a r) q = q a r
after (bad c r) q = bad c r

-- p, and then q of what p read
abbrev pub bind : {A B : Type 0} → Parser A → (A → Parser B) → Parser B
bind p q ts = after (p ts) q

abbrev pub pure : {A : Type 0} → A → Parser A
pure a ts = got a ts

abbrev pub tested : {A : Type 0} → Result A Cause → Symbol → List Symbol → Parsed A
tested (Ok a) t ts = got a ts
tested (Err c) t ts = bad c (t ∷ ts)

-- one symbol that passes the test f
abbrev pub expect : {A : Type 0} → (Symbol → Result A Cause) → Parser A
expect f [] = bad Unexpected []
expect f (t ∷ ts) = tested (f t) t ts

-- the end of the line l
abbrev pub ends : Line → Parser Line
ends l [] = got l []
ends l (t ∷ ts) = bad Unexpected (t ∷ ts)

-- the end of the line l, or a symbol that l has not named and that passes the test f, and then q
abbrev pub or_more : {A : Type 0} → Line → (Symbol → Result A Cause) → (A → Parser Line) → Parser Line
or_more l f q [] = got l []
or_more l f q (t ∷ ts) = cond (names l t) (bad Twice (t ∷ ts)) (after (tested (f t) t ts) q)
