-- How a line is read, symbol by symbol, from left to right. That this reads the grammar, no more and no less, is the law.
use Rattle.std.specs.Prelude.{ℕ, zero, suc, ◌-◌, List, [], ◌∷◌, pos, neg_ℤ, Result}
use Rattle.model.specs.declared.expression.Term.{Term}
use Rattle.model.specs.declared.expression.Term.TheVariants.{Number, Parameter as Held}
use Rattle.model.specs.declared.expression.Op.{Op}
use Rattle.model.specs.declared.expression.Op.TheVariants.{Add, Sub, Mul}
use Rattle.model.specs.declared.expression.Value.{Value}
use Rattle.model.specs.declared.expression.Rel.{Rel}
use Rattle.model.specs.declared.expression.Condition.{Condition}
use Rattle.model.specs.declared.line.Axis.{Axis}
use Rattle.model.specs.declared.line.Motion.{Motion}
use Rattle.model.specs.declared.line.Line.{Line}
use Rattle.model.specs.declared.line.Line.TheVariants.{Plain, Setting, While as WhileLine, If as IfLine, EndIf as EndIfLine, EndWhile as EndWhileLine}
use Rattle.grammar.specs.declared.symbol.Keyword.{Keyword}
use Rattle.grammar.specs.declared.symbol.Keyword.TheVariants.{Hash, Open, Close, Plus, Minus, Star, Equals, G, O, While, If, EndIf, EndWhile}
use Rattle.grammar.specs.declared.symbol.Symbol.{Symbol}
use Rattle.grammar.specs.declared.symbol.TermStart.{TermStart}
use Rattle.grammar.specs.declared.symbol.TermStart.TheVariants.{Whole as whole, Plus as plus, Minus as minus, Hash as hash}
use Rattle.grammar.specs.declared.symbol.ValueStart.{ValueStart}
use Rattle.grammar.specs.declared.symbol.ValueStart.TheVariants.{Opens as opens, Begins as begins}
use Rattle.grammar.specs.declared.symbol.BlockWord.{BlockWord}
use Rattle.grammar.specs.declared.symbol.BlockWord.TheVariants.{While as while, If as if, EndIf as endif, EndWhile as endwhile}
use Rattle.grammar.specs.declared.symbol.LineStart.{LineStart}
use Rattle.grammar.specs.declared.symbol.LineStart.TheVariants.{Setting as setting', Move as move', Block as block'}
use Rattle.grammar.specs.Axes.{AxisValues, put, no_values, count, motion_of, moved}
use Rattle.grammar.specs.Grammar.{parameter_of, bare, applied}
use Rattle.grammar.specs.declared.refusal.Cause.{Cause}
use Rattle.grammar.specs.declared.refusal.Cause.TheVariants.{Unexpected}
use Rattle.grammar.specs.Combinators.{Parser, bad, bind, pure, expect, ends, or_more}
use Rattle.grammar.specs.Tests.{words, mixed, digits, only, axis, relation}
use Rattle.model.specs.Limits.{limit}

-- ---- terms
abbrev pub term_words : List (Keyword × TermStart)
term_words = (Hash, hash) ∷ (Plus, plus) ∷ (Minus, minus) ∷ []

abbrev pub term_first : Symbol → Result TermStart Cause
term_first = mixed term_words 0 limit (λ n. whole (Number (pos n)))

abbrev pub term_rest : TermStart → Parser Term
term_rest (whole t) = pure t
term_rest plus = bind (expect (digits 0 limit)) (λ n. pure (Number (pos n)))
term_rest minus = bind (expect (digits 0 limit)) (λ n. pure (Number (neg_ℤ (pos n))))
term_rest hash = bind (expect (digits 1 6)) (λ n. pure (Held (parameter_of n)))

abbrev pub term : Parser Term
term = bind (expect term_first) term_rest

-- ---- values
abbrev pub value_words : List (Keyword × ValueStart)
value_words = (Open, opens) ∷ (Hash, begins hash) ∷ (Plus, begins plus) ∷ (Minus, begins minus) ∷ []

abbrev pub value_first : Symbol → Result ValueStart Cause
value_first = mixed value_words 0 limit (λ n. begins (whole (Number (pos n))))

abbrev pub operator : Symbol → Result Op Cause
operator = words ((Plus, Add) ∷ (Minus, Sub) ∷ (Star, Mul) ∷ [])

abbrev pub after_second : Term → Op → Term → Parser Value
after_second a o b = bind (expect (only Close)) (λ _. pure (applied o a b))

abbrev pub after_op : Term → Op → Parser Value
after_op a o = bind term (after_second a o)

abbrev pub after_first : Term → Parser Value
after_first a = bind (expect operator) (after_op a)

abbrev pub bracket : Parser Value
bracket = bind term after_first

abbrev pub value_rest : ValueStart → Parser Value
value_rest opens = bracket
value_rest (begins c) = bind (term_rest c) (λ t. pure (bare t))

abbrev pub value : Parser Value
value = bind (expect value_first) value_rest

-- ---- conditions
abbrev pub compared : Term → Rel → Term → Parser Condition
compared a r b = bind (expect (only Close)) (λ _. pure (record { rel = r; left = a; right = b }))

abbrev pub after_rel : Term → Rel → Parser Condition
after_rel a r = bind term (compared a r)

abbrev pub after_left : Term → Parser Condition
after_left a = bind (expect relation) (after_rel a)

abbrev pub comparison : Parser Condition
comparison = bind term after_left

abbrev pub condition : Parser Condition
condition = bind (expect (only Open)) (λ _. comparison)

-- ---- settings
abbrev pub after_equals : ℕ → Keyword → Parser Line
after_equals n _ = bind value (λ v. ends (Setting (parameter_of n) v))

abbrev pub after_number : ℕ → Parser Line
after_number n = bind (expect (only Equals)) (after_equals n)

abbrev pub setting : Parser Line
setting = bind (expect (digits 1 6)) after_number

-- ---- moves; the axis words go on for as many axes as have no value yet
abbrev pub more : ℕ → Motion → AxisValues → Parser Line
more zero g m = or_more (moved g m) axis (λ a ts. bad Unexpected ts)
more (suc n) g m = or_more (moved g m) axis (λ a. bind value (λ v. more n g (put m a v)))

abbrev pub more_words : Motion → AxisValues → Parser Line
more_words g m = more (4 - count m) g m

abbrev pub after_axis : Motion → Axis → Parser Line
after_axis g a = bind value (λ v. more_words g (put no_values a v))

abbrev pub after_g : ℕ → Parser Line
after_g n = bind (expect axis) (after_axis (motion_of n))

abbrev pub move : Parser Line
move = bind (expect (digits 0 1)) after_g

-- ---- block lines
abbrev pub block_word : Symbol → Result BlockWord Cause
block_word = words ((While, while) ∷ (If, if) ∷ (EndIf, endif) ∷ (EndWhile, endwhile) ∷ [])

abbrev pub block_rest : ℕ → BlockWord → Parser Line
block_rest n while = bind condition (λ c. ends (WhileLine n c))
block_rest n if = bind condition (λ c. ends (IfLine n c))
block_rest n endif = ends (EndIfLine n)
block_rest n endwhile = ends (EndWhileLine n)

abbrev pub after_label : ℕ → Parser Line
after_label n = bind (expect block_word) (block_rest n)

abbrev pub block : Parser Line
block = bind (expect (digits 1 9999)) after_label

-- ---- lines
abbrev pub line_first : Symbol → Result LineStart Cause
line_first = words ((Hash, setting') ∷ (G, move') ∷ (O, block') ∷ [])

abbrev pub line_rest : LineStart → Parser Line
line_rest setting' = setting
line_rest move' = move
line_rest block' = block

abbrev pub line : Parser Line
line = or_more Plain line_first line_rest
