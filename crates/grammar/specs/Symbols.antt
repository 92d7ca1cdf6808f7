-- What a token is to the grammar, from its bytes: letters are compared without case, a run of digits counts by its number
-- if it has at most eight digits, and a token that the grammar does not have is unknown.
use Rattle.std.specs.Prelude.{ℕ, cond, List, map, length, Some, None, codes, Option, ◌==◌, nat_le, slice_index}
use Rattle.std.specs.Str.Parse.{digits_value}
use Rattle.lexer.specs.declared.class.Class.{Class}
use Rattle.lexer.specs.declared.class.Class.TheVariants.{Letter as Alphabetic, Digit, Mark, Blank}
use Rattle.lexer.specs.Classes.{class}
use Rattle.lexer.specs.Lexemes.{Lexeme}
use Rattle.lexer.specs.Keywords.{spells}
use Rattle.model.specs.declared.line.Axis.{Axis}
use Rattle.model.specs.declared.line.Axis.TheVariants.{X, Y, Z, U}
use Rattle.model.specs.declared.expression.Rel.{Rel}
use Rattle.model.specs.declared.expression.Rel.TheVariants.{Eq, Ne, Lt, Le, Gt, Ge}
use Rattle.grammar.specs.declared.symbol.Keyword.{Keyword}
use Rattle.grammar.specs.declared.symbol.Keyword.TheVariants.{Hash, Open, Close, Plus, Minus, Star, Equals, G, O, While, If, EndIf, EndWhile}
use Rattle.grammar.specs.declared.symbol.Symbol.{Symbol}
use Rattle.grammar.specs.declared.symbol.Symbol.TheVariants.{Fixed, Digits, Long, Letter, Relation, Unknown}

abbrev pub axis_of : List ℕ → Option Axis
axis_of s = cond (spells s (codes "X")) (Some X) (cond (spells s (codes "Y")) (Some Y) (cond (spells s (codes "Z")) (Some Z) (cond (spells s (codes "U")) (Some U) None)))

abbrev pub relation_of : List ℕ → Option Rel
relation_of s = cond (spells s (codes "EQ")) (Some Eq) (cond (spells s (codes "NE")) (Some Ne) (cond (spells s (codes "LT")) (Some Lt) (cond (spells s (codes "LE")) (Some Le) (cond (spells s (codes "GT")) (Some Gt) (cond (spells s (codes "GE")) (Some Ge) None)))))

abbrev pub keyword_of : List ℕ → Option Keyword
keyword_of s = cond (spells s (codes "G")) (Some G) (cond (spells s (codes "O")) (Some O) (cond (spells s (codes "WHILE")) (Some While) (cond (spells s (codes "IF")) (Some If) (cond (spells s (codes "ENDIF")) (Some EndIf) (cond (spells s (codes "ENDWHILE")) (Some EndWhile) None)))))

abbrev pub keyword_else : Option Keyword → Symbol
keyword_else (Some w) = Fixed w
keyword_else None = Unknown

abbrev pub relation_else : Option Rel → Symbol → Symbol
relation_else (Some r) t = Relation r
relation_else None t = t

abbrev pub letter_else : Option Axis → Symbol → Symbol
letter_else (Some a) t = Letter a
letter_else None t = t

abbrev pub letters : List ℕ → Symbol
letters s = letter_else (axis_of s) (relation_else (relation_of s) (keyword_else (keyword_of s)))

abbrev pub words : List ℕ → Symbol
words s = cond (nat_le (length s) 8) (Digits (digits_value 10 s)) Long

abbrev pub mark : ℕ → Symbol
mark b = cond (b == 35) (Fixed Hash) (cond (b == 91) (Fixed Open) (cond (b == 93) (Fixed Close) (cond (b == 43) (Fixed Plus) (cond (b == 45) (Fixed Minus) (cond (b == 42) (Fixed Star) (cond (b == 61) (Fixed Equals) Unknown))))))

abbrev pub symbol_by : Class → List ℕ → Symbol
symbol_by Alphabetic s = letters s
symbol_by Digit s = words s
symbol_by Mark s = mark (slice_index s 0)
symbol_by Blank s = Unknown

abbrev pub symbol_of : List ℕ → Symbol
symbol_of s = symbol_by (class (slice_index s 0)) s

abbrev pub symbols : List Lexeme → List Symbol
symbols ts = map (λ t. symbol_of t.bytes) ts
