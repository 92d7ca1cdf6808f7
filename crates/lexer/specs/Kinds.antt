-- The kinds of tokens, and how long a token is, by its first byte.
use Rattle.std.specs.Prelude.{ℕ, cond, List, ◌==◌, slice_index}
use Rattle.lexer.specs.declared.class.Class.{Class}
use Rattle.lexer.specs.declared.class.Class.TheVariants.{Letter, Digit, Blank, Mark}
use Rattle.lexer.specs.declared.kind.Kind.{Kind}
use Rattle.lexer.specs.declared.kind.Kind.TheVariants.{Letters, Digits, Hash, Open, Close, Plus, Minus, Star, Equals, Other}
use Rattle.lexer.specs.Classes.{class, run}

-- how long the first token is: all letters or digits that touch, else one byte
abbrev pub size_by : Class → List ℕ → ℕ
size_by Letter s = run Letter s
size_by Digit s = run Digit s
size_by Blank s = 1
size_by Mark s = 1

abbrev pub size : List ℕ → ℕ
size s = size_by (class (slice_index s 0)) s

-- the bytes # [ ] + - * = have kinds of their own
abbrev pub kind_of_mark : ℕ → Kind
kind_of_mark b = cond (b == 35) Hash (cond (b == 91) Open (cond (b == 93) Close (cond (b == 43) Plus (cond (b == 45) Minus (cond (b == 42) Star (cond (b == 61) Equals Other))))))

abbrev pub kind_by : Class → ℕ → Kind
kind_by Letter b = Letters
kind_by Digit b = Digits
kind_by Blank b = Other
kind_by Mark b = kind_of_mark b

-- the kind of the first token, by its first byte
abbrev pub kind_of : List ℕ → Kind
kind_of s = kind_by (class (slice_index s 0)) (slice_index s 0)
