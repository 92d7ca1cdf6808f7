-- The tests that a symbol is put to where it stands: one of some keywords, digits from lo to hi, an axis, a relation;
-- and what the outcome of a test is answered.
use Rattle.std.specs.Prelude.{ℕ, Bool, cond, ◌&&◌, List, [], ◌∷◌, Some, None, Ok, Err, Option, Result, nat_le}
use Rattle.model.specs.declared.line.Axis.{Axis}
use Rattle.model.specs.declared.expression.Rel.{Rel}
use Rattle.grammar.specs.declared.symbol.Keyword.{Keyword}
use Rattle.grammar.specs.contracts.symbol.KeywordPartialEq.TheImpl as equality
use Rattle.grammar.specs.declared.symbol.Symbol.{Symbol}
use Rattle.grammar.specs.declared.symbol.Symbol.TheVariants.{Fixed, Digits, Long, Letter, Relation, Unknown}
use Rattle.grammar.specs.declared.refusal.Cause.{Cause}
use Rattle.grammar.specs.declared.refusal.Cause.TheVariants.{Unexpected, Limit}
use Rattle.grammar.specs.declared.refusal.Refusal.{Refusal}
use Rattle.grammar.specs.Causes.{refused}

-- the two are one keyword; Equality shows that it is so exactly where they are
abbrev pub same_keyword : Keyword → Keyword → Bool
same_keyword u w = equality.eq-value.it u w

-- the entry of a table of keywords
abbrev pub choose : {A : Type 0} → List (Keyword × A) → Keyword → Result A Cause
choose [] u = Err Unexpected
choose ((w, a) ∷ ws) u = cond (same_keyword u w) (Ok a) (choose ws u)

abbrev pub upto : {A : Type 0} → ℕ → ℕ → (ℕ → A) → ℕ → Result A Cause
upto lo hi f n = cond (nat_le lo n && nat_le n hi) (Ok (f n)) (Err Limit)

-- a keyword of the table, or digits from lo to hi
abbrev pub mixed : {A : Type 0} → List (Keyword × A) → ℕ → ℕ → (ℕ → A) → Symbol → Result A Cause
mixed ws lo hi f (Fixed u) = choose ws u
mixed ws lo hi f (Digits n) = upto lo hi f n
mixed ws lo hi f Long = Err Limit
mixed ws lo hi f (Letter a) = Err Unexpected
mixed ws lo hi f (Relation r) = Err Unexpected
mixed ws lo hi f Unknown = Err Unexpected

abbrev pub digits : ℕ → ℕ → Symbol → Result ℕ Cause
digits lo hi = mixed [] lo hi (λ n. n)

-- a keyword of the table
abbrev pub words : {A : Type 0} → List (Keyword × A) → Symbol → Result A Cause
words ws (Fixed u) = choose ws u
words ws (Digits n) = Err Unexpected
words ws Long = Err Unexpected
words ws (Letter a) = Err Unexpected
words ws (Relation r) = Err Unexpected
words ws Unknown = Err Unexpected

abbrev pub only : Keyword → Symbol → Result Keyword Cause
only w = words ((w, w) ∷ [])

abbrev pub axis : Symbol → Result Axis Cause
axis (Fixed u) = Err Unexpected
axis (Digits n) = Err Unexpected
axis Long = Err Unexpected
axis (Letter a) = Ok a
axis (Relation r) = Err Unexpected
axis Unknown = Err Unexpected

abbrev pub relation : Symbol → Result Rel Cause
relation (Fixed u) = Err Unexpected
relation (Digits n) = Err Unexpected
relation Long = Err Unexpected
relation (Letter a) = Err Unexpected
relation (Relation r) = Ok r
relation Unknown = Err Unexpected

-- where a symbol is expected, the end of the text is wrong
abbrev pub tried : {A : Type 0} → (Symbol → Result A Cause) → Option Symbol → Result A Cause
tried f None = Err Unexpected
tried f (Some t) = f t

abbrev pub outcome : {A : Type 0} → Result A Cause → ℕ → Result A Refusal
outcome (Ok a) p = Ok a
outcome (Err c) p = refused c p
