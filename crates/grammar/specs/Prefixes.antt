-- Viable prefixes: which rows of symbols may begin a row of a language, and what it means that a row is refused at
-- one of its symbols. A language is a set of rows with what each means.
use Rattle.std.specs.Prelude.{◌≡◌, ℕ, true, ◌⊎◌, List, [], ◌∷◌, ◌++◌}
use Rattle.model.specs.declared.line.Line.{Line}
use Rattle.grammar.specs.declared.symbol.Symbol.{Symbol}
use Rattle.grammar.specs.declared.symbol.Symbol.TheVariants.{Fixed, Digits, Long, Letter, Relation, Unknown}
use Rattle.grammar.specs.declared.refusal.Cause.{Cause}
use Rattle.grammar.specs.declared.refusal.Cause.TheVariants.{Unexpected, Limit, Twice}
use Rattle.grammar.specs.Axes.{names}

abbrev pub Lang : Type 0 → Type 1
Lang A = List Symbol → A → Type 0

-- some row of the language begins with us
abbrev pub Viable : {A : Type 0} → Lang A → List Symbol → Type 0
Viable {A} L us = (vs : List Symbol) × (a : A) × L (us ++ vs) a

-- some row of the language begins with us and has t next
abbrev pub Follows : {A : Type 0} → Lang A → List Symbol → Symbol → Type 0
Follows {A} L us t = (vs : List Symbol) × (a : A) × L (us ++ t ∷ vs) a

-- us is a whole row of the language
abbrev pub Ends : {A : Type 0} → Lang A → List Symbol → Type 0
Ends {A} L us = (a : A) × L us a

-- a run of digits, however long
abbrev pub IsDigits : Symbol → Type 0
IsDigits (Fixed w) = ⊥
IsDigits (Digits n) = Unit {0}
IsDigits Long = Unit {0}
IsDigits (Letter a) = ⊥
IsDigits (Relation r) = ⊥
IsDigits Unknown = ⊥

-- t is digits, and stands where some digits may follow
abbrev pub Expected : Symbol → (Symbol → Type 0) → Type 0
Expected t F = IsDigits t × ((n : ℕ) × F (Digits n))

-- why the symbol t is refused, where F may follow and N is named already: Twice for what is named already,
-- Limit for digits out of bounds where digits may stand, Unexpected for anything else
abbrev pub CauseAt : Cause → Symbol → (Symbol → Type 0) → (Symbol → Type 0) → Type 0
CauseAt c t F N = ((c ≡ Twice) × N t) ⊎ (((c ≡ Limit) × Expected t F) ⊎ ((c ≡ Unexpected) × (Expected t F → ⊥) × (N t → ⊥)))

-- c is why the first symbol of rest is refused, which may not follow; or rest is empty, and no row ends here
abbrev pub Refused : Cause → List Symbol → (Symbol → Type 0) → Type 0 → (Symbol → Type 0) → Type 0
Refused c [] F E N = (c ≡ Unexpected) × (E → ⊥)
Refused c (t ∷ rest) F E N = (F t → ⊥) × CauseAt c t F N

-- the symbols before rest begin a row of the language, and rest is refused for c; N says what a row has named already
abbrev pub Stuck : {A : Type 0} → Lang A → (List Symbol → Symbol → Type 0) → List Symbol → Cause → List Symbol → Type 0
Stuck L N ts c rest = (us : List Symbol) × (ts ≡ us ++ rest) × Viable L us × Refused c rest (Follows L us) (Ends L us) (N us)

-- where nothing is ever named
abbrev pub nothing : List Symbol → Symbol → Type 0
nothing us t = ⊥

-- the symbols us are a whole line, and that line names t
abbrev pub Again : Lang Line → List Symbol → Symbol → Type 0
Again L us t = (l : Line) × L us l × (names l t ≡ true)
