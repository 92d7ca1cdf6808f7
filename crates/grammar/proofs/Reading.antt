-- What it means that a parser reads a language.
use Rattle.std.proofs.Common.{◌≡◌, ℕ, false, ◌⊎◌, List, [], ◌∷◌, ◌++◌, Ok, Err, Result}
use Rattle.model.specs.declared.line.Line.{Line}
use Rattle.grammar.specs.declared.symbol.Symbol.{Symbol}
use Rattle.grammar.specs.declared.symbol.Symbol.TheVariants.{Digits}
use Rattle.grammar.specs.declared.refusal.Cause.{Cause}
use Rattle.grammar.specs.declared.refusal.Cause.TheVariants.{Unexpected, Limit}
use Rattle.grammar.specs.Axes.{names}
use Rattle.grammar.specs.Prefixes.{Lang, IsDigits, Stuck, nothing, Again}
use Rattle.grammar.specs.Combinators.{Parser, got, bad}

-- the languages of the combinators: one after another, nothing, one symbol, and the end of a line or more
abbrev pub bindL : {A B : Type 0} → Lang A → (A → Lang B) → Lang B
bindL {A} P Q ts b = (us : List Symbol) × (vs : List Symbol) × (a : A) × (ts ≡ us ++ vs) × P us a × Q a vs b

abbrev pub pure_l : {A : Type 0} → A → Lang A
pure_l a ts b = (ts ≡ []) × (a ≡ b)

abbrev pub oneL : {A : Type 0} → (Symbol → Result A Cause) → Lang A
oneL f ts a = (t : Symbol) × (ts ≡ t ∷ []) × (f t ≡ Ok a)

abbrev pub or_moreL : {A : Type 0} → Line → (Symbol → Result A Cause) → (A → Lang Line) → Lang Line
or_moreL {A} l f Q ts b = ((ts ≡ []) × (l ≡ b)) ⊎ ((t : Symbol) × (vs : List Symbol) × (a : A) × (ts ≡ t ∷ vs) × (names l t ≡ false) × (f t ≡ Ok a) × Q a vs b)

-- a limit is said of digits alone, just where other digits fit, and else a symbol is unexpected
abbrev pub Why : {A : Type 0} → (Symbol → Result A Cause) → Symbol → Cause → Type 0
Why {A} f t c = ((c ≡ Limit) × IsDigits t × ((n : ℕ) × (a : A) × (f (Digits n) ≡ Ok a))) ⊎ ((c ≡ Unexpected) × (IsDigits t → (n : ℕ) (a : A) → f (Digits n) ≡ Ok a → ⊥))

pub record Lawful {A : Type 0} (f : Symbol → Result A Cause) : Type 0 where
  pub some : (t : Symbol) × (a : A) × (f t ≡ Ok a)
  pub refused : (t : Symbol) (c : Cause) → f t ≡ Err c → Why f t c

-- the parser p reads the front of a row just if L has it, and refuses at the first symbol that nothing of L goes on with
pub record Reads {A : Type 0} (L : Lang A) (p : Parser A) : Type 0 where
  pub whole : (us rest : List Symbol) (a : A) → L us a → p (us ++ rest) ≡ got a rest
  pub sound : (ts rest : List Symbol) (a : A) → p ts ≡ got a rest → (us : List Symbol) × (ts ≡ us ++ rest) × L us a
  pub stuck : (ts rest : List Symbol) (k : Cause) → p ts ≡ bad k rest → Stuck L nothing ts k rest
  pub some : (us : List Symbol) × (a : A) × L us a

-- the same of a parser that reads to the end of the line, where axes may be named twice
pub record Lines (L : Lang Line) (p : Parser Line) : Type 0 where
  pub accepts : (ts : List Symbol) (l : Line) → L ts l → p ts ≡ got l []
  pub lawful : (ts rest : List Symbol) (l : Line) → p ts ≡ got l rest → (rest ≡ []) × L ts l
  pub refuses : (ts rest : List Symbol) (k : Cause) → p ts ≡ bad k rest → Stuck L (Again L) ts k rest
  pub some : (us : List Symbol) × (l : Line) × L us l
