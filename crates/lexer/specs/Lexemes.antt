-- The tokens of a text as a list, each with its place and its bytes. Each text has one such list.
use Rattle.std.specs.Prelude.{◌≡◌, ℕ, zero, suc, ◌+◌, ◌-◌, cond, List, [], ◌∷◌, ◌++◌, length, take, drop, Some, None, Option}
use Rattle.lexer.specs.declared.token.Token.{Token}
use Rattle.std.specs.List.{AllByRecursion}
use Rattle.lexer.specs.declared.class.Class.{Class}
use Rattle.lexer.specs.declared.class.Class.TheVariants.{Letter, Digit, Blank, Mark}
use Rattle.lexer.specs.Classes.{class, same}
use Rattle.lexer.specs.Kinds.{size}

pub record Lexeme : Type 0 where
  pub place : ℕ
  pub bytes : List ℕ

-- ---- the tokens of a text, as a relation

-- a run of the class ends before s
abbrev pub Stops : Class → List ℕ → Type 0
Stops k [] = Unit {0}
Stops k (b ∷ bs) = class b ≡ k → ⊥

-- t is a token where s follows: a whole run of letters, a whole run of digits, or one byte of another class
pub data IsToken : List ℕ → List ℕ → Type 0 where
  letters : {s : List ℕ} (b : ℕ) (bs : List ℕ) → AllByRecursion (λ c. class c ≡ Letter) (b ∷ bs) → Stops Letter s → IsToken (b ∷ bs) s
  digits : {s : List ℕ} (b : ℕ) (bs : List ℕ) → AllByRecursion (λ c. class c ≡ Digit) (b ∷ bs) → Stops Digit s → IsToken (b ∷ bs) s
  mark : {s : List ℕ} (b : ℕ) → class b ≡ Mark → IsToken (b ∷ []) s

-- the tokens of s, which stands at the place p, with blanks skipped
pub data LexemesAre : ℕ → List ℕ → List Lexeme → Type 0 where
  none : {p : ℕ} → LexemesAre p [] []
  blank : {p : ℕ} {s : List ℕ} {ls : List Lexeme} (b : ℕ) → class b ≡ Blank → LexemesAre (p + 1) s ls → LexemesAre p (b ∷ s) ls
  token : {p : ℕ} {s : List ℕ} {ls : List Lexeme} (t : List ℕ) → IsToken t s → LexemesAre (p + length t) s ls → LexemesAre p (t ++ s) (record { place = p; bytes = t } ∷ ls)

-- ---- the same, by one pass over the bytes

-- the tokens of s, which stands at the place p, after its first n bytes
abbrev pub lexemes_from : ℕ → ℕ → List ℕ → List Lexeme
lexemes_from zero p [] = []
lexemes_from (suc n) p [] = []
lexemes_from zero p (b ∷ bs) = cond (same (class b) Blank) (lexemes_from 0 (p + 1) bs) (record { place = p; bytes = take (size (b ∷ bs)) (b ∷ bs) } ∷ lexemes_from (size (b ∷ bs) - 1) (p + 1) bs)
lexemes_from (suc n) p (b ∷ bs) = lexemes_from n (p + 1) bs

abbrev pub lexemes : List ℕ → List Lexeme
lexemes s = lexemes_from 0 0 s

-- from n on, the text s has no token, or t and then those from m on
abbrev pub Heads : List ℕ → ℕ → Option Token → ℕ → Type 0
Heads s n None m = lexemes_from 0 n (drop n s) ≡ []
Heads s n (Some t) m = lexemes_from 0 n (drop n s) ≡ record { place = t.place; bytes = t.part.now } ∷ lexemes_from 0 m (drop m s)
