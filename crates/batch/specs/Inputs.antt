-- Inputs that follow one another in a text: behind each stands a line that is the marker.
use Rattle.std.specs.Prelude.{◌≡◌, ℕ, List, [], ◌∷◌, ◌++◌, codes}
use Rattle.console.specs.Lines.{lines_of, FirstLine}

abbrev pub marker : List ℕ
marker = codes "----"

-- no line is the marker
abbrev pub Unmarked : List (List ℕ) → Type 0
Unmarked [] = Unit {0}
Unmarked (l ∷ ls) = (l ≡ marker → ⊥) × Unmarked ls

-- the first input of a text is what stands before its first line that is the marker, and more is what stands behind that line
pub record FirstInput (bs input more : List ℕ) : Type 0 where
  pub from_marker : List ℕ
  pub cut : bs ≡ input ++ from_marker
  pub marked : FirstLine from_marker marker more
  -- the input ends where a line does
  pub lines : lines_of bs ≡ lines_of input ++ lines_of from_marker
  pub unmarked : Unmarked (lines_of input)
