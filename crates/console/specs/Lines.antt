-- The lines of a text: each ends with a line feed, which only the last one may lack.
use Rattle.std.specs.Prelude.{◌≡◌, ℕ, false, cond, List, [], ◌∷◌, ◌++◌, ◌==◌}
use Rattle.words.specs.Cuts.{before}

abbrev pub NoFeed : List ℕ → Type 0
NoFeed [] = Unit {0}
NoFeed (b ∷ bs) = ((b == 10) ≡ false) × NoFeed bs

-- the first line of a text, and what is behind its line feed; behind a line that lacks it there is nothing
pub data FirstLine : List ℕ → List ℕ → List ℕ → Type 0 where
  fed : (l rest : List ℕ) → NoFeed l → FirstLine (l ++ (10 ∷ rest)) l rest
  unfed : (b : ℕ) (bs : List ℕ) → NoFeed (b ∷ bs) → FirstLine (b ∷ bs) (b ∷ bs) []

pub data LinesAre : List ℕ → List (List ℕ) → Type 0 where
  none : LinesAre [] []
  last : (b : ℕ) (bs : List ℕ) → NoFeed (b ∷ bs) → LinesAre (b ∷ bs) ((b ∷ bs) ∷ [])
  more : (l rest : List ℕ) (ls : List (List ℕ)) → NoFeed l → LinesAre rest ls → LinesAre (l ++ (10 ∷ rest)) (l ∷ ls)

abbrev pub lines_of : List ℕ → List (List ℕ)
lines_of [] = []
lines_of (b ∷ bs) = cond (b == 10) ([] ∷ lines_of bs) (before b (lines_of bs))
