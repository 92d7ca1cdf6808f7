-- Words that are numbers.
use Rattle.std.specs.Prelude.{ℕ, zero, suc, List, [], ◌∷◌, ℤ, Some, None, Option}
use Rattle.words.specs.Numbers.{number_of}

-- a number in front of others
abbrev pub put : Option ℤ → Option (List ℤ) → Option (List ℤ)
put None o = None
put (Some x) None = None
put (Some x) (Some xs) = Some (x ∷ xs)

-- words that are exactly so many numbers
abbrev pub numbers_of : ℕ → List (List ℕ) → Option (List ℤ)
numbers_of zero [] = Some []
numbers_of zero (w ∷ ws) = None
numbers_of (suc n) [] = None
numbers_of (suc n) (w ∷ ws) = put (number_of w) (numbers_of n ws)
