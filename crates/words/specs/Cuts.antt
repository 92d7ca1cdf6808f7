-- A text cut at a byte, and texts that are parts of one.
use Rattle.std.specs.Prelude.{ℕ, ◌+◌, cond, List, [], ◌∷◌, ◌==◌}

-- how many bytes stand before the first `stop`
abbrev pub until : ℕ → List ℕ → ℕ
until stop [] = 0
until stop (b ∷ bs) = cond (b == stop) 0 (until stop bs + 1)

-- a byte in front of the first part
abbrev pub before : ℕ → List (List ℕ) → List (List ℕ)
before b [] = (b ∷ []) ∷ []
before b (l ∷ ls) = (b ∷ l) ∷ ls
