-- Tables of words: what stands beside a word.
use Rattle.std.specs.Prelude.{ℕ, cond, List, [], ◌∷◌, Some, None, Option}
use Rattle.std.specs.Borrow.{Bor}
use Rattle.lexer.specs.Keywords.{spells}

-- what stands beside the first word of the table that the bytes spell
abbrev pub first_spelled : {A : Type 0} → List ℕ → List (Bor (List ℕ) × A) → Option A
first_spelled s [] = None
first_spelled s (p ∷ ps) = cond (spells s p.0.now) (Some p.1) (first_spelled s ps)
