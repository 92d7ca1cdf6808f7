-- A table of names: the first entry that has the name says what it stands for.
use Rattle.std.specs.Prelude.{ℕ, cond, List, [], ◌∷◌, Some, None, Option}
use Rattle.std.specs.Borrow.{Bor}
use Rattle.std.specs.Str.{bytes_eq}

abbrev pub first_of : {A : Type 0} → List ℕ → List (Bor (List ℕ) × A) → Option A
first_of w [] = None
first_of w (p ∷ ps) = cond (bytes_eq w p.0.now) (Some p.1) (first_of w ps)
