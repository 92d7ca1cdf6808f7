-- The first twelve of some numbers say where the axes may go.
use Rattle.std.proofs.Common.{◌≡◌, List, [], ◌∷◌, ℤ, refl}
use Rattle.std.proofs.lemmas.List.{get_or-drop}
use Rattle.model.specs.Environments.{at}
use Rattle.command.specs.Commands.{ends_of}

pub ends_first : (ns : List ℤ) → ends_of (at ns 0 ∷ at ns 1 ∷ at ns 2 ∷ at ns 3 ∷ at ns 4 ∷ at ns 5 ∷ at ns 6 ∷ at ns 7 ∷ at ns 8 ∷ at ns 9 ∷ at ns 10 ∷ at ns 11 ∷ []) ≡ ends_of ns
ends_first ns = simp get_or-drop refl
