-- What the search of a table of words finds.
use Rattle.std.proofs.Common.{◌≡◌, ℕ, true, false, Bool, cond, List, [], ◌∷◌, Some, None, Option, option_map, Bor, refl, ap, ◌∙◌}
use Rattle.std.specs.List.{find}
use Rattle.lexer.specs.Keywords.{spells}
use Rattle.reader.specs.Tables.{first_spelled}

second_of : {A : Type 0} (r : Option (Bor (Bor (List ℕ) × A))) → option_map (λ x. x.now.1) r ≡ option_map (λ p. p.1) (option_map (λ x. x.now) r)
second_of None = refl
second_of (Some x) = refl

found_first : {A : Type 0} (s : List ℕ) (ps : List (Bor (List ℕ) × A)) → option_map (λ p. p.1) (find (λ p. spells s p.0.now) ps) ≡ first_spelled s ps
found_first s [] = refl
found_first s (p ∷ ps) = by (spells s p.0.now) (found_first s ps)
  where
    by : (b : Bool) → option_map (λ x. x.1) (find (λ x. spells s x.0.now) ps) ≡ first_spelled s ps → option_map (λ x. x.1) (cond b (Some p) (find (λ x. spells s x.0.now) ps)) ≡ cond b (Some p.1) (first_spelled s ps)
    by true e = refl
    by false e = e

-- by what `find` answers
pub first_is : {A : Type 0} (s : List ℕ) (ps : List (Bor (List ℕ) × A)) (r : Option (Bor (Bor (List ℕ) × A))) → option_map (λ x. x.now) r ≡ find (λ p. spells s p.0.now) ps → option_map (λ x. x.now.1) r ≡ first_spelled s ps
first_is s ps r e = second_of r ∙ ap (option_map (λ p. p.1)) e ∙ found_first s ps
