-- Two words of one length, compared byte by byte.
use Rattle.std.proofs.Common.{◌≡◌, ℕ, ◌&&◌, nat_eq, List, [], ◌∷◌, length, refl, ap, arith}
use Rattle.std.specs.Char.{to_ascii_uppercase}
use Rattle.std.specs.List.{list_all, zip}
use Rattle.lexer.specs.Keywords.{spells}

pub spells_zip : (s w : List ℕ) → length s ≡ length w → list_all (λ p. nat_eq (to_ascii_uppercase p.0) p.1) (zip s w) ≡ spells s w
spells_zip [] [] e = refl
spells_zip [] (u ∷ us) e = absurd (omega arith)
spells_zip (b ∷ bs) [] e = absurd (omega arith)
spells_zip (b ∷ bs) (u ∷ us) e = ap (λ r. nat_eq (to_ascii_uppercase b) u && r) (spells_zip bs us (omega arith))
