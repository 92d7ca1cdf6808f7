-- The side that a slice lends at a number is the one of that number.
use Rattle.std.proofs.Common.{◌≡◌, ℕ, zero, suc, List, [], ◌∷◌, slice_get, Option, Some, None, option_copied, Bor, refl, sym, ◌∙◌}
use Rattle.std.specs.Slice.{IsItemAt}
use Rattle.std.proofs.lemmas.Option.{slice_get_past, slice_get_read}
use Rattle.model.specs.Sides.{side_at}
use Rattle.model.specs.declared.side.Side.{Side}

numbered : (ss : List Side) (n : ℕ) → slice_get ss n ≡ side_at ss n
numbered [] n = refl
numbered (s ∷ ss) zero = refl
numbered (s ∷ ss) (suc n) = numbered ss n

pub got : (ss : List Side) (n : ℕ) (r : Option (Bor Side)) → IsItemAt ss n r → option_copied r ≡ side_at ss n
got ss n None h = sym (slice_get_past ss n h.3) ∙ numbered ss n
got ss n (Some s) h = sym (slice_get_read ss _ n s.now refl h.3.0 h.1) ∙ numbered ss n
