-- The search for the lowest broken side, from a number on.
use Rattle.std.proofs.Common.{◌≡◌, ℕ, zero, suc, ◌+◌, Bool, true, false, List, [], ◌∷◌, drop, Some, None, refl, add-one, arith}
use Rattle.model.specs.Sides.{lowest, side_at}
use Rattle.model.specs.declared.side.Side.{Side}

at_head : (ss : List Side) (n : ℕ) (s : Side) → Some s ≡ side_at ss n → drop n ss ≡ s ∷ drop (suc n) ss
at_head [] n s e = let z : ◌≡◌ {A = ℕ} 0 1 = cc in absurd (omega arith)
at_head (x ∷ ss) zero s e = cc
at_head (x ∷ ss) (suc n) s e = at_head ss n s e

pub passed : (t : Side → Bool) (ss : List Side) (n : ℕ) (s : Side) → Some s ≡ side_at ss n → true ≡ t s →
    lowest t n (drop n ss) ≡ lowest t (n + 1) (drop (n + 1) ss)
passed t ss n s e h = rw (add-one, at_head ss n s e, ← h)

pub found : (t : Side → Bool) (ss : List Side) (n : ℕ) (s : Side) → Some s ≡ side_at ss n → false ≡ t s →
    lowest t n (drop n ss) ≡ Some n
found t ss n s e h = rw (at_head ss n s e, ← h)

rest_empty : (ss : List Side) (n : ℕ) → None ≡ side_at ss n → drop n ss ≡ []
rest_empty [] zero e = refl
rest_empty [] (suc n) e = refl
rest_empty (x ∷ ss) zero e = let z : ◌≡◌ {A = ℕ} 0 1 = cc in absurd (omega arith)
rest_empty (x ∷ ss) (suc n) e = rest_empty ss n e

pub spent : (t : Side → Bool) (ss : List Side) (n : ℕ) → None ≡ side_at ss n → lowest t n (drop n ss) ≡ None
spent t ss n e = rw (rest_empty ss n e)
