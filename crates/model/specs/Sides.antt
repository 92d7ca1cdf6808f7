-- Positions, sides, and where they hold.
use Rattle.std.specs.Prelude.{◌≡◌, ℕ, zero, suc, ◌*◌, Bool, cond, List, [], ◌∷◌, ℤ, pos, ◌+ℤ◌, neg_ℤ, ◌≤ℤ◌, Some, None, Option, int_le}
use Rattle.model.specs.declared.line.Axis.{Axis}
use Rattle.model.specs.declared.line.Axis.TheVariants.{X, Y, Z, U}
use Rattle.model.specs.Axes.{Position, along}
use Rattle.model.specs.Limits.{limit}
use Rattle.model.specs.declared.side.Sign.{Sign}
use Rattle.model.specs.declared.side.Sign.TheVariants.{Plus as plus, Minus as minus}
use Rattle.model.specs.declared.side.Factor.{Factor}
use Rattle.model.specs.declared.side.Factor.TheVariants.{Plus, Zero, Minus}
use Rattle.model.specs.declared.side.Side.{Side}

-- the register of an axis
abbrev pub axis_register : Axis → ℕ
axis_register X = 0
axis_register Y = 1
axis_register Z = 2
axis_register U = 3

abbrev pub signed : Sign → ℤ → ℤ
signed plus n = n
signed minus n = neg_ℤ n

abbrev pub scaled : Factor → ℤ → ℤ
scaled Plus n = n
scaled Zero n = pos 0
scaled Minus n = neg_ℤ n

-- a·v + b·w
abbrev pub weight : Position → Side → ℤ
weight p s = signed s.a (along s.v p) +ℤ scaled s.b (along s.w p)

-- a side names two different axes, and its bound is one that two coordinates can reach
pub record Proper (s : Side) : Type 0 where
  pub axes : s.v ≡ s.w → ⊥
  pub low : neg_ℤ (pos (2 * limit)) ≤ℤ s.c
  pub high : s.c ≤ℤ pos (2 * limit)

-- the side holds at the position
abbrev pub Holds : Position → Side → Type 0
Holds p s = weight p s ≤ℤ s.c

abbrev pub kept : Position → Side → Bool
kept p s = int_le (weight p s) s.c

-- all sides hold at the position
abbrev pub AllHold : Position → List Side → Type 0
AllHold p [] = Unit {0}
AllHold p (s ∷ ss) = Holds p s × AllHold p ss

-- the lowest number, counted from n, of a side that a test refuses
abbrev pub lowest : (Side → Bool) → ℕ → List Side → Option ℕ
lowest t n [] = None
lowest t n (s ∷ ss) = cond (t s) (lowest t (suc n) ss) (Some n)

-- the side of a number, from 0
abbrev pub side_at : List Side → ℕ → Option Side
side_at [] n = None
side_at (s ∷ ss) zero = Some s
side_at (s ∷ ss) (suc n) = side_at ss n
