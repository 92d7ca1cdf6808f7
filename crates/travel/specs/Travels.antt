-- What makes a work envelope lawful: its region is exactly where its sides hold, home is in it, and the sides are few and proper.
use Rattle.std.specs.Prelude.{ℕ, ◌≤◌, length, ℤ, pos, neg_ℤ, ◌≤ℤ◌}
use Rattle.std.specs.List.{AllByRecursion}
use Rattle.model.specs.Limits.{limit}
use Rattle.model.specs.Sides.{AllHold, Proper}
use Rattle.model.specs.Envelopes.{Envelope}
use Rattle.model.specs.Axes.{Position}

abbrev pub Within : ℤ → ℤ → ℤ → Type 0
Within lo n hi = (lo ≤ℤ n) × (n ≤ℤ hi)

-- each coordinate lies between those of two positions
pub record Between (lower p upper : Position) : Type 0 where
  pub x : Within lower.x p.x upper.x
  pub y : Within lower.y p.y upper.y
  pub z : Within lower.z p.z upper.z
  pub u : Within lower.u p.u upper.u

-- within the greatest length
abbrev pub Limited : ℤ → Type 0
Limited n = Within (neg_ℤ (pos limit)) n (pos limit)

-- the ends of an axis and its home are in order, within the greatest length
abbrev pub Ordered : ℤ → ℤ → ℤ → Type 0
Ordered lo home hi = (neg_ℤ (pos limit) ≤ℤ lo) × (lo ≤ℤ home) × (home ≤ℤ hi) × (hi ≤ℤ pos limit)

-- a travel has sides, and no more than these
abbrev pub most_sides : ℕ
most_sides = 16

pub record Lawful (v : Envelope) : Type 0 where
  pub only : (p : Position) → v.region p → AllHold p v.sides
  pub all : (p : Position) → AllHold p v.sides → v.region p
  pub home_in : v.region v.home
  pub home_fits : Limited v.home.x × Limited v.home.y × Limited v.home.z × Limited v.home.u
  pub some : 1 ≤ length v.sides
  pub few : length v.sides ≤ most_sides
  pub proper : AllByRecursion Proper v.sides
