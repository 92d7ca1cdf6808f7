-- Environments: a number for each register, X, Y, Z, U and then #1 to #6.
use Rattle.std.specs.Prelude.{◌≡◌, ℕ, ◌+◌, Bool, ◌&&◌, List, length, ℤ, pos, neg_ℤ, ◌≤ℤ◌, int_le, slice_index_or}
use Rattle.model.specs.declared.range.Range.{Range}
use Rattle.model.specs.Axes.{Position}
use Rattle.model.specs.Limits.{limit}

-- how many registers there are, how many of them are axes, and how many parameters
abbrev pub registers : ℕ
registers = 10

abbrev pub axes : ℕ
axes = 4

abbrev pub parameters : ℕ
parameters = 6

-- the registers that lines can name
abbrev pub named : ℕ
named = axes + parameters

-- every number that a register may have
abbrev pub full : Range
full = record { lo = neg_ℤ (pos limit); hi = pos limit }

-- a number lies in a range
pub record Lies (n : ℤ) (x : Range) : Type 0 where
  pub low : x.lo ≤ℤ n
  pub high : n ≤ℤ x.hi

abbrev pub lies : ℤ → Range → Bool
lies n x = int_le x.lo n && int_le n x.hi

-- a result that is no fault
abbrev pub fit : ℤ → Bool
fit n = lies n full

abbrev pub Env : Type 0
Env = List ℤ

abbrev pub at : Env → ℕ → ℤ
at e r = slice_index_or e r (pos 0)

-- an environment of n registers
pub record LegalOf (n : ℕ) (e : Env) : Type 0 where
  pub whole : length e ≡ n
  pub fits : (r : ℕ) → Lies (at e r) full

-- the position of the axes
abbrev pub position : Env → Position
position e = record { x = at e 0; y = at e 1; z = at e 2; u = at e 3 }
