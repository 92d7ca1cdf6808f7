-- Work envelopes: where a machine may be, and where it is at home.
use Rattle.std.specs.Prelude.{List}
use Rattle.model.specs.declared.side.Side.{Side}
use Rattle.model.specs.Axes.{Position}

-- the positions where a machine may be, the sides that bound them, and its home
pub record Envelope : Type 1 where
  pub region : Position → Type 0
  pub sides : List Side
  pub home : Position
