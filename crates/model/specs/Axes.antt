-- One thing for each axis; a position is a number for each.
use Rattle.std.specs.Prelude.{ℤ}
use Rattle.model.specs.declared.axes.Axes.{Axes}
use Rattle.model.specs.declared.line.Axis.{Axis}
use Rattle.model.specs.declared.line.Axis.TheVariants.{X, Y, Z, U}

abbrev pub Position : Type 0
Position = Axes ℤ

-- what the axis has
abbrev pub along : {T : Type 0} → Axis → Axes T → T
along X p = p.x
along Y p = p.y
along Z p = p.z
along U p = p.u

-- the same but for the axis, which has the new one
abbrev pub replaced : {T : Type 0} → Axis → T → Axes T → Axes T
replaced X new p = record { x = new; y = p.y; z = p.z; u = p.u }
replaced Y new p = record { x = p.x; y = new; z = p.z; u = p.u }
replaced Z new p = record { x = p.x; y = p.y; z = new; u = p.u }
replaced U new p = record { x = p.x; y = p.y; z = p.z; u = new }
