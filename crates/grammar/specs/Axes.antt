-- The values that a move gives its axes, and what a whole line has named: a move its axes, other lines nothing.
use Rattle.std.specs.Prelude.{ℕ, ◌+◌, Bool, true, false, cond, is_some, Some, None, Option, ◌==◌}
use Rattle.model.specs.declared.expression.Value.{Value}
use Rattle.model.specs.declared.line.Axis.{Axis}
use Rattle.model.specs.declared.line.Motion.{Motion}
use Rattle.model.specs.declared.line.Motion.TheVariants.{Rapid, Feed}
use Rattle.model.specs.declared.line.Line.{Line}
use Rattle.model.specs.declared.line.Line.TheVariants.{Plain, Setting, Move, While, If, EndIf, EndWhile}
use Rattle.model.specs.declared.axes.Axes.{Axes}
use Rattle.model.specs.Axes.{along, replaced}
use Rattle.grammar.specs.declared.symbol.Symbol.{Symbol}
use Rattle.grammar.specs.declared.symbol.Symbol.TheVariants.{Fixed, Digits, Long, Letter, Relation, Unknown}

-- a value for each axis that has one
abbrev pub AxisValues : Type 0
AxisValues = Axes (Option Value)

-- whether the axis has a value
abbrev pub has : AxisValues → Axis → Bool
has m a = is_some (along a m)

abbrev pub put : AxisValues → Axis → Value → AxisValues
put m a v = replaced a (Some v) m

abbrev pub no_values : AxisValues
no_values = record { x = None; y = None; z = None; u = None }

-- G0 is a rapid, G1 a feed
abbrev pub motion_of : ℕ → Motion
motion_of g = cond (g == 0) Rapid Feed

abbrev pub moved : Motion → AxisValues → Line
moved g m = Move g m.x m.y m.z m.u

-- how many axes have a value
abbrev pub tally : Bool → ℕ
tally true = 1
tally false = 0

abbrev pub count : AxisValues → ℕ
count m = tally (is_some m.x) + tally (is_some m.y) + tally (is_some m.z) + tally (is_some m.u)

-- the symbol is the letter of an axis that has a value
abbrev pub has_symbol : AxisValues → Symbol → Bool
has_symbol m (Fixed w) = false
has_symbol m (Digits n) = false
has_symbol m Long = false
has_symbol m (Letter a) = has m a
has_symbol m (Relation r) = false
has_symbol m Unknown = false

abbrev pub names : Line → Symbol → Bool
names Plain t = false
names (Setting p v) t = false
names (Move g x y z u) t = has_symbol (record { x = x; y = y; z = z; u = u }) t
names (While n c) t = false
names (If n c) t = false
names (EndIf n) t = false
names (EndWhile n) t = false
