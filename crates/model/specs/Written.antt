-- Numbers as programs write them: each lies within the limit; and operands among so many registers.
use Rattle.std.specs.Prelude.{ℕ, ◌<◌, [], ◌∷◌, Some, None}
use Rattle.model.specs.declared.expression.Term.{Term}
use Rattle.model.specs.declared.expression.Term.TheVariants.{Number, Parameter as Held}
use Rattle.model.specs.declared.expression.Operand.{Operand}
use Rattle.model.specs.declared.expression.Operand.TheVariants.{Number as OfNumber, Register as OfRegister}
use Rattle.model.specs.declared.expression.Expression.{Expression}
use Rattle.model.specs.declared.expression.Expression.TheVariants.{Bare, Apply}
use Rattle.model.specs.declared.expression.Value.{Value}
use Rattle.model.specs.declared.expression.Value.TheVariants.{Term as OneTerm, Joined}
use Rattle.model.specs.declared.expression.Condition.{Condition}
use Rattle.model.specs.declared.line.Line.{Line}
use Rattle.model.specs.declared.line.Line.TheVariants.{Plain, Setting, Move, While, If, EndIf, EndWhile}
use Rattle.model.specs.Environments.{Lies, full}
use Rattle.model.specs.Values.{Values, four}

abbrev pub WrittenTerm : Term → Type 0
WrittenTerm (Number n) = Lies n full
WrittenTerm (Held p) = Unit {0}

-- a number within the limit, or one of the first n registers
abbrev pub OperandOf : ℕ → Operand → Type 0
OperandOf n (OfNumber k) = Lies k full
OperandOf n (OfRegister r) = r.index < n

abbrev pub ExpressionOf : ℕ → Expression → Type 0
ExpressionOf n (Bare x) = OperandOf n x
ExpressionOf n (Apply o x y) = OperandOf n x × OperandOf n y

abbrev pub WrittenValue : Value → Type 0
WrittenValue (OneTerm t) = WrittenTerm t
WrittenValue (Joined o t u) = WrittenTerm t × WrittenTerm u

abbrev pub WrittenCondition : Condition → Type 0
WrittenCondition c = WrittenTerm c.left × WrittenTerm c.right

-- the values that are there
abbrev pub WrittenValues : Values → Type 0
WrittenValues [] = Unit {0}
WrittenValues (None ∷ vs) = WrittenValues vs
WrittenValues (Some v ∷ vs) = WrittenValue v × WrittenValues vs

-- a line's values, and the condition of a WHILE or an IF
abbrev pub WrittenLine : Line → Type 0
WrittenLine Plain = Unit {0}
WrittenLine (Setting p v) = WrittenValue v
WrittenLine (Move g x y z u) = WrittenValues (four x y z u)
WrittenLine (While l c) = WrittenCondition c
WrittenLine (If l c) = WrittenCondition c
WrittenLine (EndIf l) = Unit {0}
WrittenLine (EndWhile l) = Unit {0}
