-- Terms, expressions, values and conditions at an environment; a value faults where its result lies beyond the limit.
use Rattle.std.specs.Prelude.{ℕ, ◌<◌, Bool, true, not, ◌&&◌, List, [], ◌∷◌, ℤ, ◌+ℤ◌, ◌-ℤ◌, ◌*ℤ◌, Some, None, Option, int_le, int_lt}
use Rattle.std.proofs.Common.{lit≤}
use Rattle.model.specs.declared.expression.Parameter.{Parameter}
use Rattle.model.specs.declared.expression.Parameter.TheVariants.{P1, P2, P3, P4, P5, P6}
use Rattle.model.specs.declared.register.Register.{Register}
use Rattle.model.specs.declared.expression.Term.{Term}
use Rattle.model.specs.declared.expression.Term.TheVariants.{Number as Written, Parameter as Held}
use Rattle.model.specs.declared.expression.Operand.{Operand}
use Rattle.model.specs.declared.expression.Operand.TheVariants.{Number, Register as OfRegister}
use Rattle.model.specs.declared.expression.Op.{Op}
use Rattle.model.specs.declared.expression.Op.TheVariants.{Add, Sub, Mul}
use Rattle.model.specs.declared.expression.Expression.{Expression}
use Rattle.model.specs.declared.expression.Expression.TheVariants.{Bare, Apply}
use Rattle.model.specs.declared.expression.Value.{Value}
use Rattle.model.specs.declared.expression.Value.TheVariants.{Term as OneTerm, Joined}
use Rattle.model.specs.declared.expression.Rel.{Rel}
use Rattle.model.specs.declared.expression.Rel.TheVariants.{Eq, Ne, Lt, Le, Gt, Ge}
use Rattle.model.specs.declared.expression.Condition.{Condition}
use Rattle.model.specs.declared.line.Line.{Line}
use Rattle.model.specs.declared.line.Line.TheVariants.{Plain, Setting, Move, While, If, EndIf, EndWhile}
use Rattle.model.specs.Environments.{Env, at, fit, registers}

-- the parameters' registers come after the axes'
abbrev pub register : Parameter → ℕ
register P1 = 4
register P2 = 5
register P3 = 6
register P4 = 7
register P5 = 8
register P6 = 9

pub register_known : (p : Parameter) → register p < registers
register_known P1 = lit≤ tt
register_known P2 = lit≤ tt
register_known P3 = lit≤ tt
register_known P4 = lit≤ tt
register_known P5 = lit≤ tt
register_known P6 = lit≤ tt

abbrev pub register_of : Parameter → Register
register_of p = record { index = register p; known = register_known p }

-- what an operand has
abbrev pub number : Env → Operand → ℤ
number e (Number n) = n
number e (OfRegister r) = at e r.index

-- a term as an operand: its number, or the register of its parameter
abbrev pub operand : Term → Operand
operand (Written n) = Number n
operand (Held p) = OfRegister (register_of p)

abbrev pub term : Env → Term → ℤ
term e t = number e (operand t)

abbrev pub apply : Op → ℤ → ℤ → ℤ
apply Add a b = a +ℤ b
apply Sub a b = a -ℤ b
apply Mul a b = a *ℤ b

abbrev pub evaluate : Env → Expression → ℤ
evaluate e (Bare x) = number e x
evaluate e (Apply o x y) = apply o (number e x) (number e y)

-- an expression does not fault: it gives a number within the limit
abbrev pub faultless : Env → Expression → Bool
faultless e x = fit (evaluate e x)

-- what is evaluated for a value that a line writes
abbrev pub expression_of : Value → Expression
expression_of (OneTerm t) = Bare (operand t)
expression_of (Joined o t u) = Apply o (operand t) (operand u)

-- what a value gives its register, and whether it does not fault
abbrev pub result : Env → Value → ℤ
result e v = evaluate e (expression_of v)

abbrev pub fine : Env → Value → Bool
fine e v = faultless e (expression_of v)

abbrev pub same : ℤ → ℤ → Bool
same a b = int_le a b && int_le b a

abbrev pub compare : Rel → ℤ → ℤ → Bool
compare Eq a b = same a b
compare Ne a b = not (same a b)
compare Lt a b = int_lt a b
compare Le a b = int_le a b
compare Gt a b = int_lt b a
compare Ge a b = int_le b a

abbrev pub holds : Env → Condition → Bool
holds e c = compare c.rel (term e c.left) (term e c.right)

-- a line's values in the order of the registers that they set
abbrev pub Values : Type 0
Values = List (Option Value)

abbrev pub four : Option Value → Option Value → Option Value → Option Value → Values
four x y z u = x ∷ (y ∷ (z ∷ (u ∷ [])))

abbrev pub values : Line → Values
values Plain = []
values (Setting p v) = Some v ∷ []
values (Move g x y z u) = four x y z u
values (While l c) = []
values (If l c) = []
values (EndIf l) = []
values (EndWhile l) = []

-- a value that is there does not fault
abbrev pub fine_one : Env → Option Value → Bool
fine_one e None = true
fine_one e (Some v) = fine e v

-- none of them faults
abbrev pub all_fine : Env → Values → Bool
all_fine e [] = true
all_fine e (v ∷ vs) = fine_one e v && all_fine e vs
