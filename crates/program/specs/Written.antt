-- A test of lines: each of their numbers lies within the limit.
use Rattle.std.specs.Prelude.{Bool, true, ◌&&◌, List, [], ◌∷◌, Some, None}
use Rattle.model.specs.declared.expression.Term.{Term}
use Rattle.model.specs.declared.expression.Term.TheVariants.{Number, Parameter as Held}
use Rattle.model.specs.declared.expression.Value.{Value}
use Rattle.model.specs.declared.expression.Value.TheVariants.{Term as OneTerm, Joined}
use Rattle.model.specs.declared.expression.Condition.{Condition}
use Rattle.model.specs.declared.line.Line.{Line}
use Rattle.model.specs.declared.line.Line.TheVariants.{Plain, Setting, Move, While, If, EndIf, EndWhile}
use Rattle.model.specs.Environments.{fit}
use Rattle.model.specs.Values.{Values, four}

abbrev pub is_written_term : Term → Bool
is_written_term (Number n) = fit n
is_written_term (Held p) = true

abbrev pub is_written_value : Value → Bool
is_written_value (OneTerm t) = is_written_term t
is_written_value (Joined o t u) = is_written_term t && is_written_term u

abbrev pub is_written_condition : Condition → Bool
is_written_condition c = is_written_term c.left && is_written_term c.right

abbrev pub are_written_values : Values → Bool
are_written_values [] = true
are_written_values (None ∷ vs) = are_written_values vs
are_written_values (Some v ∷ vs) = is_written_value v && are_written_values vs

abbrev pub is_written : Line → Bool
is_written Plain = true
is_written (Setting p v) = is_written_value v
is_written (Move g x y z u) = are_written_values (four x y z u)
is_written (While l c) = is_written_condition c
is_written (If l c) = is_written_condition c
is_written (EndIf l) = true
is_written (EndWhile l) = true

abbrev pub all_written : List Line → Bool
all_written [] = true
all_written (x ∷ xs) = is_written x && all_written xs
