-- The test of written lines says what it means, and still passes with one written line more.
use Rattle.std.proofs.Common.{◌≡◌, true, List, [], ◌∷◌, ◌++◌, Some, None, refl}
use Rattle.std.proofs.lemmas.Bool.{and_parts, and_from}
use Rattle.std.specs.List.{AllByRecursion}
use Rattle.model.specs.declared.expression.Term.{Term}
use Rattle.model.specs.declared.expression.Term.TheVariants.{Number, Parameter as Held}
use Rattle.model.specs.declared.expression.Value.{Value}
use Rattle.model.specs.declared.expression.Value.TheVariants.{Term as OneTerm, Joined}
use Rattle.model.specs.declared.expression.Condition.{Condition}
use Rattle.model.specs.declared.line.Line.{Line}
use Rattle.model.specs.declared.line.Line.TheVariants.{Plain, Setting, Move, While, If, EndIf, EndWhile}
use Rattle.model.specs.Environments.{full}
use Rattle.model.specs.Values.{Values, four}
use Rattle.model.specs.Written.{WrittenTerm, WrittenValue, WrittenCondition, WrittenValues, WrittenLine}
use Rattle.program.specs.Written.{is_written_term, is_written_value, is_written_condition, are_written_values, is_written, all_written}
use Rattle.model.proofs.Numbers.{lies_in, in_lies}

-- ---- what passes is written
passing_term : (t : Term) → is_written_term t ≡ true → WrittenTerm t
passing_term (Number n) h = lies_in n full h
passing_term (Held p) h = tt

passing_value : (v : Value) → is_written_value v ≡ true → WrittenValue v
passing_value (OneTerm t) h = passing_term t h
passing_value (Joined o t u) h = let q = and_parts (is_written_term t) (is_written_term u) h in (passing_term t q.0, passing_term u q.1)

passing_condition : (c : Condition) → is_written_condition c ≡ true → WrittenCondition c
passing_condition c h = let q = and_parts (is_written_term c.left) (is_written_term c.right) h in (passing_term c.left q.0, passing_term c.right q.1)

passing_values : (vs : Values) → are_written_values vs ≡ true → WrittenValues vs
passing_values [] h = tt
passing_values (None ∷ vs) h = passing_values vs h
passing_values (Some v ∷ vs) h =
    let q = and_parts (is_written_value v) (are_written_values vs) h in
    (passing_value v q.0, passing_values vs q.1)

pub passing_line : (x : Line) → is_written x ≡ true → WrittenLine x
passing_line Plain h = tt
passing_line (Setting p v) h = passing_value v h
passing_line (Move g x y z u) h = passing_values (four x y z u) h
passing_line (While l c) h = passing_condition c h
passing_line (If l c) h = passing_condition c h
passing_line (EndIf l) h = tt
passing_line (EndWhile l) h = tt

pub passing_lines : (xs : List Line) → all_written xs ≡ true → AllByRecursion WrittenLine xs
passing_lines [] h = tt
passing_lines (x ∷ xs) h = let q = and_parts (is_written x) (all_written xs) h in (passing_line x q.0, passing_lines xs q.1)

-- ---- what is written passes
term_passes : (t : Term) → WrittenTerm t → is_written_term t ≡ true
term_passes (Number n) h = in_lies n full h
term_passes (Held p) h = refl

value_passes : (v : Value) → WrittenValue v → is_written_value v ≡ true
value_passes (OneTerm t) h = term_passes t h
value_passes (Joined o t u) h = and_from _ _ (term_passes t h.0) (term_passes u h.1)

condition_passes : (c : Condition) → WrittenCondition c → is_written_condition c ≡ true
condition_passes c h = and_from _ _ (term_passes c.left h.0) (term_passes c.right h.1)

values_pass : (vs : Values) → WrittenValues vs → are_written_values vs ≡ true
values_pass [] h = refl
values_pass (None ∷ vs) h = values_pass vs h
values_pass (Some v ∷ vs) h = and_from _ _ (value_passes v h.0) (values_pass vs h.1)

pub line_passes : (x : Line) → WrittenLine x → is_written x ≡ true
line_passes Plain h = refl
line_passes (Setting p v) h = value_passes v h
line_passes (Move g x y z u) h = values_pass (four x y z u) h
line_passes (While l c) h = condition_passes c h
line_passes (If l c) h = condition_passes c h
line_passes (EndIf l) h = refl
line_passes (EndWhile l) h = refl

-- ---- one more line
pub written_more : (xs : List Line) (x : Line) → all_written xs ≡ true → WrittenLine x → all_written (xs ++ (x ∷ [])) ≡ true
written_more [] x h w = and_from _ _ (line_passes x w) refl
written_more (y ∷ ys) x h w = let q = and_parts (is_written y) (all_written ys) h in and_from _ _ q.0 (written_more ys x q.1 w)
