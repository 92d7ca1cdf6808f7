-- A line of the grammar has numbers within the limit only, and so has each line that a text is read as.
use Rattle.std.proofs.Common.{ℕ, ◌≤◌, List, ◌∷◌, pos, neg_ℤ, Some, None, Option, Ok, Err, Result, arith}
use Rattle.std.proofs.lemmas.Int.{ints}
use Rattle.model.specs.declared.expression.Term.{Term}
use Rattle.model.specs.declared.expression.Value.{Value}
use Rattle.model.specs.declared.expression.Condition.{Condition}
use Rattle.model.specs.declared.line.Axis.{Axis}
use Rattle.model.specs.declared.line.Axis.TheVariants.{X, Y, Z, U}
use Rattle.model.specs.declared.line.Line.{Line}
use Rattle.model.specs.Limits.{limit}
use Rattle.model.specs.Environments.{Lies, full}
use Rattle.model.specs.Values.{Values, four}
use Rattle.model.specs.Written.{WrittenTerm, WrittenValue, WrittenCondition, WrittenValues, WrittenLine}
use Rattle.grammar.specs.declared.refusal.Refusal.{Refusal}
use Rattle.grammar.specs.declared.symbol.Symbol.{Symbol}
use Rattle.grammar.specs.Axes.{AxisValues, put, no_values}
use Rattle.grammar.specs.Grammar.{TermIs, ValueIs, ConditionIs, WordsAre, LineIs}
use Rattle.grammar.specs.Grammar as is
use Rattle.grammar.specs.Law.{Answers, too_long, spoilt, accepted, stuck, TheAnswer}

plus_lies : (n : ℕ) → n ≤ limit → Lies (pos n) full
plus_lies n h = record { low = omega (arith, ints); high = omega (arith, ints) }

minus_lies : (n : ℕ) → n ≤ limit → Lies (neg_ℤ (pos n)) full
minus_lies n h = record { low = omega (arith, ints); high = omega (arith, ints) }

term_written : (ts : List Symbol) (t : Term) → TermIs ts t → WrittenTerm t
term_written ts t (is.number n h) = plus_lies n h
term_written ts t (is.plus n h) = plus_lies n h
term_written ts t (is.minus n h) = minus_lies n h
term_written ts t (is.parameter n l h) = tt

value_written : (vs : List Symbol) (v : Value) → ValueIs vs v → WrittenValue v
value_written vs v (is.term h) = term_written _ _ h
value_written vs v (is.op ha o hb) = (term_written _ _ ha, term_written _ _ hb)

condition_written : (cs : List Symbol) (c : Condition) → ConditionIs cs c → WrittenCondition c
condition_written cs c (is.condition r ha hb) = (term_written _ _ ha, term_written _ _ hb)

-- ---- the axes of a move
abbrev WrittenAxes : AxisValues → Type 0
WrittenAxes m = WrittenValues (four m.x m.y m.z m.u)

-- each axis may have no value, so the four are put one by one
behind : (o : Option Value) (vs : Values) → WrittenValues (o ∷ vs) → WrittenValues vs
behind None vs h = h
behind (Some v) vs h = h.1

-- other values behind the same first one
before : (o : Option Value) (vs ws : Values) → (WrittenValues vs → WrittenValues ws) → WrittenValues (o ∷ vs) → WrittenValues (o ∷ ws)
before None vs ws f h = f h
before (Some v) vs ws f h = (h.0, f h.1)

put_written : (m : AxisValues) (a : Axis) (v : Value) → WrittenValue v → WrittenAxes m → WrittenAxes (put m a v)
put_written m X v w h = (w, behind m.x _ h)
put_written m Y v w h = before m.x _ _ (λ h. (w, behind m.y _ h)) h
put_written m Z v w h = before m.x _ _ (before m.y _ _ (λ h. (w, behind m.z _ h))) h
put_written m U v w h = before m.x _ _ (before m.y _ _ (before m.z _ _ (λ h. (w, behind m.u _ h)))) h

words_written : (m n : AxisValues) (ts : List Symbol) → WordsAre m ts n → WrittenAxes m → WrittenAxes n
words_written m n ts is.none w = w
words_written m n ts (is.word {v = v} a f h more) w = words_written (put m a v) n _ more (put_written m a v (value_written _ _ h) w)

-- ---- lines
pub line_written : (row : List Symbol) (x : Line) → LineIs row x → WrittenLine x
line_written row x is.plain = tt
line_written row x (is.setting n l h v) = value_written _ _ v
line_written row x (is.move {v = v} {m = m} g a l h more) = words_written (put no_values a v) m _ more (put_written no_values a v (value_written _ _ h) tt)
line_written row x (is.while n l h c) = condition_written _ _ c
line_written row x (is.if n l h c) = condition_written _ _ c
line_written row x (is.endif n l h) = tt
line_written row x (is.endwhile n l h) = tt

-- what an answer says of the line that it reads
abbrev WrittenAnswer : Result Line Refusal → Type 0
WrittenAnswer (Ok x) = WrittenLine x
WrittenAnswer (Err e) = Unit {0}

answer_written : (s : List ℕ) (r : Result Line Refusal) → Answers s r → WrittenAnswer r
answer_written s r (too_long h) = tt
answer_written s r (spoilt p h) = tt
answer_written s r (accepted ts x c t h) = line_written _ x h
answer_written s r (stuck c p h a) = tt

pub read_written : (s : List ℕ) (x : Line) → TheAnswer s (Ok x) → WrittenLine x
read_written s x h = answer_written s (Ok x) h.is
