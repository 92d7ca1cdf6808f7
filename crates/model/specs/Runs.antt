-- Plain runs: what one step does at a line, from 0, and an environment.
use Rattle.std.specs.Prelude.{◌≡◌, ℕ, suc, true, false, List, [], ◌∷◌, Some, None, Option, slice_set}
use Rattle.model.specs.declared.expression.Value.{Value}
use Rattle.model.specs.declared.expression.Parameter.{Parameter}
use Rattle.model.specs.declared.expression.Condition.{Condition}
use Rattle.model.specs.declared.line.Motion.{Motion}
use Rattle.model.specs.declared.line.Line.{Line}
use Rattle.model.specs.declared.line.Line.TheVariants.{Plain, Setting, Move, While, If, EndIf, EndWhile}
use Rattle.model.specs.Environments.{Env}
use Rattle.model.specs.Values.{register, result, holds, values, four, Values, fine, all_fine}
use Rattle.model.specs.Programs.{Stands}

-- a step goes on at a line with an environment, does so and commands the position there, or stops at a fault
pub data Outcome : Type 0 where
  goes : ℕ → Env → Outcome
  commands : ℕ → Env → Outcome
  faults : Outcome

abbrev pub put_one : Env → ℕ → Option Value → Env → Env
put_one old r None e = e
put_one old r (Some v) e = slice_set e r (result old v)

-- the registers from r on take those of the values that are there, all worked out at the environment `old`
abbrev pub put : Env → ℕ → Values → Env → Env
put old r [] e = e
put old r (v ∷ vs) e = put old (suc r) vs (put_one old r v e)

pub data Steps (lines : List Line) (i : ℕ) (e : Env) : Outcome → Type 0 where
  passes : Stands lines i Plain → Steps lines i e (goes (suc i) e)
  ends : {l : ℕ} → Stands lines i (EndIf l) → Steps lines i e (goes (suc i) e)
  sets : {p : Parameter} {v : Value} → Stands lines i (Setting p v) → fine e v ≡ true → Steps lines i e (goes (suc i) (slice_set e (register p) (result e v)))
  moves : {g : Motion} {x y z u : Option Value} → Stands lines i (Move g x y z u) → all_fine e (four x y z u) ≡ true → Steps lines i e (commands (suc i) (put e 0 (four x y z u) e))
  stops : {x : Line} → Stands lines i x → all_fine e (values x) ≡ false → Steps lines i e faults
  enters : {l : ℕ} {c : Condition} → Stands lines i (While l c) → holds e c ≡ true → Steps lines i e (goes (suc i) e)
  leaves : {l j : ℕ} {c : Condition} → Stands lines i (While l c) → holds e c ≡ false → Stands lines j (EndWhile l) → Steps lines i e (goes (suc j) e)
  back : {l j : ℕ} {c : Condition} → Stands lines i (EndWhile l) → Stands lines j (While l c) → Steps lines i e (goes j e)
  does : {l : ℕ} {c : Condition} → Stands lines i (If l c) → holds e c ≡ true → Steps lines i e (goes (suc i) e)
  skips : {l j : ℕ} {c : Condition} → Stands lines i (If l c) → holds e c ≡ false → Stands lines j (EndIf l) → Steps lines i e (goes (suc j) e)
