-- One step of a run, as a function: what it answers, and where it leads. That this is a step of the plain run is in Plain.
use Rattle.std.specs.Prelude.{ℕ, ◌+◌, ◌-◌, cond, List, length, ℤ, Some, None, Ok, Err, Option, Result, nat_lt, slice_index_or, slice_set}
use Rattle.model.specs.declared.block.Block.{Block}
use Rattle.model.specs.declared.expression.Parameter.{Parameter}
use Rattle.model.specs.declared.expression.Value.{Value}
use Rattle.model.specs.declared.line.Line.{Line}
use Rattle.model.specs.declared.line.Line.TheVariants.{Plain, Setting, Move, While, If, EndIf, EndWhile}
use Rattle.model.specs.Blocks.{block_of}
use Rattle.model.specs.Environments.{Env, fit, position}
use Rattle.model.specs.Values.{register, result, holds}
use Rattle.runner.specs.declared.run.Stepped.{Stepped}
use Rattle.runner.specs.declared.run.Stepped.TheVariants.{WentOn, Commanded, Ended, Fault}
use Rattle.runner.specs.declared.run.NoRun.{NoRun}
use Rattle.runner.specs.declared.run.Run.{Run}

abbrev pub fitting : ℤ → Option ℤ
fitting n = cond (fit n) (Some n) None

abbrev pub value_of : Env → Value → Option ℤ
value_of e v = fitting (result e v)

-- a value that may be missing, worked out; none where it faults
abbrev pub worked : Env → Option Value → Option (Option ℤ)
worked e None = Some None
worked e (Some v) = elim (value_of e v) [ None ↦ None | Some x ↦ Some (Some x) ]

abbrev pub set_if : Env → ℕ → Option ℤ → Env
set_if e r None = e
set_if e r (Some x) = slice_set e r x

-- the line at n, from 0
abbrev pub line_at : List Line → ℕ → Option Line
line_at xs n = cond (nat_lt n (length xs)) (Some (slice_index_or xs n Plain)) None

-- behind the end of a block, and at its first line; past the last line where there is none
abbrev pub by_end : ℕ → Option ℕ → ℕ
by_end n None = n
by_end n (Some e) = e

abbrev pub behind : ℕ → Option Block → ℕ
behind n None = n
behind n (Some b) = by_end n b.end

abbrev pub first : ℕ → Option Block → ℕ
first n None = n
first n (Some b) = b.first - 1

-- an answer, and the run after it
pub record Went (A : Type 0) : Type 0 where
  pub answer : A
  pub run : Run

abbrev pub gone : {A : Type 0} → Run → A → Went A
gone r a = record { answer = a; run = r }

abbrev pub went : Stepped → ℕ → Env → Went Stepped
went s n e = gone (record { at = Some n; registers = e }) s

-- with a result, or stopped where it is
abbrev pub given : {A : Type 0} → ℕ → Env → Option A → (A → Went Stepped) → Went Stepped
given n e None f = went Fault n e
given n e (Some x) f = f x

abbrev pub commanded : ℕ → Env → Went Stepped
commanded n e = went (Commanded (position e)) n e

-- a parameter takes the value
abbrev pub assigned : ℕ → Env → Parameter → Value → Went Stepped
assigned n e p v = given n e (value_of e v) (λ x. went WentOn (n + 1) (slice_set e (register p) x))

-- all values are worked out before an axis takes its own
abbrev pub moved : ℕ → Env → Option Value → Option Value → Option Value → Option Value → Went Stepped
moved n e x y z u =
    given n e (worked e x) (λ a. given n e (worked e y) (λ b. given n e (worked e z) (λ c. given n e (worked e u) (λ d. commanded (n + 1) (set_if (set_if (set_if (set_if e 0 a) 1 b) 2 c) 3 d)))))

abbrev pub over : List Line → ℕ → Env → Option Line → Went Stepped
over lines n e None = went Ended n e
over lines n e (Some Plain) = went WentOn (n + 1) e
over lines n e (Some (EndIf l)) = went WentOn (n + 1) e
over lines n e (Some (Setting p v)) = assigned n e p v
over lines n e (Some (Move g x y z u)) = moved n e x y z u
over lines n e (Some (While l c)) = went WentOn (cond (holds e c) (n + 1) (behind (length lines) (block_of lines l))) e
over lines n e (Some (If l c)) = went WentOn (cond (holds e c) (n + 1) (behind (length lines) (block_of lines l))) e
over lines n e (Some (EndWhile l)) = went WentOn (first (length lines) (block_of lines l)) e

abbrev pub made : Went Stepped → Went (Result Stepped NoRun)
made w = gone w.run (Ok w.answer)

-- a step of a run that stands at line n; where no run goes, none is made
abbrev pub by_place : List Line → Run → Option ℕ → Went (Result Stepped NoRun)
by_place lines r None = gone r (Err (record {}))
by_place lines r (Some n) = made (over lines n r.registers (line_at lines n))

abbrev pub step_of : List Line → Run → Went (Result Stepped NoRun)
step_of lines r = by_place lines r r.at
