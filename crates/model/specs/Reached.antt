-- Where runs come to, from home and allowed parameters, whether or not they ever end.
use Rattle.std.specs.Prelude.{◌≡◌, ℕ, ◌+◌, ◌<◌, List, length, slice_index_or}
use Rattle.model.specs.declared.line.Line.{Line}
use Rattle.model.specs.declared.range.Range.{Range}
use Rattle.model.specs.Axes.{Position}
use Rattle.model.specs.Environments.{Env, Lies, LegalOf, at, axes, full, position, registers}
use Rattle.model.specs.Runs.{goes, commands, Steps}

-- a run starts with the axes at home and each parameter in its allowed range
pub record Begins (home : Position) (allowed : List Range) (e : Env) : Type 0 where
  pub legal : LegalOf registers e
  pub at_home : position e ≡ home
  pub values : (k : ℕ) → k < length allowed → Lies (at e (axes + k)) (slice_index_or allowed k full)

-- a run comes to the line, from 0, with the environment
pub data Reached (lines : List Line) (home : Position) (allowed : List Range) : ℕ → Env → Type 0 where
  begins : {e : Env} → Begins home allowed e → Reached lines home allowed 0 e
  goes_on : {i j : ℕ} {e f : Env} → Reached lines home allowed i e → Steps lines i e (goes j f) → Reached lines home allowed j f
  commanded : {i j : ℕ} {e f : Env} → Reached lines home allowed i e → Steps lines i e (commands j f) → Reached lines home allowed j f
