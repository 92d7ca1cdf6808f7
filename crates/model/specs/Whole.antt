-- Whole runs: where so many steps lead, what a dry run comes to, and that each start has one run.
use Rattle.std.specs.Prelude.{◌≡◌, ℕ, suc, ◌<◌, ◌≤◌, List, length, Some, None}
use Rattle.model.specs.declared.line.Line.{Line}
use Rattle.model.specs.declared.ending.Cause.TheVariants.{Arithmetic, Travel}
use Rattle.model.specs.declared.ending.Ending.{Ending}
use Rattle.model.specs.declared.ending.Ending.TheVariants.{Ended, Running, Stopped}
use Rattle.model.specs.Envelopes.{Envelope}
use Rattle.model.specs.Environments.{Env, position}
use Rattle.model.specs.Sides.{kept, lowest}
use Rattle.model.specs.Runs.{Outcome, goes, commands, faults, Steps}

-- n steps lead from line i with e to line j with f, and no commanded position breaks a side
pub data LeadsTo (lines : List Line) (v : Envelope) : ℕ → ℕ → Env → ℕ → Env → Type 0 where
  here : {i : ℕ} {e : Env} → LeadsTo lines v 0 i e i e
  on : {n i j k : ℕ} {e f g : Env} → Steps lines i e (goes j f) → LeadsTo lines v n j f k g → LeadsTo lines v (suc n) i e k g
  inside : {n i j k : ℕ} {e f g : Env} → Steps lines i e (commands j f) → lowest (kept (position f)) 0 v.sides ≡ None → LeadsTo lines v n j f k g →
      LeadsTo lines v (suc n) i e k g

-- a run of at most n steps from line i with e: it is past the last line, it is still running after n steps, or it has
-- stopped at a line, from 1, where a value faults or a position breaks a side
pub data Dry (lines : List Line) (v : Envelope) (n i : ℕ) (e : Env) : Ending → Type 0 where
  ended : {m j : ℕ} {f : Env} → m ≤ n → LeadsTo lines v m i e j f → length lines ≤ j → Dry lines v n i e Ended
  running : {j : ℕ} {f : Env} → LeadsTo lines v n i e j f → j < length lines → Dry lines v n i e Running
  faulted : {m j : ℕ} {f : Env} → m < n → LeadsTo lines v m i e j f → Steps lines j f faults →
      Dry lines v n i e (Stopped (record { line = suc j; cause = Arithmetic }))
  left : {m j k s : ℕ} {f g : Env} → m < n → LeadsTo lines v m i e j f → Steps lines j f (commands k g) → lowest (kept (position g)) 0 v.sides ≡ Some s →
      Dry lines v n i e (Stopped (record { line = suc j; cause = Travel s }))

-- at each line of a closed program a run makes one step
pub record OneStep (lines : List Line) : Type 0 where
  pub some : (i : ℕ) (e : Env) → i < length lines → (o : Outcome) × Steps lines i e o
  pub only : (i : ℕ) (e : Env) (o u : Outcome) → Steps lines i e o → Steps lines i e u → o ≡ u

-- o is what a dry run comes to, and nothing else is
pub record TheEnding (lines : List Line) (v : Envelope) (n i : ℕ) (e : Env) (o : Ending) : Type 0 where
  pub is : Dry lines v n i e o
  pub only : (u : Ending) → Dry lines v n i e u → u ≡ o
