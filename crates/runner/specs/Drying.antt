-- Where a dry run starts, and what one step of it leaves to be done.
use Rattle.std.specs.Prelude.{◌≡◌, ℕ, zero, suc, ◌+◌, Bool, true, cond, List, [], ◌∷◌, length, ℤ, pos, Some, None, Ok, Err, Option, Result, nat_le, nat_lt, slice_index_or}
use Rattle.std.specs.Option.{unwrap_or}
use Rattle.model.specs.declared.ending.Ending.{Ending}
use Rattle.model.specs.declared.ending.Ending.TheVariants.{Ended, Running, Stopped}
use Rattle.model.specs.declared.ending.Cause.{Cause}
use Rattle.model.specs.declared.ending.Cause.TheVariants.{Arithmetic, Travel}
use Rattle.model.specs.declared.line.Line.{Line}
use Rattle.model.specs.Axes.{Position}
use Rattle.model.specs.Envelopes.{Envelope}
use Rattle.model.specs.Environments.{Env}
use Rattle.model.specs.Sides.{kept, lowest}
use Rattle.model.specs.Whole.{Dry}
use Rattle.runner.specs.declared.run.NoRun.{NoRun}
use Rattle.runner.specs.declared.run.Run.{Run}
use Rattle.runner.specs.declared.run.Stepped.{Stepped}
use Rattle.runner.specs.declared.run.Stepped.TheVariants.{WentOn, Commanded, Ended as Over, Fault}
use Rattle.runner.specs.Plain.{run_at}
use Rattle.runner.specs.Steps.{step_of}

-- the axes at home, and the parameters' values
abbrev pub start : Position → List ℤ → Env
start h vs = h.x ∷ (h.y ∷ (h.z ∷ (h.u ∷ (slice_index_or vs 0 (pos 0) ∷ (slice_index_or vs 1 (pos 0) ∷ (slice_index_or vs 2 (pos 0) ∷ (slice_index_or vs 3 (pos 0) ∷ (slice_index_or vs 4 (pos 0) ∷ (slice_index_or vs 5 (pos 0) ∷ [])))))))))

-- the number of the line under a run, from 1; none past the last line, and where no run goes
abbrev pub number_under : List Line → Option ℕ → Option ℕ
number_under lines None = None
number_under lines (Some n) = cond (nat_lt n (length lines)) (Some (n + 1)) None

-- the same where each run has a number: that of the last line past it, and 0 where none goes
abbrev pub number : List Line → Option ℕ → ℕ
number lines None = 0
number lines (Some n) = cond (nat_lt n (length lines)) (n + 1) (length lines)

-- no line stands under a run that is past the last one, or where none goes
abbrev pub is_past : List Line → Option ℕ → Bool
is_past lines None = true
is_past lines (Some n) = nat_le (length lines) n

-- after its last step a run has ended or is running
abbrev pub outlook : Option ℕ → Ending
outlook None = Ended
outlook (Some n) = Running

-- a run stops at the line under it, if there is one
abbrev pub stopped_for : Option ℕ → Cause → Option Ending
stopped_for None c = None
stopped_for (Some n) c = Some (Stopped (record { line = n; cause = c }))

-- a position that breaks a side stops it
abbrev pub stopped_by : Option ℕ → Option ℕ → Option Ending
stopped_by n None = None
stopped_by n (Some k) = stopped_for n (Travel k)

-- the ending that a step over line n with this answer comes to, if the run does not go on
abbrev pub ending_by : Envelope → Option ℕ → Result Stepped NoRun → Option Ending
ending_by v n (Ok WentOn) = None
ending_by v n (Ok (Commanded p)) = stopped_by n (lowest (kept p) 0 v.sides)
ending_by v n (Ok Over) = Some Ended
ending_by v n (Ok Fault) = stopped_for n Arithmetic
ending_by v n (Err e) = Some Ended

abbrev pub ending_at : List Line → Envelope → Run → Option Ending
ending_at lines v r = ending_by v (number_under lines r.at) (step_of lines r).answer

-- what at most so many steps from r come to, in any program, closed or not
unfoldable pub dried : List Line → Envelope → ℕ → Run → Ending
dried lines v zero r = outlook (number_under lines r.at)
dried lines v (suc k) r = unwrap_or (ending_at lines v r) (dried lines v k (step_of lines r).run)

-- a step from r comes to an ending, whatever number of steps was left; or leads to t, and what follows from there follows
abbrev pub Tried : List Line → Envelope → Run → Option Ending → Run → Type 0
Tried lines v r (Some o) t = (i : ℕ) (e : Env) → r ≡ run_at i e → (k : ℕ) → Dry lines v (suc k) i e o
Tried lines v r None t =
    (i : ℕ) (e : Env) → r ≡ run_at i e → (j : ℕ) × (f : Env) × (t ≡ run_at j f) × ((k : ℕ) (o : Ending) → Dry lines v k j f o → Dry lines v (suc k) i e o)
