-- What a step of the code is, in the words of the plain run.
use Rattle.std.specs.Prelude.{◌≡◌, ℕ, ◌≤◌, List, length, replicate, pos, Some, None, Ok, Err, Option, Result}
use Rattle.model.specs.declared.line.Line.{Line}
use Rattle.model.specs.Environments.{Env, position, registers}
use Rattle.model.specs.Runs.{goes, commands, faults, Steps}
use Rattle.runner.specs.declared.run.Stepped.{Stepped}
use Rattle.runner.specs.declared.run.Stepped.TheVariants.{WentOn, Commanded, Ended, Fault}
use Rattle.runner.specs.declared.run.NoRun.{NoRun}
use Rattle.runner.specs.declared.run.Run.{Run}

-- where no run goes
abbrev pub no_run : Run
no_run = record { at = None; registers = replicate registers (pos 0) }

abbrev pub run_at : ℕ → Env → Run
run_at n e = record { at = Some n; registers = e }

-- from line i with e a step answers s and leads to t: the plain run goes on, commands a position, stops where it is at a
-- fault, or has ended
abbrev pub LeadsOn : List Line → ℕ → Env → Stepped → Run → Type 0
LeadsOn lines i e WentOn t = (j : ℕ) × (t ≡ run_at j t.registers) × Steps lines i e (goes j t.registers)
LeadsOn lines i e (Commanded p) t = (j : ℕ) × (t ≡ run_at j t.registers) × Steps lines i e (commands j t.registers) × (p ≡ position t.registers)
LeadsOn lines i e Ended t = (t ≡ run_at i e) × (length lines ≤ i)
LeadsOn lines i e Fault t = (t ≡ run_at i e) × Steps lines i e faults

-- a step is refused where no run goes, and nowhere else
abbrev pub From : List Line → Run → Option ℕ → Result Stepped NoRun → Run → Type 0
From lines r None (Ok s) t = ⊥
From lines r None (Err e) t = t ≡ r
From lines r (Some i) (Ok s) t = LeadsOn lines i r.registers s t
From lines r (Some i) (Err e) t = ⊥

abbrev pub PlainStep : List Line → Run → Result Stepped NoRun → Run → Type 0
PlainStep lines r s t = From lines r r.at s t
