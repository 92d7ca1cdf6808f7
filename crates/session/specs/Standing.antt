-- What a session keeps to: a certificate that stands is safe, and a run goes under one.
use Rattle.std.specs.Prelude.{◌≡◌, ℕ, List, Some, None, Option}
use Rattle.model.specs.declared.line.Line.{Line}
use Rattle.model.specs.declared.range.Range.{Range}
use Rattle.model.specs.Envelopes.{Envelope}
use Rattle.model.specs.Environments.{Env}
use Rattle.model.specs.Programs.{Closed}
use Rattle.model.specs.Reached.{Reached}
use Rattle.sweep.specs.Sound.{Safe}
use Rattle.certify.specs.declared.refusal.Certificate.{Certificate}
use Rattle.runner.specs.declared.run.Run.{Run}

module _ (lines : List Line) (travel : Envelope) (allowed : List Range) where
  -- where a run goes, it has come to its line by plain steps from home and allowed values
  abbrev pub HasCome : Option ℕ → Env → Type 0
  HasCome None e = Unit {0}
  HasCome (Some n) e = Reached lines travel.home allowed n e

  pub record Under (c : Certificate) (run : Run) : Type 0 where
    pub closed : Closed lines
    pub safe : Safe lines travel allowed c.hulls
    pub has_come : HasCome run.at run.registers

  -- without a certificate no run goes
  abbrev pub Secure : Option Certificate → Run → Type 0
  Secure None run = run.at ≡ None
  Secure (Some c) run = Under c run
