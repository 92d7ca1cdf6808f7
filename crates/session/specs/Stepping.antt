-- What the call step is answered: the step of the run that goes.
use Rattle.std.specs.Prelude.{Ok, Err, Result}
use Rattle.runner.specs.declared.run.NoRun.{NoRun}
use Rattle.runner.specs.declared.run.Stepped.{Stepped}
use Rattle.runner.specs.declared.run.Stepped.TheVariants.{WentOn as went_on, Commanded as commanded, Ended as ended}
use Rattle.session.specs.declared.progress.Progress.{Progress}
use Rattle.session.specs.declared.progress.Progress.TheVariants.{WentOn, Commanded, Ended}
use Rattle.session.specs.declared.refusal.StepRefusal.{StepRefusal}

-- an answer has no case for a fault
abbrev pub step_done : Progress → Stepped
step_done WentOn = went_on
step_done (Commanded p) = commanded p
step_done Ended = ended

-- an answer of the session, as its run's
abbrev pub stepped : Result Progress StepRefusal → Result Stepped NoRun
stepped (Ok s) = Ok (step_done s)
stepped (Err e) = Err (record {})
