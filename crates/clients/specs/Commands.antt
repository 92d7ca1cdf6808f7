-- Where a step commands the tool to.
use Rattle.std.specs.Prelude.{IfOk, Result}
use Rattle.model.specs.Axes.{Position}
use Rattle.session.specs.declared.progress.Progress.{Progress}
use Rattle.session.specs.declared.progress.Progress.TheVariants.{WentOn, Commanded, Ended}
use Rattle.session.specs.declared.refusal.StepRefusal.{StepRefusal}

abbrev pub Commands : (Position → Type 0) → Progress → Type 0
Commands P WentOn = Unit {0}
Commands P (Commanded p) = P p
Commands P Ended = Unit {0}

-- the position is one of these, if a step was made that commands one
abbrev pub CommandsIn : (Position → Type 0) → Result Progress StepRefusal → Type 0
CommandsIn P r = IfOk r (Commands P)
