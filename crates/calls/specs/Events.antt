-- What the code's calls are, as events of the law.
use Rattle.std.specs.Prelude.{List, [], ◌∷◌, ◌++◌, Ok, Err, Result}
use Rattle.model.specs.declared.ending.Ending.{Ending}
use Rattle.domain.specs.Lattice.{Lattice, Meaning}
use Rattle.session.specs.Refusals.{dry_refusal, step_refusal}
use Rattle.session.specs.declared.progress.Progress.{Progress}
use Rattle.session.specs.declared.progress.Progress.TheVariants.{WentOn, Commanded, Ended}
use Rattle.session.specs.declared.refusal.DryRefusal.{DryRefusal}
use Rattle.session.specs.declared.refusal.StepRefusal.{StepRefusal}
use Rattle.calls.specs.Law.{AnyDomain, Answer, went_on, commanded, ended, comes_to, refused, Event}

abbrev pub domain : {S : Type 0} {M : Meaning S} → Lattice M → AnyDomain
domain {S} {M} l = record { State = S; means = M; lattice = l }

abbrev pub by_step : Result Progress StepRefusal → Answer
by_step (Ok WentOn) = went_on
by_step (Ok (Commanded p)) = commanded p
by_step (Ok Ended) = ended
by_step (Err x) = refused (step_refusal x)

abbrev pub by_dry : Result Ending DryRefusal → Answer
by_dry (Ok o) = comes_to o
by_dry (Err x) = refused (dry_refusal x)

-- the lists of a tape, as they were and as they are, with the answer of each
abbrev pub recorded : {C A : Type 0} → (C → C → A → List Event) → List C → List C → List A → List Event
recorded f [] ds rs = []
recorded f (c ∷ cs) [] rs = []
recorded f (c ∷ cs) (d ∷ ds) [] = []
recorded f (c ∷ cs) (d ∷ ds) (r ∷ rs) = f c d r ++ recorded f cs ds rs
