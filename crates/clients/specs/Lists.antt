-- The events of certifies, starts, steps and dry runs, and what of steps stays as it was.
use Rattle.std.specs.Prelude.{◌≡◌, ℕ, List, [], ◌∷◌, ℤ, Result}
use Rattle.std.specs.Borrow.{MutBor}
use Rattle.model.specs.declared.ending.Ending.{Ending}
use Rattle.domain.specs.Lattice.{Lattice, Meaning}
use Rattle.certify.specs.Certifies.{Answer as Verdict}
use Rattle.session.specs.Refusals.{start_refusal}
use Rattle.session.specs.declared.progress.Progress.{Progress}
use Rattle.session.specs.declared.refusal.DryRefusal.{DryRefusal}
use Rattle.session.specs.declared.refusal.StartRefusal.{StartRefusal}
use Rattle.session.specs.declared.refusal.StepRefusal.{StepRefusal}
use Rattle.calls.specs.Law.{Event, event, certify, start, step, dry, done_or, by_verdict}
use Rattle.calls.specs.Events.{domain, by_dry, by_step, recorded}
use Rattle.calls.specs.Loans.{TapeStays}

abbrev pub Stepping : Type 0
Stepping = Result Progress StepRefusal

abbrev pub certified : {S : Type 0} {M : Meaning S} → Lattice M → ℕ → Verdict → Event
certified l states r = event (certify (domain l) states) (by_verdict r)

abbrev pub started : List ℤ → Result (Unit {0}) StartRefusal → Event
started vs r = event (start vs) (done_or start_refusal r)

abbrev pub dried : List ℤ → ℕ → Result Ending DryRefusal → Event
dried vs n r = event (dry vs n) (by_dry r)

-- a tape of steps, with as many answers as there is room for
abbrev pub stepped : {S : Type 0} → S → S → Stepping → List Event
stepped c d r = event step (by_step r) ∷ []

abbrev pub steps : {S : Type 0} → List S → List S → List Stepping → List Event
steps cs ds rs = recorded stepped cs ds rs

-- the steps are as they were, and so is what is lent beside their answers
abbrev pub StepsStay : {S : Type 0} → MutBor (List S) → MutBor (List S) → MutBor (List Stepping) → MutBor (List Stepping) → Type 0
StepsStay cs ds qs rs = TapeStays (λ c d r. d ≡ c) cs ds qs rs
