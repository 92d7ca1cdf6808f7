-- What the calls certify and step promise beyond their answers.
use Rattle.std.specs.Prelude.{◌≡◌, ℕ, List, map, length, ℤ, Some, None, Ok, Err, Option, slice_index_or}
use Rattle.std.specs.List.{AllByRecursion}
use Rattle.model.specs.declared.ending.Ending.TheVariants.{Ended, Stopped}
use Rattle.model.specs.declared.line.Line.{Line}
use Rattle.model.specs.declared.range.Range.{Range}
use Rattle.model.specs.Axes.{Position}
use Rattle.model.specs.Envelopes.{Envelope}
use Rattle.model.specs.Environments.{Env}
use Rattle.model.specs.Programs.{Closed}
use Rattle.model.specs.Whole.{TheEnding}
use Rattle.domain.specs.Lattice.{single}
use Rattle.sweep.specs.Exact.{NoWhile}
use Rattle.sweep.specs.Sound.{LiesSome}
use Rattle.certify.specs.Certifies.{Answer}
use Rattle.certify.specs.declared.refusal.CertifyRefusal.TheVariants.{Open, Store, Uncertified}
use Rattle.runner.specs.declared.run.Run.{Run}
use Rattle.runner.specs.Drying.{start}
use Rattle.runner.specs.Plain.{PlainStep}
use Rattle.session.specs.declared.progress.Progress.{Progress}
use Rattle.session.specs.declared.progress.Progress.TheVariants.{WentOn, Commanded, Ended as HasEnded}
use Rattle.session.specs.Answers.{dry_answer}
use Rattle.session.specs.Stepping.{step_done}

-- ---- certify
-- a verdict says what a dry run of so many steps comes to; a refusal says nothing
abbrev pub DryEnds : List Line → Envelope → ℕ → Env → Answer → Type 0
DryEnds lines travel k e (Ok c) = TheEnding lines travel k 0 e Ended
DryEnds lines travel k e (Err Open) = Unit {0}
DryEnds lines travel k e (Err Store) = Unit {0}
DryEnds lines travel k e (Err (Uncertified f)) = TheEnding lines travel k 0 e (Stopped f)

-- where a closed program has no loop, and each parameter one value that is allowed, a dry run with these values and a step for each line
-- is accepted, and comes to what the verdict says
abbrev pub LikeDry : List Line → Envelope → List Range → Answer → Type 0
LikeDry lines travel allowed r = (vs : List ℤ) → AllByRecursion NoWhile lines → allowed ≡ map single vs → Closed lines →
    (dry_answer lines vs (length lines) ≡ Ok tt) × DryEnds lines travel (length lines) (start travel.home vs) r

-- ---- step
-- the hull of what moves command on each axis, if any
abbrev pub Hulls : Type 0
Hulls = List (Option Range)

-- each coordinate lies in its hull
abbrev pub InHulls : Position → Hulls → Type 0
InHulls p hs = LiesSome p.x (slice_index_or hs 0 None) × LiesSome p.y (slice_index_or hs 1 None) × LiesSome p.z (slice_index_or hs 2 None) × LiesSome p.u (slice_index_or hs 3 None)

abbrev pub InCertificate : Position → Option Hulls → Type 0
InCertificate p None = ⊥
InCertificate p (Some hs) = InHulls p hs

-- what is commanded lies in the travel and in the certificate that stands
abbrev pub Inside : Envelope → Option Hulls → Progress → Type 0
Inside travel c WentOn = Unit {0}
Inside travel c (Commanded p) = travel.region p × InCertificate p c
Inside travel c HasEnded = Unit {0}

-- the program is closed, and its plain run makes this step
abbrev pub StepsPlainly : List Line → Run → Progress → Run → Type 0
StepsPlainly lines r s t = Closed lines × PlainStep lines r (Ok (step_done s)) t
