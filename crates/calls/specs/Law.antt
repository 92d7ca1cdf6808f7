-- The law of the controller: what each call of a list is answered, if the list is played on a session just made. It speaks of calls and
-- answers alone, and is read from top to bottom: what a call is; what stands after the calls before it; what it is answered there.
--
--   call, answer, event   one of the seven calls; what it is answered; a call with the answer that it had
--   past                  the events before a call, the newest first
--   now                   what stands after the past: program, allowed ranges, certificate, and the run
--   travel                the envelope of the session's travel: its region, its sides, and home
--   lines, i, j           the lines of a program; places in it, from 0
--   e, f                  environments: what each register holds
--   vs                    values of the parameters, as a start or a dry run gives them
--   states                how many states of its domain are lent to a certify
--
-- It cites what is settled elsewhere: reading a text (grammar), blocks (program), sweeps (certify), plain runs (model), ranges (session).
use Rattle.std.specs.Prelude.{◌≡◌, ℕ, ◌-◌, ◌≤◌, ◌<◌, Bool, true, false, cond, ◌↔◌, List, [], ◌∷◌, ◌++◌, length, map, nat_le, ℤ, pos}
use Rattle.std.specs.Prelude.{Some, None, Ok, Err, Option, Result, is_some, slice_index_or, slice_set}
use Rattle.std.specs.List.{AllByRecursion}
use Rattle.grammar.specs.Law.{TheAnswer}
use Rattle.grammar.specs.declared.refusal.Refusal.{Refusal as NoLine}
use Rattle.model.specs.Axes.{Position}
use Rattle.model.specs.Blocks.{closed}
use Rattle.model.specs.Envelopes.{Envelope}
use Rattle.model.specs.Environments.{Env, Lies, full, parameters, position, registers}
use Rattle.model.specs.Refusals.{Told, failure_in}
use Rattle.model.specs.Runs.{Steps, goes, commands, faults}
use Rattle.model.specs.Whole.{TheEnding}
use Rattle.model.specs.declared.ending.Ending.{Ending}
use Rattle.model.specs.declared.ending.Failure.{Failure}
use Rattle.model.specs.declared.line.Line.{Line}
use Rattle.model.specs.declared.range.Range.{Range}
use Rattle.domain.specs.Lattice.{Lattice, Meaning, single}
use Rattle.domain.specs.Tracking.{LosesNothing}
use Rattle.program.specs.Entry.{by_text}
use Rattle.program.specs.Limits.{max_lines}
use Rattle.program.specs.Numbers.{line_refusal}
use Rattle.program.specs.declared.refusal.LineRefusal.{LineRefusal}
use Rattle.program.specs.declared.refusal.LineRefusal.TheVariants.{Table}
use Rattle.program.specs.declared.refusal.TableRefusal.TheVariants.{Lines}
use Rattle.runner.specs.Drying.{start as start_of}
use Rattle.sweep.specs.Blocks.{states_for}
use Rattle.sweep.specs.Exact.{NoWhile}
use Rattle.certify.specs.Certifies.{Answer as Verdict, TheVerdict, Promised}
use Rattle.certify.specs.Refusals.{certify_refusal}
use Rattle.certify.specs.declared.refusal.CertifyRefusal.TheVariants.{Uncertified}
use Rattle.session.specs.Answers.{no_ranges, allow_answer, start_answer, dry_answer}
use Rattle.session.specs.Promises.{Hulls, InCertificate}
use Rattle.session.specs.Refusals.{allow_refusal, start_refusal, step_refusal, dry_refusal}
use Rattle.session.specs.declared.refusal.DryRefusal.{DryRefusal}
use Rattle.session.specs.declared.refusal.StepRefusal.TheVariants.{NoRun}

-- ---- calls and answers
-- the domain that a certify brings with its states: what these mean, and the lattice on that. Certify takes domains alone whose laws hold.
pub record AnyDomain : Type 1 where
  pub State : Type 0
  pub means : Meaning State
  pub lattice : Lattice means

pub data Call : Type 1 where
  line : (text : List ℕ) → Call
  allow : (parameter : ℕ) (range : Range) → Call
  wipe : Call
  certify : (domain : AnyDomain) (states : ℕ) → Call
  start : (values : List ℤ) → Call
  step : Call
  dry : (values : List ℤ) (steps : ℕ) → Call

-- a call is done, or says what it found; or it is refused, by a number and what goes with it
pub data Answer : Type 0 where
  done : Answer
  certified : Hulls → Answer
  went_on : Answer
  commanded : Position → Answer
  ended : Answer
  comes_to : Ending → Answer
  refused : Told → Answer

pub data Event : Type 1 where
  event : (call : Call) (answer : Answer) → Event

-- every answer but a refusal accepts the call
abbrev pub accepted : Answer → Bool
accepted (refused why) = false
accepted a = true

-- certify has judged the program where it answers a certificate, or a failure of the program
abbrev pub judges : Answer → Bool
judges (refused why) = is_some (failure_in why.detail)
judges a = true

-- a result of the code, as an answer
abbrev pub done_or : {E : Type 0} → (E → Told) → Result (Unit {0}) E → Answer
done_or tells (Ok u) = done
done_or tells (Err why) = refused (tells why)

abbrev pub by_verdict : Verdict → Answer
by_verdict (Ok c) = certified c.hulls
by_verdict (Err why) = refused (certify_refusal why)

-- ---- what stands after the past
-- one line more than before, as which the text is read
pub record OneMore (text : List ℕ) (Before : List Line → Type 0) (lines : List Line) : Type 0 where
  pub before : List Line
  pub held : Before before
  pub added : Line
  pub read : TheAnswer text (Ok added)
  pub is : lines ≡ before ++ (added ∷ [])

-- the program holds the line of each accepted text that no wipe follows, in order
abbrev pub ProgramIs : List Event → List Line → Type 0
ProgramIs [] lines = lines ≡ []
ProgramIs (event (line text) a ∷ past) lines = cond (accepted a) (OneMore text (ProgramIs past) lines) (ProgramIs past lines)
ProgramIs (event wipe a ∷ past) lines = lines ≡ []
ProgramIs (event call a ∷ past) lines = ProgramIs past lines

-- these lines are the program, and no others are
pub record TheProgram (past : List Event) (lines : List Line) : Type 0 where
  pub is : ProgramIs past lines
  pub only : (others : List Line) → ProgramIs past others → others ≡ lines

-- a parameter may be what its newest accepted range says that no wipe follows, or 0 alone
abbrev pub allowed_after : List Event → List Range
allowed_after [] = no_ranges
allowed_after (event (allow n range) a ∷ past) = cond (accepted a) (slice_set (allowed_after past) (n - 1) range) (allowed_after past)
allowed_after (event wipe a ∷ past) = no_ranges
allowed_after (event call a ∷ past) = allowed_after past

-- a call ends the certificate that stands, and the run under it: an accepted line or range, a wipe, or a certify that has judged
abbrev pub ends : Call → Answer → Bool
ends (line text) a = accepted a
ends (allow n range) a = accepted a
ends wipe a = true
ends (certify domain states) a = judges a
ends call a = false

-- the hulls of the certificate that an answer gives
abbrev pub hulls_in : Answer → Option Hulls
hulls_in (certified hulls) = Some hulls
hulls_in a = None

-- the newest certificate stands, unless a later call has ended it
abbrev pub certificate_after : List Event → Option Hulls
certificate_after [] = None
certificate_after (event call a ∷ past) = cond (ends call a) (hulls_in a) (certificate_after past)

-- whether a start was accepted under that certificate
abbrev pub started_after : List Event → Bool
started_after [] = false
started_after (event (start vs) a ∷ past) = cond (accepted a) true (started_after past)
started_after (event call a ∷ past) = cond (ends call a) false (started_after past)

-- one step of the plain run from line i with e: its answer, and the next place, line j with f; a run that has ended stays where it is
pub data NextPlace (lines : List Line) (i : ℕ) (e : Env) : Answer → ℕ → Env → Type 0 where
  by_going : {j : ℕ} {f : Env} → Steps lines i e (goes j f) → NextPlace lines i e went_on j f
  by_command : {j : ℕ} {f : Env} → Steps lines i e (commands j f) → NextPlace lines i e (commanded (position f)) j f
  at_end : length lines ≤ i → NextPlace lines i e ended i e

-- the newest run under that certificate is at line i with e: it began at home with the values of its start, and each accepted step led it
-- to the next place. It is a run of the lines that stand, since an accepted line ends it.
abbrev pub RunIs : Position → List Line → List Event → ℕ → Env → Type 0
RunIs home lines [] i e = ⊥
RunIs home lines (event (start vs) a ∷ past) i e = cond (accepted a) ((i ≡ 0) × (e ≡ start_of home vs)) (RunIs home lines past i e)
RunIs home lines (event step a ∷ past) i e =
    cond (accepted a) ((j : ℕ) × (f : Env) × RunIs home lines past j f × NextPlace lines j f a i e) (RunIs home lines past i e)
RunIs home lines (event call a ∷ past) i e = cond (ends call a) ⊥ (RunIs home lines past i e)

-- all that stands
pub record Standing : Type 1 where
  pub program : List Line
  pub allowed : List Range
  pub certificate : Option Hulls
  pub started : Bool
  pub run : ℕ → Env → Type 0

abbrev pub standing : Position → List Event → List Line → Standing
standing home past lines = record {
  program = lines;
  allowed = allowed_after past;
  certificate = certificate_after past;
  started = started_after past;
  run = RunIs home lines past;
}

-- there is one program after the past, and with it what stands is so
abbrev pub After : Envelope → List Event → (Standing → Type 0) → Type 0
After travel past IsSo = (lines : List Line) × TheProgram past lines × IsSo (standing travel.home past lines)

-- ---- what is answered
-- line: a full program takes no text. Else the text is refused as it is read, or the line that it is read as goes by the rules of blocks.
abbrev pub take_text : List Line → Result Line NoLine → Result (Unit {0}) LineRefusal
take_text lines reading = cond (nat_le max_lines (length lines)) (Err (Table Lines)) (by_text lines reading)

pub record AnswersLine (lines : List Line) (text : List ℕ) (a : Answer) : Type 0 where
  pub reading : Result Line NoLine
  pub the_reading : TheAnswer text reading
  pub is : a ≡ done_or line_refusal (take_text lines reading)

-- dry: refused by its rule, or else what the plain run from home with these values comes to within so many steps
pub data AnswersDry (travel : Envelope) (lines : List Line) (vs : List ℤ) (steps : ℕ) : Answer → Type 0 where
  not_run : {why : DryRefusal} → dry_answer lines vs steps ≡ Err why → AnswersDry travel lines vs steps (refused (dry_refusal why))
  is_run : {end : Ending} → dry_answer lines vs steps ≡ Ok tt → TheEnding lines travel steps 0 (start_of travel.home vs) end →
      AnswersDry travel lines vs steps (comes_to end)

-- a verdict agrees with a dry run: both end well, or both name one line with one cause
pub record Agree (verdict dried : Answer) : Type 0 where
  pub well : (accepted verdict ≡ true) ↔ (dried ≡ comes_to Ending.Ended)
  pub fails : (cause : Failure) → (verdict ≡ refused (certify_refusal (Uncertified cause))) ↔ (dried ≡ comes_to (Ending.Stopped cause))

-- one run alone is possible: a closed program without WHILE, one value for each parameter, and a state for each block
pub record OneRun (now : Standing) (vs : List ℤ) (states : ℕ) : Type 0 where
  pub closes : closed now.program ≡ true
  pub straight : AllByRecursion NoWhile now.program
  pub values : now.allowed ≡ map single vs
  pub enough : states_for now.program ≤ states

-- there a verdict agrees with what a dry run with these values and a step for each line is answered
abbrev pub AgreesWithDry : Envelope → Standing → ℕ → Answer → Type 0
AgreesWithDry travel now states a =
    (vs : List ℤ) → OneRun now vs states → (dried : Answer) × AnswersDry travel now.program vs (length now.program) dried × Agree a dried

-- certify: the one verdict of the repeated sweeps in its domain. Under a certificate no step of any run from home and allowed values
-- faults, and what it commands lies in the travel and in the certificate. The verdict is exact where the domain loses nothing on single
-- values. That is a fact of its operations, proved of states of one set for each register (pointwise::laws), as intervals are, and of each
-- product with such a first side (domain::laws).
pub record AnswersCertify (travel : Envelope) (now : Standing) (domain : AnyDomain) (states : ℕ) (a : Answer) : Type 0 where
  pub verdict : Verdict
  pub the_verdict : TheVerdict domain.lattice now.program travel now.allowed states verdict
  pub promised : Promised now.program travel now.allowed verdict
  pub is : a ≡ by_verdict verdict
  pub exact : LosesNothing registers domain.lattice → AgreesWithDry travel now states a

-- start: accepted where a certificate stands and each value lies in its parameter's range, and nowhere else
abbrev pub AllLie : List ℤ → List Range → Type 0
AllLie vs ranges = (k : ℕ) → k < parameters → Lies (slice_index_or vs k (pos 0)) (slice_index_or ranges k full)

pub record AnswersStart (now : Standing) (vs : List ℤ) (a : Answer) : Type 0 where
  pub by_rule : a ≡ done_or start_refusal (start_answer now.certificate now.allowed vs)
  pub when : (accepted a ≡ true) ↔ ((hulls : Hulls) × (now.certificate ≡ Some hulls) × AllLie vs now.allowed)

-- step: accepted where a start was, under the certificate that stands; that is where a run is somewhere. It is answered as the plain run
-- goes on from there; no value faults, and a position that is commanded lies in the travel and in the certificate.
pub record AnswersStep (travel : Envelope) (now : Standing) (a : Answer) : Type 0 where
  pub when : (accepted a ≡ true) ↔ (now.started ≡ true)
  pub somewhere : (accepted a ≡ true) ↔ ((i : ℕ) × (e : Env) × now.run i e)
  pub else : accepted a ≡ false → a ≡ refused (step_refusal NoRun)
  pub goes_on : (i : ℕ) (e : Env) → now.run i e → (j : ℕ) × (f : Env) × NextPlace now.program i e a j f
  pub no_fault : (i : ℕ) (e : Env) → now.run i e → Steps now.program i e faults → ⊥
  pub inside : (i j : ℕ) (e f : Env) → now.run i e → Steps now.program i e (commands j f) →
      travel.region (position f) × InCertificate (position f) now.certificate

abbrev pub Answers : Envelope → Standing → Call → Answer → Type 0
Answers travel now (line text) a = AnswersLine now.program text a
Answers travel now (allow n range) a = a ≡ done_or allow_refusal (allow_answer n range)
Answers travel now wipe a = a ≡ done
Answers travel now (certify domain states) a = AnswersCertify travel now domain states a
Answers travel now (start vs) a = AnswersStart now vs a
Answers travel now step a = AnswersStep travel now a
Answers travel now (dry vs steps) a = AnswersDry travel now.program vs steps a

-- ---- the law
-- each call of a list, refused or not, is answered so after the past and the calls before it
abbrev pub Lawful : Envelope → List Event → List Event → Type 0
Lawful travel past [] = Unit {0}
Lawful travel past (event call a ∷ more) = After travel past (λ now. Answers travel now call a) × Lawful travel (event call a ∷ past) more
