-- What a list of calls does with a session, from what the session remembers: from this the law is proved.
use Rattle.std.specs.Prelude.{◌≡◌, ℕ, cond, List, [], ◌∷◌, is_some}
use Rattle.model.specs.Axes.{Position}
use Rattle.model.specs.Envelopes.{Envelope}
use Rattle.model.specs.Environments.{Env}
use Rattle.model.specs.Programs.{Closed}
use Rattle.runner.specs.Plain.{no_run, run_at}
use Rattle.session.specs.Memory.{Memory, blank, after_line, after_allow, after_start, after_step}
use Rattle.calls.specs.Law.{Answer, Call, line, allow, wipe, certify, start, step, dry, Event, event, judges, hulls_in, Standing, NextPlace, Answers}

-- what a session remembers, as what stands
abbrev pub known : Memory → Standing
known m = record { program = m.program; allowed = m.allowed; certificate = m.certificate; started = is_some m.run.at; run = λ i e. m.run ≡ run_at i e }

abbrev pub after_verdict : Memory → Answer → Memory
after_verdict m a = cond (judges a) (record { program = m.program; allowed = m.allowed; certificate = hulls_in a; run = no_run }) m

-- what is remembered after a call
abbrev pub after : Position → Memory → Call → Answer → Memory
after home m (line text) a = after_line m text
after home m (allow n r) a = after_allow m n r
after home m wipe a = blank
after home m (certify d n) a = after_verdict m a
after home m (start vs) a = after_start home m vs
after home m step a = after_step m
after home m (dry vs k) a = m

-- a step takes a run of a closed program to its next place
abbrev pub Leads : Memory → Call → Answer → Type 0
Leads m step a = (i : ℕ) (e : Env) → m.run ≡ run_at i e → Closed m.program × (j : ℕ) × (f : Env) × ((after_step m).run ≡ run_at j f) × NextPlace m.program i e a j f
Leads m c a = Unit {0}

abbrev pub AllKept : Envelope → Memory → List Event → Type 0
AllKept travel m [] = Unit {0}
AllKept travel m (event c a ∷ more) = (Answers travel (known m) c a × Leads m c a) × AllKept travel (after travel.home m c a) more

abbrev pub afters : Position → Memory → List Event → Memory
afters home m [] = m
afters home m (event c a ∷ more) = afters home (after home m c a) more
