-- What a session remembers, and what the calls make of it.
use Rattle.std.specs.Prelude.{ℕ, Bool, true, false, cond, List, [], ℤ, Some, None, Ok, Err, Option, is_ok, option_map}
use Rattle.model.specs.declared.line.Line.{Line}
use Rattle.model.specs.declared.range.Range.{Range}
use Rattle.model.specs.Axes.{Position}
use Rattle.program.specs.Held.{held}
use Rattle.program.specs.Entry.{line_answer, lines_after}
use Rattle.certify.specs.Certifies.{Answer}
use Rattle.certify.specs.declared.refusal.CertifyRefusal.TheVariants.{Open, Store, Uncertified}
use Rattle.runner.specs.declared.run.Run.{Run}
use Rattle.runner.specs.Drying.{start}
use Rattle.runner.specs.Plain.{no_run, run_at}
use Rattle.runner.specs.Steps.{step_of}
use Rattle.session.specs.declared.session.Session.{Session}
use Rattle.session.specs.Promises.{Hulls}
use Rattle.session.specs.Answers.{no_ranges, allow_answer, ranges_after, start_answer}

-- the lines of the program, the allowed range of each parameter, the certificate that stands, if one does, and the run
pub record Memory : Type 0 where
  pub program : List Line
  pub allowed : List Range
  pub certificate : Option Hulls
  pub run : Run

abbrev pub blank : Memory
blank = record { program = []; allowed = no_ranges; certificate = None; run = no_run }

abbrev pub memory : {T : Type 0} {t : _} → Session T t → Memory
memory s = record { program = held s.program; allowed = s.ranges.each; certificate = option_map (λ c. c.hulls) s.certificate; run = s.run }

-- a line that is taken ends certificate and run
abbrev pub after_line : Memory → List ℕ → Memory
after_line m s = cond (is_ok (line_answer m.program s)) (record { program = lines_after m.program s; allowed = m.allowed; certificate = None; run = no_run }) m

-- so does a range that is allowed
abbrev pub after_allow : Memory → ℕ → Range → Memory
after_allow m n r = cond (is_ok (allow_answer n r)) (record { program = m.program; allowed = ranges_after m.allowed n r; certificate = None; run = no_run }) m

-- it looked at the lines
abbrev pub judged : Answer → Bool
judged (Ok c) = true
judged (Err Open) = false
judged (Err Store) = false
judged (Err (Uncertified f)) = true

-- a certify that judges ends certificate and run, and a new certificate may stand
abbrev pub after_certify : Memory → Answer → Memory
after_certify m (Ok c) = record { program = m.program; allowed = m.allowed; certificate = Some c.hulls; run = no_run }
after_certify m (Err Open) = m
after_certify m (Err Store) = m
after_certify m (Err (Uncertified f)) = record { program = m.program; allowed = m.allowed; certificate = None; run = no_run }

-- a start that is accepted begins a run at home, in place of one that goes
abbrev pub after_start : Position → Memory → List ℤ → Memory
after_start home m vs = cond (is_ok (start_answer m.certificate m.allowed vs)) (record { program = m.program; allowed = m.allowed; certificate = m.certificate; run = run_at 0 (start home vs) }) m

abbrev pub after_step : Memory → Memory
after_step m = record { program = m.program; allowed = m.allowed; certificate = m.certificate; run = (step_of m.program m.run).run }
