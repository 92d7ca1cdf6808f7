-- What calls an input asks for.
use Rattle.std.specs.Prelude.{ℕ, cond, List, [], ◌∷◌, Some, None, Option, Result}
use Rattle.program.specs.Numbers.{line_refusal}
use Rattle.program.specs.declared.refusal.LineRefusal.{LineRefusal}
use Rattle.session.specs.Refusals.{allow_refusal}
use Rattle.session.specs.declared.refusal.AllowRefusal.{AllowRefusal}
use Rattle.certify.specs.Certifies.{Answer as Verdict}
use Rattle.calls.specs.Events.{domain}
use Rattle.calls.specs.Law.{Event, event, line, allow, certify, done_or, by_verdict}
use Rattle.calls.specs.declared.single.Allow.{Allow}
use Rattle.console.specs.declared.range_line.RangeLine.{RangeLine}
use Rattle.console.specs.RangeLines.{range_of}
use Rattle.console.specs.Readings.{is_range}
use Rattle.console.specs.Verdicts.{lattice}

abbrev pub ask : RangeLine → Allow
ask a = record { parameter = a.parameter; range = a.range }

-- the ranges of the range lines at the front, up to one that is malformed
abbrev pub asked_by : Option RangeLine → List Allow → List Allow
asked_by None more = []
asked_by (Some a) more = ask a ∷ more

abbrev pub asked_ranges : List (List ℕ) → List Allow
asked_ranges [] = []
asked_ranges (l ∷ ls) = cond (is_range l) (asked_by (range_of l) (asked_ranges ls)) []

-- the lines behind the range lines, unless one of these is malformed
abbrev pub behind : Option RangeLine → Option (List (List ℕ)) → Option (List (List ℕ))
behind None more = None
behind (Some a) more = more

abbrev pub program_lines : List (List ℕ) → Option (List (List ℕ))
program_lines [] = Some []
program_lines (l ∷ ls) = cond (is_range l) (behind (range_of l) (program_lines ls)) (Some (l ∷ ls))

-- ---- the calls with their answers
abbrev pub allow_events : List Allow → List (Result (Unit {0}) AllowRefusal) → List Event
allow_events [] rs = []
allow_events (c ∷ cs) [] = []
allow_events (c ∷ cs) (r ∷ rs) = event (allow c.parameter c.range) (done_or allow_refusal r) ∷ allow_events cs rs

abbrev pub line_events : List (List ℕ) → List (Result (Unit {0}) LineRefusal) → List Event
line_events [] rs = []
line_events (s ∷ ss) [] = []
line_events (s ∷ ss) (r ∷ rs) = event (line s) (done_or line_refusal r) ∷ line_events ss rs

-- a certify with so many states
abbrev pub certify_event : ℕ → Verdict → Event
certify_event states v = event (certify (domain lattice) states) (by_verdict v)
