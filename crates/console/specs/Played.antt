-- The calls that an input asks for, with their answers, up to the first that is refused; and what is reported where they stop.
use Rattle.std.specs.Borrow.{Bor, MutBor}
use Rattle.std.specs.Prelude.{◌≡◌, ℕ, zero, suc, ◌+◌, ◌<◌, ◌≤◌, List, [], ◌∷◌, ◌++◌, length, Some, None, Ok, Err, Option, Result}
use Rattle.program.specs.declared.refusal.LineRefusal.{LineRefusal}
use Rattle.session.specs.declared.refusal.AllowRefusal.{AllowRefusal}
use Rattle.certify.specs.Certifies.{Answer as Verdict}
use Rattle.certify.specs.declared.refusal.CertifyRefusal.TheVariants.{Open as Unclosed, Store, Uncertified as Fails}
use Rattle.calls.specs.Law.{Event}
use Rattle.calls.specs.Loans.{StatesStay}
use Rattle.console.specs.declared.played.RangeRefusal.{RangeRefusal}
use Rattle.console.specs.declared.played.RangeRefusal.TheVariants.{Text, Allow as NotAllowed}
use Rattle.console.specs.declared.played.Stop.{Stop}
use Rattle.console.specs.declared.played.Stop.TheVariants.{RangeText as AtText, Allow as AtAllow, Line as AtLine, Verdict as AtVerdict}
use Rattle.console.specs.declared.refusal.Refusal.TheVariants.{RangeText, Allow as OfAllow, Line as OfLine, Open}
use Rattle.console.specs.declared.report.Report.{Report}
use Rattle.console.specs.declared.report.Report.TheVariants.{Certified, Uncertified}
use Rattle.console.specs.Asked.{asked_ranges, program_lines, allow_events, line_events, certify_event}
use Rattle.console.specs.Lines.{lines_of}
use Rattle.console.specs.Report.{refused_at}

-- ---- answers
-- so many calls are accepted, and then the answers are these
abbrev pub answers : {E : Type 0} → ℕ → List (Result (Unit {0}) E) → List (Result (Unit {0}) E)
answers zero rs = rs
answers (suc n) rs = Ok tt ∷ answers n rs

abbrev pub refusals : {E : Type 0} → Option E → List (Result (Unit {0}) E)
refusals None = []
refusals (Some e) = Err e ∷ []

-- n calls are answered, or all up to one that is refused
abbrev pub Ends : {E : Type 0} → List (Result (Unit {0}) E) → ℕ → Type 0
Ends [] n = n ≡ 0
Ends (Ok u ∷ rs) n = (m : ℕ) × (n ≡ suc m) × Ends rs m
Ends (Err e ∷ rs) n = 0 < n

-- ---- range lines: the text behind them, or why one of them is refused
-- a malformed range line is no call
abbrev pub allow_in : Result (Bor (List ℕ)) RangeRefusal → Option AllowRefusal
allow_in (Ok text) = None
allow_in (Err Text) = None
allow_in (Err (NotAllowed e)) = Some e

-- that text has the lines of the program, of which there are none where a range line is malformed
abbrev pub Behind : Option (List (List ℕ)) → Result (Bor (List ℕ)) RangeRefusal → Type 0
Behind o (Ok text) = o ≡ Some (lines_of text.now)
Behind o (Err Text) = o ≡ None
Behind o (Err (NotAllowed e)) = Unit {0}

-- and n bytes at most
abbrev pub Within : Result (Bor (List ℕ)) RangeRefusal → ℕ → Type 0
Within (Ok text) n = length text.now ≤ n
Within (Err e) n = Unit {0}

-- ---- the whole input
abbrev pub allow_at : Stop → Option AllowRefusal
allow_at (AtAllow e) = Some e
allow_at stop = None

abbrev pub line_at : Stop → Option LineRefusal
line_at (AtLine e) = Some e
line_at stop = None

-- certify with so many states is called last, if at all
abbrev pub certify_events : ℕ → Stop → List Event
certify_events states (AtVerdict v) = certify_event states v ∷ []
certify_events states stop = []

abbrev pub lines_behind : Option (List (List ℕ)) → List (List ℕ)
lines_behind None = []
lines_behind (Some ps) = ps

-- n ranges and m lines are accepted
abbrev pub asked_events : List (List ℕ) → ℕ → ℕ → ℕ → Stop → List Event
asked_events ls states n m stop =
    allow_events (asked_ranges ls) (answers n (refusals (allow_at stop)))
    ++ (line_events (lines_behind (program_lines ls)) (answers m (refusals (line_at stop))) ++ certify_events states stop)

-- the calls behind the ranges come to their end, or to this refusal; none is made behind a range line that is refused
abbrev pub Comes : Option (List (List ℕ)) → ℕ → Stop → Type 0
Comes o m AtText = (o ≡ None) × (m ≡ 0)
Comes o m (AtAllow e) = m ≡ 0
Comes o m (AtLine e) = (ps : List (List ℕ)) × (o ≡ Some ps) × Ends (answers m (Err e ∷ [])) (length ps)
Comes o m (AtVerdict v) = (ps : List (List ℕ)) × (o ≡ Some ps) × Ends (answers {E = LineRefusal} m []) (length ps)

-- the lent states are as certify leaves them, or as they were
abbrev pub StoreStays : {S : Type 0} → MutBor (List S) → MutBor (List S) → Stop → Type 0
StoreStays s t (AtVerdict v) = StatesStay s t v
StoreStays s t stop = t ≡ s

-- ---- the report
-- that fewer states are lent than there are blocks is never answered
abbrev pub ReportsVerdict : Verdict → Report → Type 0
ReportsVerdict (Ok c) r = r ≡ Certified c
ReportsVerdict (Err Unclosed) r = r ≡ refused_at 0 Open
ReportsVerdict (Err Store) r = ⊥
ReportsVerdict (Err (Fails f)) r = r ≡ Uncertified f

-- where m lines are accepted before the calls stop; a range line has no number
abbrev pub ReportsStop : ℕ → Stop → Report → Type 0
ReportsStop m AtText r = r ≡ refused_at 0 RangeText
ReportsStop m (AtAllow e) r = r ≡ refused_at 0 (OfAllow e)
ReportsStop m (AtLine e) r = r ≡ refused_at (m + 1) (OfLine e)
ReportsStop m (AtVerdict v) r = ReportsVerdict v r
