-- What is reported where the calls of an input stop is the report on what is read of it.
use Rattle.std.proofs.Common.{◌≡◌, ℕ, zero, suc, ◌+◌, ◌≤◌, List, [], ◌∷◌, ◌++◌, length, None, Some, Option, Err, refl, sym, ap, ◌∙◌, subst, arith}
use Rattle.model.specs.Envelopes.{Envelope}
use Rattle.travel.specs.Gantries.{gantry_envelope}
use Rattle.travel.specs.declared.gantry.Gantry.{Gantry}
use Rattle.program.specs.Limits.{max_blocks}
use Rattle.program.specs.declared.refusal.LineRefusal.{LineRefusal}
use Rattle.session.specs.Answers.{no_ranges}
use Rattle.session.specs.declared.refusal.AllowRefusal.{AllowRefusal}
use Rattle.sweep.specs.Blocks.{states_for}
use Rattle.certify.specs.declared.refusal.CertifyRefusal.TheVariants.{Store}
use Rattle.calls.specs.Law.{Event, Lawful, allowed_after}
use Rattle.calls.proofs.Computed.{program_of}
use Rattle.console.specs.Asked.{asked_ranges, program_lines, line_events}
use Rattle.console.specs.Lines.{lines_of}
use Rattle.console.specs.Played.{answers, refusals, allow_at, line_at, certify_events, lines_behind, asked_events, Ends, Comes, ReportsStop}
use Rattle.console.specs.Readings.{max_input, rest, stopped, skip, program_reading, reading_of}
use Rattle.console.specs.declared.played.Stop.{Stop}
use Rattle.console.specs.declared.played.Stop.TheVariants.{RangeText as AtText, Allow as AtAllow, Line as AtLine, Verdict as AtVerdict}
use Rattle.console.specs.declared.refusal.Refusal.TheVariants.{RangeText, Allow as OfAllow}
use Rattle.console.specs.declared.report.Report.{Report}
use Rattle.console.proofs.Answered.{behind_more, first_refusal, ReadRanges, ReadLines, ranges_read, lines_read, with_ranges}
use Rattle.console.proofs.Reported.{Judgement, stopped_report, line_reported, program_reported, never, reading_by}

none_first : (E : Type 0) (n : ℕ) → first_refusal (answers {E = E} n []) ≡ None
none_first E zero = refl
none_first E (suc n) = ap (behind_more 1) (none_first E n)

last_first : {E : Type 0} (n : ℕ) (e : E) → first_refusal (answers n (Err e ∷ [])) ≡ Some (n + 1, e)
last_first zero e = refl
last_first (suc n) e = let k : n + 1 + 1 ≡ suc n + 1 = omega arith in ap (behind_more 1) (last_first n e) ∙ ap (λ j. Some (j, e)) k

module _ (g : Gantry) (bs : List ℕ) (short : length bs ≤ max_input) (n m : ℕ) where
  abbrev bench : Envelope
  bench = gantry_envelope g

  -- the events of the accepted ranges
  abbrev after : List Event
  after = with_ranges (asked_ranges (lines_of bs)) []

  abbrev lines_then : Stop → List Event
  lines_then s = line_events (lines_behind (program_lines (lines_of bs))) (answers m (refusals (line_at s))) ++ certify_events max_blocks s

  abbrev Read : Option (ℕ × AllowRefusal) → Option (List (List ℕ)) → List Event → Type 0
  Read f o more = ReadRanges bench [] (lines_of bs) f o more

  -- the calls that were made keep the law
  pub record Made (s : Stop) : Type 0 where
    pub ranges : Ends (answers n (refusals (allow_at s))) (length (asked_ranges (lines_of bs)))
    pub comes : Comes (program_lines (lines_of bs)) m s
    pub lawful : Lawful bench [] (asked_events (lines_of bs) max_blocks n m s)

  read_by : (s : Stop) (f : Option (ℕ × AllowRefusal)) → first_refusal (answers n (refusals (allow_at s))) ≡ f → Made s → Read f (program_lines (lines_of bs)) (lines_then s)
  read_by s f e k = subst (λ x. Read x (program_lines (lines_of bs)) (lines_then s)) e (ranges_read bench [] (lines_of bs) (answers n (refusals (allow_at s))) (lines_then s) k.ranges k.lawful)

  -- where all ranges are accepted, the lines are read behind them
  module _ (s : Stop) (ps : List (List ℕ)) (here : program_lines (lines_of bs) ≡ Some ps) (read : Read None (program_lines (lines_of bs)) (lines_then s)) where
    read_here : Read None (Some ps) (lines_then s)
    read_here = subst (λ o. Read None o (lines_then s)) here read

    few_there : states_for (program_of after) ≤ max_blocks
    few_there = subst (λ xs. states_for xs ≤ max_blocks) (sym read_here.program) (omega arith)

    reads_there : program_reading 1 (allowed_after after) (program_of after) ps ≡ reading_of bs
    reads_there = (λ i. program_reading 1 (allowed_after after) (read_here.program i) ps) ∙ reading_by g bs short (rest (allowed_after after) ps) read_here.skips

    lines_there : (f : Option (ℕ × LineRefusal)) → first_refusal (answers m (refusals (line_at s))) ≡ f → Ends (answers m (refusals (line_at s))) (length ps)
        → ReadLines bench 0 (allowed_after after) after ps f (certify_events max_blocks s)
    lines_there f e ends =
        let lawful = subst (λ ss. Lawful bench after (line_events ss (answers m (refusals (line_at s))) ++ certify_events max_blocks s)) (ap lines_behind here) read_here.lawful in
        subst (λ x. ReadLines bench 0 (allowed_after after) after ps x (certify_events max_blocks s)) e
        (lines_read bench 0 (allowed_after after) after ps (answers m (refusals (line_at s))) (certify_events max_blocks s) ends lawful)

  -- ---- the report
  pub stop_reported : (s : Stop) (r : Report) → Made s → ReportsStop m s r → Judgement g (reading_of bs) r
  stop_reported AtText r k is =
      let e : skip no_ranges (lines_of bs) ≡ stopped RangeText = subst (λ o. Read None o (lines_then AtText)) k.comes.0 (read_by AtText None (none_first AllowRefusal n) k) in
      subst (λ x. Judgement g x r) (reading_by g bs short (stopped RangeText) e) (stopped_report g 0 RangeText r is)
  stop_reported (AtAllow why) r k is =
      let e : skip no_ranges (lines_of bs) ≡ stopped (OfAllow why) = read_by (AtAllow why) (Some (n + 1, why)) (last_first n why) k in
      subst (λ x. Judgement g x r) (reading_by g bs short (stopped (OfAllow why)) e) (stopped_report g 0 (OfAllow why) r is)
  stop_reported (AtLine why) r k is =
      let ps = k.comes.0 in
      let here = k.comes.1 in
      let read = read_by (AtLine why) None (none_first AllowRefusal n) k in
      let lines = lines_there (AtLine why) ps here read (Some (m + 1, why)) (last_first m why) k.comes.2 in
      subst (λ x. Judgement g x r) (reads_there (AtLine why) ps here read) (line_reported g after ps (m + 1, why) [] r lines is)
  stop_reported (AtVerdict v) r k is =
      let ps = k.comes.0 in
      let here = k.comes.1 in
      let read = read_by (AtVerdict v) None (none_first AllowRefusal n) k in
      let lines = lines_there (AtVerdict v) ps here read None (none_first LineRefusal m) k.comes.2 in
      subst (λ x. Judgement g x r) (reads_there (AtVerdict v) ps here read) (program_reported g after ps v lines (few_there (AtVerdict v) ps here read) r is)

  -- enough states are lent for every program
  pub enough : (s : Stop) → Made s → s ≡ AtVerdict (Err Store) → ⊥
  enough AtText k e = let z : ◌≡◌ {A = ℕ} 0 1 = cc in absurd (omega arith)
  enough (AtAllow why) k e = let z : ◌≡◌ {A = ℕ} 0 1 = cc in absurd (omega arith)
  enough (AtLine why) k e = let z : ◌≡◌ {A = ℕ} 0 1 = cc in absurd (omega arith)
  enough (AtVerdict v) k e =
      let ps = k.comes.0 in
      let here = k.comes.1 in
      let read = read_by (AtVerdict v) None (none_first AllowRefusal n) k in
      let lines = lines_there (AtVerdict v) ps here read None (none_first LineRefusal m) k.comes.2 in
      never g after ps v lines (few_there (AtVerdict v) ps here read) cc
