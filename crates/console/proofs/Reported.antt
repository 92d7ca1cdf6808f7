-- What the answers to the calls of an input are reported as is the report on what is read of it.
use Rattle.std.proofs.Common.{◌≡◌, ℕ, ◌+◌, ◌≤◌, Bool, true, false, cond, ltb, List, [], ◌∷◌, length, None, Some, Option, Ok, Err, refl, sym, ap, ◌∙◌, subst, arith}
use Rattle.std.proofs.lemmas.Bool.{both_ways}
use Rattle.std.proofs.lemmas.Bool.Decides.{nat_tests}
use Rattle.model.specs.Blocks.{closed}
use Rattle.model.specs.declared.line.Line.{Line}
use Rattle.model.specs.declared.range.Range.{Range}
use Rattle.model.specs.Envelopes.{Envelope}
use Rattle.travel.specs.Gantries.{gantry_envelope}
use Rattle.travel.specs.declared.gantry.Gantry.{Gantry}
use Rattle.program.specs.Limits.{max_blocks}
use Rattle.program.specs.declared.refusal.LineRefusal.{LineRefusal}
use Rattle.session.specs.Answers.{no_ranges}
use Rattle.sweep.specs.Blocks.{states_for}
use Rattle.certify.specs.Certifies.{Answer as Verdict, TheVerdict, Promised}
use Rattle.certify.specs.declared.refusal.CertifyRefusal.TheVariants.{Open as Unclosed, Store, Uncertified as Fails}
use Rattle.calls.specs.Events.{domain}
use Rattle.calls.specs.Law.{Event, by_verdict, standing, After, AnswersCertify, allowed_after}
use Rattle.calls.proofs.Computed.{program_of, after_computed}
use Rattle.console.specs.declared.refusal.Refusal.{Refusal}
use Rattle.console.specs.declared.refusal.Refusal.TheVariants.{Input, Line as OfLine, Open}
use Rattle.console.specs.declared.report.Report.{Report}
use Rattle.console.specs.Asked.{certify_event}
use Rattle.console.specs.Played.{ReportsVerdict}
use Rattle.console.specs.Lines.{lines_of}
use Rattle.console.specs.Readings.{max_input, Reading, whole, stopped_at, Skipped, by_skipped, skip, ending, program_reading, reading_of}
use Rattle.console.specs.Report.{refused_at}
use Rattle.console.specs.Verdicts.{lattice, Reported, Promises}
use Rattle.console.proofs.Answered.{ReadLines, with_lines}
use Rattle.console.proofs.Told.{one_verdict}

module _ (g : Gantry) where
  abbrev bench : Envelope
  bench = gantry_envelope g

  -- a report by the rules, and what a certificate promises
  pub record Judgement (r : Reading) (o : Report) : Type 0 where
    pub reported : Reported g r o
    pub promised : Promises g r o

  -- a refusal is reported as it is
  pub stopped_report : (n : ℕ) (why : Refusal) (r : Report) → r ≡ refused_at n why → Judgement (stopped_at n why) r
  stopped_report n why r e = record { reported = e; promised = tt }

  -- ---- the verdict
  module _ (xs : List Line) (ts : List Range) (few : states_for xs ≤ max_blocks) where
    judged_by : (v : Verdict) (r : Report) → TheVerdict lattice xs bench ts max_blocks v → Promised xs bench ts v → closed xs ≡ true → ReportsVerdict v r → Judgement (whole ts xs) r
    judged_by (Ok c) r t p e is = subst (Judgement (whole ts xs)) (sym is) (record { reported = t; promised = p })
    judged_by (Err Unclosed) r t p e is = absurd (both_ways (closed xs) t.is e)
    judged_by (Err Store) r t p e is = absurd is
    judged_by (Err (Fails f)) r t p e is = subst (Judgement (whole ts xs)) (sym is) (record { reported = t; promised = tt })

    left_open : (v : Verdict) (r : Report) → TheVerdict lattice xs bench ts max_blocks v → closed xs ≡ false → ReportsVerdict v r → Judgement (stopped_at 0 Open) r
    left_open v r t e is = stopped_report 0 Open r (subst (λ w. ReportsVerdict w r) (sym (t.only (Err Unclosed) e)) is)

    pub verdict_reported : (v : Verdict) (r : Report) → TheVerdict lattice xs bench ts max_blocks v → Promised xs bench ts v → ReportsVerdict v r → Judgement (ending ts xs) r
    verdict_reported v r t p is = go (closed xs) refl
      where
        go : (b : Bool) → closed xs ≡ b → Judgement (cond b (whole ts xs) (stopped_at 0 Open)) r
        go true e = judged_by v r t p e is
        go false e = left_open v r t e is

    -- all states that a program can need are lent
    pub never_short : (v : Verdict) → TheVerdict lattice xs bench ts max_blocks v → v ≡ Err Store → ⊥
    never_short v t e = let s = (subst (TheVerdict lattice xs bench ts max_blocks) e t).is.1 in omega arith

  -- the law has one verdict on what stands
  module _ (past : List Event) (v : Verdict) (k : After bench past (λ now. AnswersCertify bench now (domain lattice) max_blocks (by_verdict v))) where
    answers : AnswersCertify bench (standing bench.home past (program_of past)) (domain lattice) max_blocks (by_verdict v)
    answers = after_computed bench past (λ now. AnswersCertify bench now (domain lattice) max_blocks (by_verdict v)) k

    pub the_verdict : TheVerdict lattice (program_of past) bench (allowed_after past) max_blocks v
    the_verdict = subst (TheVerdict lattice (program_of past) bench (allowed_after past) max_blocks) (one_verdict v answers.verdict answers.is) answers.the_verdict

    pub promised_by : Promised (program_of past) bench (allowed_after past) v
    promised_by = subst (Promised (program_of past) bench (allowed_after past)) (one_verdict v answers.verdict answers.is) answers.promised

  -- ---- the whole input
  -- the program behind the ranges: where a line is refused, and where all are taken
  module _ (past : List Event) (ss : List (List ℕ)) where
    abbrev after_lines : List Event
    after_lines = with_lines ss past

    abbrev Read : Option (ℕ × LineRefusal) → List Event → Type 0
    Read f more = ReadLines bench 0 (allowed_after past) past ss f more

    abbrev reading : Reading
    reading = program_reading 1 (allowed_after past) (program_of past) ss

    pub line_reported : (p : ℕ × LineRefusal) (more : List Event) (r : Report) → Read (Some p) more → r ≡ refused_at p.0 (OfLine p.1) → Judgement reading r
    line_reported p more r reads is =
        let here : 0 + p.0 ≡ p.0 = omega arith in
        subst (λ x. Judgement x r) (sym (reads ∙ ap (λ n. stopped_at n (OfLine p.1)) here)) (stopped_report p.0 (OfLine p.1) r is)

    module _ (v : Verdict) (reads : Read None (certify_event max_blocks v ∷ [])) (few : states_for (program_of past) ≤ max_blocks) where
      pub program_reported : (r : Report) → ReportsVerdict v r → Judgement reading r
      program_reported r is =
          let now = program_of after_lines in
          let t = subst (λ ts. TheVerdict lattice now bench ts max_blocks v) reads.allowed (the_verdict after_lines v reads.lawful.0) in
          let p = subst (λ ts. Promised now bench ts v) reads.allowed (promised_by after_lines v reads.lawful.0) in
          subst (λ x. Judgement x r) (sym reads.reads) (verdict_reported now (allowed_after past) (reads.few few) v r t p is)

      -- enough states are lent for a program that is taken whole
      pub never : v ≡ Err Store → ⊥
      never e = never_short (program_of after_lines) (allowed_after after_lines) (reads.few few) v (the_verdict after_lines v reads.lawful.0) e

  module _ (bs : List ℕ) (short : length bs ≤ max_input) where
    pub reading_by : (s : Skipped) → skip no_ranges (lines_of bs) ≡ s → by_skipped s ≡ reading_of bs
    reading_by s e =
        let t : ltb max_input (length bs) ≡ false = grind (arith, nat_tests) in
        sym ((λ i. cond (t i) (stopped_at 0 Input) (by_skipped (skip no_ranges (lines_of bs)))) ∙ ap by_skipped e)
