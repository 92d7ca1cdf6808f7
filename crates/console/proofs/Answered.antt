-- What the law says of the answers to the calls of an input: what is read of its lines, one after another.
use Rattle.std.proofs.Common.{◌≡◌, ℕ, suc, ◌+◌, ◌≤◌, Bool, true, false, cond, List, [], ◌∷◌, ◌++◌, length, Some, None, Ok, Err, Option, Result, is_ok, sym, refl, ap, ◌∙◌, subst, arith}
use Rattle.std.specs.Prelude.{◌-◌, slice_set}
use Rattle.grammar.specs.Answer.{answer}
use Rattle.model.specs.Envelopes.{Envelope}
use Rattle.model.specs.declared.range.Range.{Range}
use Rattle.program.specs.Entry.{line_answer, lines_after}
use Rattle.program.specs.Limits.{max_blocks}
use Rattle.program.specs.Numbers.{line_refusal}
use Rattle.program.specs.declared.refusal.LineRefusal.{LineRefusal}
use Rattle.session.specs.Answers.{allow_answer}
use Rattle.session.specs.declared.refusal.AllowRefusal.{AllowRefusal}
use Rattle.sweep.specs.Blocks.{states_for}
use Rattle.calls.specs.declared.single.Allow.{Allow}
use Rattle.calls.specs.Law.{Event, event, line, allow, done, done_or, AnswersLine, After, Lawful, allowed_after}
use Rattle.calls.proofs.Computed.{line_in, program_of, after_computed}
use Rattle.calls.proofs.Programs.{Grown, grown, line_computed}
use Rattle.console.proofs.FewBlocks.{few_after}
use Rattle.console.proofs.Told.{one_allowed, one_taken}
use Rattle.console.specs.declared.range_line.RangeLine.{RangeLine}
use Rattle.console.specs.declared.refusal.Refusal.TheVariants.{RangeText, Allow as OfAllow, Line as OfLine}
use Rattle.console.specs.RangeLines.{range_of}
use Rattle.console.specs.Asked.{ask, asked_by, asked_ranges, behind, program_lines, allow_events, line_events}
use Rattle.console.specs.Played.{Ends}
use Rattle.console.specs.Readings.{is_range, Reading, stopped_at, Skipped, rest, stopped, by_allow, by_range, ranges_with, after_range, skip, by_line, ending, program_reading}

-- the first refusal among answers, with its number, from 1
abbrev pub behind_more : {E : Type 0} → ℕ → Option (ℕ × E) → Option (ℕ × E)
behind_more n None = None
behind_more n (Some p) = Some (p.0 + n, p.1)

abbrev pub first_refusal : {E : Type 0} → List (Result (Unit {0}) E) → Option (ℕ × E)
first_refusal [] = None
first_refusal (Ok u ∷ rs) = behind_more 1 (first_refusal rs)
first_refusal (Err e ∷ rs) = Some (1, e)

-- ---- answers to some calls, of which only the last may be refused
none_left : {m : ℕ} → 0 ≡ suc m → ⊥
none_left e = omega arith

ends_rest : {E : Type 0} (rs : List (Result (Unit {0}) E)) (n : ℕ) → Ends (Ok tt ∷ rs) (suc n) → Ends rs n
ends_rest rs n e = let k : e.0 ≡ n = let j = e.1 in omega arith in subst (Ends rs) k e.2

-- the past with a list of ranges accepted
abbrev pub with_ranges : List Allow → List Event → List Event
with_ranges [] past = past
with_ranges (c ∷ cs) past = with_ranges cs (event (allow c.parameter c.range) done ∷ past)

-- and with lines
abbrev pub with_lines : List (List ℕ) → List Event → List Event
with_lines [] past = past
with_lines (s ∷ ss) past = with_lines ss (event (line s) done ∷ past)

module _ (travel : Envelope) where
  -- ---- range lines
  -- the ranges that the lines allow, and what comes behind them
  pub record Allowed (past : List Event) (ls ps : List (List ℕ)) (more : List Event) : Type 0 where
    pub skips : skip (allowed_after past) ls ≡ rest (allowed_after (with_ranges (asked_ranges ls) past)) ps
    pub program : program_of (with_ranges (asked_ranges ls) past) ≡ program_of past
    pub lawful : Lawful travel (with_ranges (asked_ranges ls) past) more

  -- or why the first that is refused is, where one is
  abbrev pub ReadRanges : List Event → List (List ℕ) → Option (ℕ × AllowRefusal) → Option (List (List ℕ)) → List Event → Type 0
  ReadRanges past ls (Some p) o more = skip (allowed_after past) ls ≡ stopped (OfAllow p.1)
  ReadRanges past ls None None more = skip (allowed_after past) ls ≡ stopped RangeText
  ReadRanges past ls None (Some ps) more = Allowed past ls ps more

  -- one range line more at the front
  module _ (past : List Event) (l : List ℕ) (ls : List (List ℕ)) (more : List Event) (a : RangeLine) (marked : is_range l ≡ true) (reads : range_of l ≡ Some a) where
    abbrev onward : List Event
    onward = event (allow a.parameter a.range) done ∷ past

    -- by what allow is answered
    abbrev skipped : Result (Unit {0}) AllowRefusal → Skipped
    skipped r = after_range (by_allow r) (skip (cond (is_ok r) (slice_set (allowed_after past) (a.parameter - 1) a.range) (allowed_after past)) ls)

    skips_by : skip (allowed_after past) (l ∷ ls) ≡ skipped (allow_answer a.parameter a.range)
    skips_by = (λ i. cond (marked i) (after_range (by_range (reads i)) (skip (ranges_with (allowed_after past) (reads i)) ls)) (rest (allowed_after past) (l ∷ ls)))

    asks : asked_ranges (l ∷ ls) ≡ ask a ∷ asked_ranges ls
    asks = λ i. cond (marked i) (asked_by (reads i) (asked_ranges ls)) []

    lines_too : program_lines (l ∷ ls) ≡ program_lines ls
    lines_too = λ i. cond (marked i) (behind (reads i) (program_lines ls)) (Some (l ∷ ls))

    pub refuses : (why : AllowRefusal) → Err why ≡ allow_answer a.parameter a.range → skip (allowed_after past) (l ∷ ls) ≡ stopped (OfAllow why)
    refuses why k = skips_by ∙ sym (ap skipped k)

    module _ (u : Unit {0}) (k : Ok u ≡ allow_answer a.parameter a.range) where
      allows : skip (allowed_after past) (l ∷ ls) ≡ skip (allowed_after onward) ls
      allows = skips_by ∙ sym (ap skipped k)

      goes_on : (f : Option (ℕ × AllowRefusal)) (o : Option (List (List ℕ))) → ReadRanges onward ls f o more → ReadRanges past (l ∷ ls) (behind_more 1 f) o more
      goes_on (Some p) o r = allows ∙ r
      goes_on None None r = allows ∙ r
      goes_on None (Some ps) r =
          let here : (cs : List Allow) → asked_ranges (l ∷ ls) ≡ cs → with_ranges cs past ≡ with_ranges (asked_ranges (l ∷ ls)) past = λ cs e. ap (λ ds. with_ranges ds past) (sym e) in
          record {
            skips = allows ∙ r.skips ∙ ap (λ es. rest (allowed_after es) ps) (here (ask a ∷ asked_ranges ls) asks);
            program = ap program_of (sym (here (ask a ∷ asked_ranges ls) asks)) ∙ r.program;
            lawful = subst (λ es. Lawful travel es more) (here (ask a ∷ asked_ranges ls) asks) r.lawful;
          }

      pub next_range : (f : Option (ℕ × AllowRefusal)) → ReadRanges onward ls f (program_lines ls) more → ReadRanges past (l ∷ ls) (behind_more 1 f) (program_lines (l ∷ ls)) more
      next_range f r = goes_on f (program_lines (l ∷ ls)) (subst (λ o. ReadRanges onward ls f o more) (sym lines_too) r)

  -- the first line is none of them, or is malformed
  behind_ranges : (past : List Event) (l : List ℕ) (ls : List (List ℕ)) (more : List Event) → is_range l ≡ false → Lawful travel past more → ReadRanges past (l ∷ ls) None (program_lines (l ∷ ls)) more
  behind_ranges past l ls more p h =
      let s : skip (allowed_after past) (l ∷ ls) ≡ rest (allowed_after past) (l ∷ ls) = λ i. cond (p i) (after_range (by_range (range_of l)) (skip (ranges_with (allowed_after past) (range_of l)) ls)) (rest (allowed_after past) (l ∷ ls)) in
      let t : program_lines (l ∷ ls) ≡ Some (l ∷ ls) = λ i. cond (p i) (behind (range_of l) (program_lines ls)) (Some (l ∷ ls)) in
      let u : asked_ranges (l ∷ ls) ≡ [] = λ i. cond (p i) (asked_by (range_of l) (asked_ranges ls)) [] in
      let v : past ≡ with_ranges (asked_ranges (l ∷ ls)) past = ap (λ cs. with_ranges cs past) (sym u) in
      subst (λ x. ReadRanges past (l ∷ ls) None x more) (sym t)
      (record { skips = s ∙ ap (λ es. rest (allowed_after es) (l ∷ ls)) v; program = ap program_of (sym v); lawful = subst (λ es. Lawful travel es more) v h })

  malformed_range : (past : List Event) (l : List ℕ) (ls : List (List ℕ)) (more : List Event) → is_range l ≡ true → range_of l ≡ None → ReadRanges past (l ∷ ls) None (program_lines (l ∷ ls)) more
  malformed_range past l ls more p q =
      let s : skip (allowed_after past) (l ∷ ls) ≡ stopped RangeText = λ i. cond (p i) (after_range (by_range (q i)) (skip (ranges_with (allowed_after past) (q i)) ls)) (rest (allowed_after past) (l ∷ ls)) in
      let t : program_lines (l ∷ ls) ≡ None = λ i. cond (p i) (behind (q i) (program_lines ls)) (Some (l ∷ ls)) in
      subst (λ x. ReadRanges past (l ∷ ls) None x more) (sym t) s

  -- the first line, where the others are read
  ranges_step : (past : List Event) (l : List ℕ) (ls : List (List ℕ)) (rs : List (Result (Unit {0}) AllowRefusal)) (more : List Event)
      → ((now : List Event) (ss : List (Result (Unit {0}) AllowRefusal)) → Ends ss (length (asked_ranges ls)) → Lawful travel now (allow_events (asked_ranges ls) ss ++ more) → ReadRanges now ls (first_refusal ss) (program_lines ls) more)
      → Ends rs (length (asked_ranges (l ∷ ls))) → Lawful travel past (allow_events (asked_ranges (l ∷ ls)) rs ++ more) → ReadRanges past (l ∷ ls) (first_refusal rs) (program_lines (l ∷ ls)) more
  ranges_step past l ls rs more others e h = go (is_range l) refl (range_of l) refl rs e h
    where
      go : (b : Bool) → is_range l ≡ b → (o : Option RangeLine) → range_of l ≡ o → (rs : List (Result (Unit {0}) AllowRefusal))
          → Ends rs (length (cond b (asked_by o (asked_ranges ls)) [])) → Lawful travel past (allow_events (cond b (asked_by o (asked_ranges ls)) []) rs ++ more) → ReadRanges past (l ∷ ls) (first_refusal rs) (program_lines (l ∷ ls)) more
      go false p o q [] e h = behind_ranges past l ls more p h
      go false p o q (Ok u ∷ rs) e h = absurd (none_left e.1)
      go false p o q (Err x ∷ rs) e h = absurd (omega arith)
      go true p None q [] e h = malformed_range past l ls more p q
      go true p None q (Ok u ∷ rs) e h = absurd (none_left e.1)
      go true p None q (Err x ∷ rs) e h = absurd (omega arith)
      go true p (Some a) q [] e h = absurd (omega arith)
      go true p (Some a) q (Ok u ∷ rs) e h =
          next_range past l ls more a p q u (one_allowed (Ok u) (allow_answer a.parameter a.range) h.0.2) (first_refusal rs) (others (event (allow a.parameter a.range) done ∷ past) rs (ends_rest rs (length (asked_ranges ls)) e) h.1)
      go true p (Some a) q (Err why ∷ rs) e h = refuses past l ls more a p q why (one_allowed (Err why) (allow_answer a.parameter a.range) h.0.2)

  pub ranges_read : (past : List Event) (ls : List (List ℕ)) (rs : List (Result (Unit {0}) AllowRefusal)) (more : List Event) → Ends rs (length (asked_ranges ls)) → Lawful travel past (allow_events (asked_ranges ls) rs ++ more) → ReadRanges past ls (first_refusal rs) (program_lines ls) more
  ranges_read past [] [] more e h = record { skips = refl; program = refl; lawful = h }
  ranges_read past [] (Ok u ∷ rs) more e h = absurd (none_left e.1)
  ranges_read past [] (Err x ∷ rs) more e h = absurd (omega arith)
  ranges_read past (l ∷ ls) rs more e h = ranges_step past l ls rs more (λ now ss. ranges_read now ls ss more) e h

  -- ---- lines of the program
  -- the program that the lines make
  pub record Added (n : ℕ) (ts : List Range) (past : List Event) (ss : List (List ℕ)) (more : List Event) : Type 0 where
    pub reads : program_reading (n + 1) ts (program_of past) ss ≡ ending ts (program_of (with_lines ss past))
    pub allowed : allowed_after (with_lines ss past) ≡ allowed_after past
    pub few : states_for (program_of past) ≤ max_blocks → states_for (program_of (with_lines ss past)) ≤ max_blocks
    pub lawful : Lawful travel (with_lines ss past) more

  -- or the first line that is refused, where one is
  abbrev pub ReadLines : ℕ → List Range → List Event → List (List ℕ) → Option (ℕ × LineRefusal) → List Event → Type 0
  ReadLines n ts past ss (Some p) more = program_reading (n + 1) ts (program_of past) ss ≡ stopped_at (n + p.0) (OfLine p.1)
  ReadLines n ts past ss None more = Added n ts past ss more

  module _ (n : ℕ) (ts : List Range) (past : List Event) (s : List ℕ) (ss : List (List ℕ)) (more : List Event) where
    -- by what the line is answered
    abbrev read_on : Result (Unit {0}) LineRefusal → Reading
    read_on r = by_line (n + 1) r (program_reading (n + 1 + 1) ts (lines_after (program_of past) s) ss)

    module _ (u : Unit {0}) (k : Ok u ≡ line_answer (program_of past) s) where
      held_then : lines_after (program_of past) s ≡ program_of (event (line s) done ∷ past)
      held_then =
          let more_by : Grown (program_of past) (answer s) (Ok u) (lines_after (program_of past) s) = subst (λ r. Grown (program_of past) (answer s) r (lines_after (program_of past) s)) (sym k) (grown (program_of past) s) in
          more_by.2 ∙ ap (λ r. program_of past ++ line_in r) (sym more_by.1)

      takes : program_reading (n + 1) ts (program_of past) (s ∷ ss) ≡ program_reading (n + 1 + 1) ts (program_of (event (line s) done ∷ past)) ss
      takes = sym (ap read_on k) ∙ ap (λ xs. program_reading (n + 1 + 1) ts xs ss) held_then

      pub next_line : (f : Option (ℕ × LineRefusal)) → ReadLines (n + 1) ts (event (line s) done ∷ past) ss f more → ReadLines n ts past (s ∷ ss) (behind_more 1 f) more
      next_line (Some p) r = takes ∙ r ∙ ap (λ m. stopped_at m (OfLine p.1)) (omega arith)
      next_line None r = record {
        reads = takes ∙ r.reads;
        allowed = r.allowed;
        few = λ b. r.few (subst (λ xs. states_for xs ≤ max_blocks) held_then (few_after u (program_of past) s k b));
        lawful = r.lawful;
      }

    pub line_refused : (why : LineRefusal) → Err why ≡ line_answer (program_of past) s → program_reading (n + 1) ts (program_of past) (s ∷ ss) ≡ stopped_at (n + 1) (OfLine why)
    line_refused why k = sym (ap read_on k)

    -- the law has one answer to the line
    pub line_taken : (r : Result (Unit {0}) LineRefusal) → After travel past (λ now. AnswersLine now.program s (done_or line_refusal r)) → r ≡ line_answer (program_of past) s
    line_taken r h =
        let k : AnswersLine (program_of past) s (done_or line_refusal r) = after_computed travel past (λ now. AnswersLine now.program s (done_or line_refusal r)) h in
        one_taken r (line_answer (program_of past) s) (line_computed (program_of past) s (done_or line_refusal r) k)

  pub lines_read : (n : ℕ) (ts : List Range) (past : List Event) (ss : List (List ℕ)) (rs : List (Result (Unit {0}) LineRefusal)) (more : List Event) → Ends rs (length ss) → Lawful travel past (line_events ss rs ++ more) → ReadLines n ts past ss (first_refusal rs) more
  lines_read n ts past [] [] more e h = record { reads = refl; allowed = refl; few = λ b. b; lawful = h }
  lines_read n ts past [] (Ok u ∷ rs) more e h = absurd (none_left e.1)
  lines_read n ts past [] (Err x ∷ rs) more e h = absurd (omega arith)
  lines_read n ts past (s ∷ ss) [] more e h = absurd (omega arith)
  lines_read n ts past (s ∷ ss) (Ok u ∷ rs) more e h =
      next_line n ts past s ss more u (line_taken n ts past s ss more (Ok u) h.0) (first_refusal rs) (lines_read (n + 1) ts (event (line s) done ∷ past) ss rs more (ends_rest rs (length ss) e) h.1)
  lines_read n ts past (s ∷ ss) (Err why ∷ rs) more e h = line_refused n ts past s ss more why (line_taken n ts past s ss more (Err why) h.0)
