-- What is read of an input is the reading by the rules, and the only one.
use Rattle.std.proofs.Common.{◌≡◌, ℕ, ◌+◌, ◌-◌, ◌<◌, ◌≤◌, Bool, true, false, cond, not, ◌||◌, ltb, ◌⊎◌, List, [], ◌∷◌, ◌++◌, length, ℤ, pos, neg_ℤ, ◌≤ℤ◌, Some, None, Ok, Err, Option, Result, is_ok, sym, refl, ap, ◌∙◌, subst, inl, inr, append-nil, arith}
use Rattle.std.specs.Prelude.{slice_set}
use lib.Signed.{lt_z}
use Rattle.std.proofs.lemmas.Bool.Decides.{nat_tests}
use Rattle.std.proofs.lemmas.Int.{ints}
use Rattle.model.specs.Limits.{limit}
use Rattle.model.specs.Blocks.{closed}
use Rattle.model.specs.declared.line.Line.{Line}
use Rattle.model.specs.declared.range.Range.{Range}
use Rattle.program.specs.Entry.{line_answer, lines_after}
use Rattle.program.specs.declared.refusal.LineRefusal.{LineRefusal}
use Rattle.session.specs.Answers.{no_ranges, allow_answer}
use Rattle.session.specs.declared.refusal.AllowRefusal.{AllowRefusal}
use Rattle.session.specs.declared.refusal.AllowRefusal.TheVariants.{Parameter, Range as OfRange}
use Rattle.console.specs.declared.range_line.RangeLine.{RangeLine}
use Rattle.console.specs.declared.refusal.Refusal.{Refusal}
use Rattle.console.specs.declared.refusal.Refusal.TheVariants.{Input, RangeText, Allow as OfAllow, Line as OfLine, Open}
use Rattle.console.specs.Lines.{lines_of, LinesAre}
use Rattle.console.specs.RangeLines.{RangeIs, range, range_of}
use Rattle.console.specs.Readings.{max_input, is_range, Reading, whole, stopped_at, by_allow, by_range, range_answer, ranges_with, ranges_behind, Skipped, rest, stopped, after_range, skip, ending, by_line, program_reading, by_skipped, reading_of}
use Rattle.console.specs.Law.{Good, Bad, malformed, unknown, disordered, Allows, same, next, Begun, Takes, none, one, BehindRanges, Taken, Reads, too_long, bad_range, bad_line, left_open, read_all}
use Rattle.console.proofs.RangeGrammar.{is_read, is_had}
use Rattle.grammar.proofs.Mores.{true_false}
use Rattle.console.proofs.LineFeeds.{are_lines, no_others}

-- ---- range lines
known_test : (p : ℕ) → 1 ≤ p → p ≤ 6 → ltb p 1 || ltb 6 p ≡ false
known_test p l h = grind (arith, nat_tests)

test_known : (p : ℕ) → ltb p 1 || ltb 6 p ≡ false → (1 ≤ p) × (p ≤ 6)
test_known p e = (grind (arith, nat_tests), grind (arith, nat_tests))

ordered_test : (lo hi : ℤ) → lo ≤ℤ hi → neg_ℤ (pos limit) ≤ℤ lo → hi ≤ℤ pos limit → lt_z hi lo || (lt_z lo (neg_ℤ (pos limit)) || lt_z (pos limit) hi) ≡ false
ordered_test lo hi a b c = grind (arith, ints)

test_ordered : (lo hi : ℤ) → lt_z hi lo || (lt_z lo (neg_ℤ (pos limit)) || lt_z (pos limit) hi) ≡ false → (lo ≤ℤ hi) × (neg_ℤ (pos limit) ≤ℤ lo) × (hi ≤ℤ pos limit)
test_ordered lo hi e = (grind (arith, ints), grind (arith, ints), grind (arith, ints))

abbrev RangeSays : List ℕ → Result (Unit {0}) Refusal → Type 0
RangeSays l (Ok u) = (a : RangeLine) × Good l a
RangeSays l (Err why) = Bad l why

-- by the two tests, whether the parameter is none and whether the range is out of order
abbrev tested : Bool → Bool → Result (Unit {0}) AllowRefusal
tested s t = cond s (Err Parameter) (cond (not t) (Ok tt) (Err OfRange))

range_says : (l : List ℕ) (o : Option RangeLine) → range_of l ≡ o → RangeSays l (by_range o)
range_says l None e = malformed (λ a is. let f = is_read l a is in absurd (let z : ◌≡◌ {A = ℕ} 0 1 = cc in omega arith))
range_says l (Some a) e = go (ltb a.parameter 1 || ltb 6 a.parameter) refl (lt_z a.range.hi a.range.lo || (lt_z a.range.lo (neg_ℤ (pos limit)) || lt_z (pos limit) a.range.hi)) refl
  where
    go : (s : Bool) → (ltb a.parameter 1 || ltb 6 a.parameter) ≡ s → (t : Bool) → (lt_z a.range.hi a.range.lo || (lt_z a.range.lo (neg_ℤ (pos limit)) || lt_z (pos limit) a.range.hi)) ≡ t → RangeSays l (by_allow (tested s t))
    go true f t g = unknown a (is_had l a e) (λ k. true_false f (known_test a.parameter k.0 k.1))
    go false f true g = disordered a (is_had l a e) (test_known a.parameter f) (λ k. true_false g (ordered_test a.range.lo a.range.hi k.0 k.1 k.2))
    go false f false g = (a, (is_had l a e, test_known a.parameter f, test_ordered a.range.lo a.range.hi g))

-- both tests decide the answer
by_tests : (l : List ℕ) (a : RangeLine) (s t : Bool) → RangeIs l a → (ltb a.parameter 1 || ltb 6 a.parameter) ≡ s → (lt_z a.range.hi a.range.lo || (lt_z a.range.lo (neg_ℤ (pos limit)) || lt_z (pos limit) a.range.hi)) ≡ t → range_answer l ≡ by_allow (tested s t)
by_tests l a s t is f g = ap by_range (is_read l a is) ∙ (λ i. by_allow (tested (f i) (g i)))

good_answer : (l : List ℕ) (a : RangeLine) → Good l a → range_answer l ≡ Ok tt
good_answer l a (is, k, o) = by_tests l a false false is (known_test a.parameter k.0 k.1) (ordered_test a.range.lo a.range.hi o.0 o.1 o.2)

none_read : (l : List ℕ) (o : Option RangeLine) → range_of l ≡ o → ((a : RangeLine) → RangeIs l a → ⊥) → by_range o ≡ Err RangeText
none_read l None e n = refl
none_read l (Some a) e n = absurd (n a (is_had l a e))

bad_answer : (l : List ℕ) (why : Refusal) → Bad l why → range_answer l ≡ Err why
bad_answer l why (malformed n) = none_read l (range_of l) refl n
bad_answer l why (unknown a is n) = go (ltb a.parameter 1 || ltb 6 a.parameter) refl
  where
    go : (s : Bool) → (ltb a.parameter 1 || ltb 6 a.parameter) ≡ s → range_answer l ≡ Err (OfAllow Parameter)
    go true f = by_tests l a true _ is f refl
    go false f = absurd (n (test_known a.parameter f))
bad_answer l why (disordered a is known n) = go (lt_z a.range.hi a.range.lo || (lt_z a.range.lo (neg_ℤ (pos limit)) || lt_z (pos limit) a.range.hi)) refl
  where
    go : (t : Bool) → (lt_z a.range.hi a.range.lo || (lt_z a.range.lo (neg_ℤ (pos limit)) || lt_z (pos limit) a.range.hi)) ≡ t → range_answer l ≡ Err (OfAllow OfRange)
    go true g = by_tests l a false true is (known_test a.parameter known.0 known.1) g
    go false g = absurd (n (test_ordered a.range.lo a.range.hi g))

good_range : (l : List ℕ) (a : RangeLine) → Good l a → is_range l ≡ true
good_range l a (range d xs ys lo hi p q x y, k, o) = refl

-- it allows its parameter its range
good_allowed : (l : List ℕ) (a : RangeLine) → Good l a → (ts : List Range) → ranges_behind ts l ≡ slice_set ts (a.parameter - 1) a.range
good_allowed l a g ts =
    let set_by = λ (r : Result (Unit {0}) Refusal). cond (is_ok r) (slice_set ts (a.parameter - 1) a.range) ts in
    ap (ranges_with ts) (is_read l a g.0) ∙ by_answer (allow_answer a.parameter a.range) ∙ ap set_by (sym (ap by_range (is_read l a g.0)) ∙ good_answer l a g)
  where
    by_answer : (r : Result (Unit {0}) AllowRefusal) → cond (is_ok r) (slice_set ts (a.parameter - 1) a.range) ts ≡ cond (is_ok (by_allow r)) (slice_set ts (a.parameter - 1) a.range) ts
    by_answer (Ok u) = refl
    by_answer (Err why) = refl

-- ---- what is left after the range lines
abbrev SkipIs : List Range → List (List ℕ) → Skipped → Type 0
SkipIs ts ls (rest us ps) = (rs : List (List ℕ)) × (ls ≡ rs ++ ps) × Allows ts rs us × Begun ps
SkipIs ts ls (stopped why) = (rs : List (List ℕ)) × (us : List Range) × (l : List ℕ) × (ms : List (List ℕ)) × (ls ≡ rs ++ (l ∷ ms)) × Allows ts rs us × (is_range l ≡ true) × Bad l why

one_more : (ts : List Range) (l : List ℕ) (ls : List (List ℕ)) (s : Skipped) (a : RangeLine) → Good l a → SkipIs (slice_set ts (a.parameter - 1) a.range) ls s → SkipIs ts (l ∷ ls) s
one_more ts l ls (rest us ps) a g (rs, e, allows, b) = (l ∷ rs, ap (λ x. l ∷ x) e, next a g allows, b)
one_more ts l ls (stopped why) a g (rs, us, m, ms, e, allows, q, b) = (l ∷ rs, us, m, ms, ap (λ x. l ∷ x) e, next a g allows, q, b)

skip_is : (ts : List Range) (ls : List (List ℕ)) → SkipIs ts ls (skip ts ls)
skip_is ts [] = ([], refl, same, tt)
skip_is ts (l ∷ ls) = go (is_range l) refl (range_answer l) (range_says l (range_of l) refl) (skip_is (ranges_behind ts l) ls)
  where
    go : (b : Bool) → is_range l ≡ b → (r : Result (Unit {0}) Refusal) → RangeSays l r → SkipIs (ranges_behind ts l) ls (skip (ranges_behind ts l) ls) → SkipIs ts (l ∷ ls) (cond b (after_range r (skip (ranges_behind ts l) ls)) (rest ts (l ∷ ls)))
    go false e r f m = ([], refl, same, e)
    go true e (Ok u) (a, g) m = one_more ts l ls (skip (ranges_behind ts l) ls) a g (subst (λ us. SkipIs us ls (skip (ranges_behind ts l) ls)) (good_allowed l a g ts) m)
    go true e (Err why) f m = ([], ts, l, ls, refl, same, e, f)

skip_good : (ts us : List Range) (rs ms : List (List ℕ)) → Allows ts rs us → skip ts (rs ++ ms) ≡ skip us ms
skip_good ts us rs ms same = refl
skip_good ts us rs ms (next {l = r} {ls = ls} a g allows) =
    (λ i. cond (good_range r a g i) (after_range (good_answer r a g i) (skip (good_allowed r a g ts i) (ls ++ ms))) (rest ts (r ∷ (ls ++ ms)))) ∙ skip_good (slice_set ts (a.parameter - 1) a.range) us ls ms allows

skip_begun : (ts : List Range) (ms : List (List ℕ)) → Begun ms → skip ts ms ≡ rest ts ms
skip_begun ts [] b = refl
skip_begun ts (l ∷ ms) b = ap (λ v. cond v (after_range (range_answer l) (skip (ranges_behind ts l) ms)) (rest ts (l ∷ ms))) b

-- ---- the lines of the program
-- the lines are all taken, or the first that is not is refused
Going : ℕ → List Range → List Line → List (List ℕ) → Reading → Type 0
Going n ts xs ls r = ((ys : List Line) × Takes xs ls ys × (r ≡ ending ts ys)) ⊎ ((ps : List (List ℕ)) × (l : List ℕ) × (ms : List (List ℕ)) × (ys : List Line) × (why : LineRefusal) × (ls ≡ ps ++ (l ∷ ms)) × Takes xs ps ys × (line_answer ys l ≡ Err why) × (r ≡ stopped_at (n + length ps) (OfLine why)))

going : (n : ℕ) (ts : List Range) (xs : List Line) (ls : List (List ℕ)) → Going n ts xs ls (program_reading n ts xs ls)
unfolding Going
going n ts xs [] = inl (xs, none, refl)
going n ts xs (l ∷ ls) = go (line_answer xs l) refl (going (n + 1) ts (lines_after xs l) ls)
  where
    go : (a : Result (Unit {0}) LineRefusal) → line_answer xs l ≡ a → Going (n + 1) ts (lines_after xs l) ls (program_reading (n + 1) ts (lines_after xs l) ls) → Going n ts xs (l ∷ ls) (by_line n a (program_reading (n + 1) ts (lines_after xs l) ls))
    go (Ok u) e (inl (ys, t, f)) = inl (ys, one e t, f)
    go (Ok u) e (inr (ps, m, ms, ys, why, c, t, a, f)) = inr (l ∷ ps, m, ms, ys, why, ap (λ x. l ∷ x) c, one e t, a, f ∙ ap (λ j. stopped_at j (OfLine why)) (omega arith))
    go (Err why) e m = inr ([], l, ls, xs, why, refl, none, e, ap (λ j. stopped_at j (OfLine why)) (omega arith))

takes_on : (n : ℕ) (ts : List Range) (xs ys : List Line) (ps ms : List (List ℕ)) → Takes xs ps ys → program_reading n ts xs (ps ++ ms) ≡ program_reading (n + length ps) ts ys ms
takes_on n ts xs ys ps ms none = ap (λ j. program_reading j ts xs ms) (omega arith)
takes_on n ts xs ys ps ms (one {l = l} {ls = ls} e t) =
    ap (λ a. by_line n a (program_reading (n + 1) ts (lines_after xs l) (ls ++ ms))) e ∙ takes_on (n + 1) ts (lines_after xs l) ys ls ms t ∙ ap (λ j. program_reading j ts ys ms) (omega arith)

-- ---- the reading
module _ (bs : List ℕ) where
  ends_is : (ts : List Range) (ps : List (List ℕ)) (ys : List Line) (b : Bool) → Taken bs ts ps [] ys → closed ys ≡ b → Reads bs (cond b (whole ts ys) (stopped_at 0 Open))
  ends_is ts ps ys true t e = read_all ts ps ys t e
  ends_is ts ps ys false t e = left_open ts ps ys t e

  program_is : (ts : List Range) (ps : List (List ℕ)) (r : Reading) → BehindRanges bs ts ps → Begun ps → Going 1 ts [] ps r → Reads bs r
  unfolding Going
  program_is ts ps r behind b (inl (ys, t, f)) =
      let all = sym (append-nil ps) in
      subst (Reads bs) (sym f) (ends_is ts ps ys (closed ys) (record { behind = subst (BehindRanges bs ts) all behind; begun = subst Begun all b; takes = t }) refl)
  program_is ts ps r behind b (inr (qs, l, ms, ys, why, c, t, a, f)) =
      subst (Reads bs) (sym (f ∙ ap (λ j. stopped_at j (OfLine why)) (omega arith)))
      (bad_line ts qs l ms ys why (record { behind = subst (BehindRanges bs ts) c behind; begun = subst Begun c b; takes = t }) a)

  skipped_is : (short : length bs ≤ max_input) (s : Skipped) → SkipIs no_ranges (lines_of bs) s → Reads bs (by_skipped s)
  skipped_is short (rest ts ps) (rs, e, allows, b) = program_is ts ps _ (record { short = short; ranges = rs; lines = subst (LinesAre bs) e (are_lines bs); allows = allows }) b (going 1 ts [] ps)
  skipped_is short (stopped why) (rs, ts, l, ms, e, allows, q, b) = bad_range ts l ms why (record { short = short; ranges = rs; lines = subst (LinesAre bs) e (are_lines bs); allows = allows }) q b

pub is_reading : (bs : List ℕ) → Reads bs (reading_of bs)
is_reading bs = go (ltb max_input (length bs)) refl
  where
    go : (t : Bool) → ltb max_input (length bs) ≡ t → Reads bs (cond t (stopped_at 0 Input) (by_skipped (skip no_ranges (lines_of bs))))
    go true e = too_long (let h : max_input < length bs = grind (arith, nat_tests) in h)
    go false e = skipped_is bs (let h : length bs ≤ max_input = grind (arith, nat_tests) in h) (skip no_ranges (lines_of bs)) (skip_is no_ranges (lines_of bs))

pub long_reading : (bs : List ℕ) → max_input < length bs → stopped_at 0 Input ≡ reading_of bs
long_reading bs h = let t : ltb max_input (length bs) ≡ true = grind (arith, nat_tests) in sym (ap (λ v. cond v (stopped_at 0 Input) (by_skipped (skip no_ranges (lines_of bs)))) t)

short_reading : (bs : List ℕ) (s : Skipped) → length bs ≤ max_input → skip no_ranges (lines_of bs) ≡ s → by_skipped s ≡ reading_of bs
short_reading bs s h e =
    let t : ltb max_input (length bs) ≡ false = grind (arith, nat_tests) in
    sym (ap (λ v. cond v (stopped_at 0 Input) (by_skipped (skip no_ranges (lines_of bs)))) t ∙ ap by_skipped e)

-- the range lines are passed over
past_ranges : (bs : List ℕ) (ts : List Range) (ms : List (List ℕ)) → BehindRanges bs ts ms → skip no_ranges (lines_of bs) ≡ skip ts ms
past_ranges bs ts ms b = ap (skip no_ranges) (sym (no_others bs (b.ranges ++ ms) b.lines)) ∙ skip_good no_ranges ts b.ranges ms b.allows

past_program : (bs : List ℕ) (ts : List Range) (ps ms : List (List ℕ)) (xs : List Line) → Taken bs ts ps ms xs → program_reading (1 + length ps) ts xs ms ≡ reading_of bs
past_program bs ts ps ms xs t =
    sym (takes_on 1 ts [] xs ps ms t.takes) ∙ short_reading bs (rest ts (ps ++ ms)) t.behind.short (past_ranges bs ts (ps ++ ms) t.behind ∙ skip_begun ts (ps ++ ms) t.begun)

pub one_reading : (bs : List ℕ) (r : Reading) → Reads bs r → r ≡ reading_of bs
one_reading bs r (too_long h) = long_reading bs h
one_reading bs r (bad_range ts l ls why b q k) =
    short_reading bs (stopped why) b.short (past_ranges bs ts (l ∷ ls) b ∙ (λ i. cond (q i) (after_range (bad_answer l why k i) (skip (ranges_behind ts l) ls)) (rest ts (l ∷ ls))))
one_reading bs r (bad_line ts ps l ls xs why t a) =
    ap (λ j. stopped_at j (OfLine why)) (omega arith) ∙ sym (ap (λ v. by_line (1 + length ps) v (program_reading (1 + length ps + 1) ts (lines_after xs l) ls)) a) ∙ past_program bs ts ps (l ∷ ls) xs t
one_reading bs r (left_open ts ps xs t e) = sym (ap (λ v. cond v (whole ts xs) (stopped_at 0 Open)) e) ∙ past_program bs ts ps [] xs t
one_reading bs r (read_all ts ps xs t e) = sym (ap (λ v. cond v (whole ts xs) (stopped_at 0 Open)) e) ∙ past_program bs ts ps [] xs t
