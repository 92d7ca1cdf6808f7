-- A sweep follows a single environment through plain lines, settings and moves, and to the end.
use Rattle.std.proofs.Common.{◌≡◌, ℕ, suc, ◌+◌, ◌≤◌, Bool, true, false, cond, List, [], ◌∷◌, length, Some, None, fold, Option, sym, refl, ap, ◌∙◌, subst, arith}
use Rattle.std.specs.List.{AllByRecursion}
use Rattle.model.specs.declared.ending.Cause.{Cause}
use Rattle.model.specs.declared.ending.Cause.TheVariants.{Arithmetic, Travel}
use Rattle.model.specs.declared.ending.Ending.{Ending}
use Rattle.model.specs.declared.ending.Ending.TheVariants.{Stopped}
use Rattle.model.specs.declared.expression.Parameter.{Parameter}
use Rattle.model.specs.declared.expression.Value.{Value}
use Rattle.model.specs.Envelopes.{Envelope}
use Rattle.model.specs.declared.line.Motion.{Motion}
use Rattle.model.specs.declared.line.Line.{Line}
use Rattle.model.specs.declared.line.Line.TheVariants.{Plain, Setting, Move}
use Rattle.model.specs.Environments.{Env, LegalOf, position, registers}
use Rattle.model.specs.Values.{register, register_known, expression_of, fine, all_fine, four, Values}
use Rattle.model.specs.Sides.{Proper, kept, lowest}
use Rattle.model.specs.Blocks.{Stack}
use Rattle.model.specs.Runs.{put, passes, sets, moves, stops}
use Rattle.model.specs.Whole.{here, Dry, ended, faulted, left}
use Rattle.model.proofs.Closing.{closing}
use Rattle.model.proofs.Stepping.{all_fine_one}
use Rattle.domain.specs.Lattice.{Lattice, Meaning}
use Rattle.domain.specs.Tracking.{Tracking}
use Rattle.domain.specs.Environments.{legal_after}
use Rattle.sweep.specs.Blocks.{blocks}
use Rattle.sweep.specs.Sweeps.{Sweep, line_step, set_all, broken, cause}
use Rattle.sweep.proofs.Legal.{put_legal}
use Rattle.sweep.proofs.Values.{written_expression}
use Rattle.sweep.proofs.Tracks.{sure_is_fine, sure_at_none, set_all_tracks, set_all_none, shows_is_kept, shows_at_none}
use Rattle.sweep.proofs.Parts.{Part, first_stands, next_part}
use Rattle.sweep.proofs.Follow.{stop_of, live, dead, Shelf, Way, Goal, shelf_live, stays, none_failing, some_failing, went, went_inside}

cause_inside : (t : Bool) (c : Option Cause) → t ≡ true → cond t c (Some Arithmetic) ≡ c
cause_inside t c h = ap (λ (b : Bool). cond b c (Some Arithmetic)) h

cause_unsure : (t : Bool) (c : Option Cause) → t ≡ false → cond t c (Some Arithmetic) ≡ Some Arithmetic
cause_unsure t c h = ap (λ (b : Bool). cond b c (Some Arithmetic)) h

module _ {S : Type 0} {M : Meaning S} (l : Lattice M) (tracks : S → Option Env → Type 0) (q : Tracking registers l tracks) (lines : List Line) (t : Envelope) where
  abbrev pub step : Sweep S → Line → Sweep S
  step = line_step l (blocks lines) t

  abbrev pub EndsAs : ℕ → ℕ → Env → List Line → Sweep S → Type 0
  EndsAs k i e xs w = Dry lines t k i e (stop_of (fold step w xs).failing)

  no_shelf : (d : ℕ) (e : Env) (os : Stack) (s : List S) → os ≡ [] → Shelf l tracks lines (dead d) e os s → ⊥
  no_shelf d e os s n h = subst (λ (bs : Stack). Shelf l tracks lines (dead d) e bs s) n h

  pub at_end : Goal l tracks lines t []
  at_end live os i w e k legal part way fuel =
      let h = part.long in
      subst (λ (o : Ending). Dry lines t k i e o) (sym (ap stop_of way.clear)) (ended (omega arith) here (omega arith))
  at_end (dead d) os i w e k legal part way fuel = absurd (no_shelf d e os w.flow.store part.nested way.shelf)

  -- a failing line ends the sweep as its stop ends the run
  pub stopped : (k i : ℕ) (e : Env) (xs : List Line) (w : Sweep S) (c : Cause) → w.failing ≡ Some (record { line = suc i; cause = c }) →
      Dry lines t k i e (Stopped (record { line = suc i; cause = c })) → EndsAs k i e xs w
  stopped k i e xs w c h d = subst (λ (o : Ending). Dry lines t k i e o) (sym (ap stop_of (stays l (blocks lines) t xs w _ h))) d

  -- in a skipped branch the run waits where it waited
  pub waits : (k i n : ℕ) (e : Env) (o : Ending) → Dry lines t k (suc (suc i + n)) e o → Dry lines t k (suc (i + suc n)) e o
  waits k i n e o h = let z : suc (suc i + n) ≡ suc (i + suc n) = omega arith in subst (λ (j : ℕ). Dry lines t k j e o) z h

  pub past_plain : (xs : List Line) → Goal l tracks lines t xs → Goal l tracks lines t (Plain ∷ xs)
  past_plain xs go live os i w e k legal part way fuel =
      went lines t k i (suc i) e e _ (omega arith) (passes (first_stands lines os Plain xs i part))
      (λ n z. go live os (suc i) (step w Plain) e n legal (next_part lines os Plain xs i part.nested.1 part)
      (record { clear = none_failing _ w.line None way.clear refl; line = ap suc way.line; current = way.current; shelf = way.shelf; room = way.room })
      (omega arith))
  past_plain xs go (dead d) os i w e k legal part way fuel =
      waits k i (closing d xs) e _ (go (dead d) os (suc i) (step w Plain) e k legal (next_part lines os Plain xs i part.nested.1 part)
      (record { clear = none_failing _ w.line None way.clear refl; line = ap suc way.line; current = way.current; shelf = way.shelf; room = way.room })
      (omega arith))

  module _ (p : Parameter) (v : Value) (xs : List Line) (go : Goal l tracks lines t xs) where
    abbrev setting : Line
    setting = Setting p v

    set_by : (os : Stack) (i : ℕ) (w : Sweep S) (e : Env) (k : ℕ) → LegalOf registers e → Part lines os (setting ∷ xs) i → Way l tracks lines live e os i w → suc (length xs) ≤ k →
        (b : Bool) → fine e v ≡ b → EndsAs k i e xs (step w setting)
    set_by os i w e k legal part way fuel true f =
        let sure = sure_is_fine l tracks q w.flow.current (Some v ∷ []) e (part.written.0, tt) legal way.current ∙ ap all_fine_one f in
        went lines t k i (suc i) e _ _ (omega arith) (sets (first_stands lines os setting xs i part) f)
        (λ n z. go live os (suc i) (step w setting) _ n (legal_after registers e (register p) (expression_of v) legal (register_known p) f)
        (next_part lines os setting xs i part.nested.1 part)
        (record {
          clear = none_failing _ w.line _ way.clear (cause_inside _ None sure);
          line = ap suc way.line;
          current = q.set_value _ (register p) (expression_of v) e (register_known p) (written_expression v part.written.0) legal way.current f;
          shelf = shelf_live l tracks lines e _ os w.flow.store way.shelf;
          room = way.room;
        })
        (omega arith))
    set_by os i w e k legal part way fuel false f =
        let sure = sure_is_fine l tracks q w.flow.current (Some v ∷ []) e (part.written.0, tt) legal way.current ∙ ap all_fine_one f in
        stopped k i e xs (step w setting) Arithmetic (some_failing _ w.line i _ Arithmetic way.clear way.line (cause_unsure _ None sure))
        (faulted (omega arith) here (stops (first_stands lines os setting xs i part) (ap all_fine_one f)))

    pub past_setting : Goal l tracks lines t (setting ∷ xs)
    past_setting live os i w e k legal part way fuel = set_by os i w e k legal part way (omega arith) _ refl
    past_setting (dead d) os i w e k legal part way fuel =
        waits k i (closing d xs) e _ (go (dead d) os (suc i) (step w setting) e k legal (next_part lines os setting xs i part.nested.1 part)
        (record {
          clear = none_failing _ w.line _ way.clear (cause_inside _ None (sure_at_none l tracks q w.flow.current (Some v ∷ []) way.current));
          line = ap suc way.line;
          current = q.set_none _ (register p) (expression_of v) (register_known p) way.current;
          shelf = way.shelf;
          room = way.room;
        })
        (omega arith))

  module _ (proper : AllByRecursion Proper t.sides) (g : Motion) (x y z u : Option Value) (xs : List Line) (go : Goal l tracks lines t xs) where
    abbrev move : Line
    move = Move g x y z u

    abbrev vs : Values
    vs = four x y z u

    -- the state after the move
    abbrev moved : Sweep S → S
    moved w = set_all l 0 vs w.flow.current

    move_by : (os : Stack) (i : ℕ) (w : Sweep S) (e : Env) (k : ℕ) → LegalOf registers e → Part lines os (move ∷ xs) i → Way l tracks lines live e os i w → suc (length xs) ≤ k →
        all_fine e vs ≡ true → (o : Option ℕ) → lowest (kept (position (put e 0 vs e))) 0 t.sides ≡ o → EndsAs k i e xs (step w move)
    move_by os i w e k legal part way fuel f o b =
        let sure = sure_is_fine l tracks q w.flow.current vs e part.written.0 legal way.current ∙ f in
        let after = set_all_tracks l tracks q e 0 vs e w.flow.current (omega arith) (λ r. refl) part.written.0 f legal way.current in
        let fits = put_legal e 0 vs e (omega arith) f legal in
        let told : cause l t w.flow.current (moved w) move ≡ broken o =
        cause_inside _ (broken (lowest (l.shows (moved w)) 0 t.sides)) sure ∙ ap broken (shows_is_kept l tracks q (moved w) t.sides (put e 0 vs e) proper fits after ∙ b) in
        move_so os i w e k legal part way fuel f o b told after fits
      where
        move_so : (os : Stack) (i : ℕ) (w : Sweep S) (e : Env) (k : ℕ) → LegalOf registers e → Part lines os (move ∷ xs) i → Way l tracks lines live e os i w → suc (length xs) ≤ k →
            all_fine e vs ≡ true → (o : Option ℕ) → lowest (kept (position (put e 0 vs e))) 0 t.sides ≡ o → cause l t w.flow.current (moved w) move ≡ broken o →
            tracks (moved w) (Some (put e 0 vs e)) → LegalOf registers (put e 0 vs e) → EndsAs k i e xs (step w move)
        move_so os i w e k legal part way fuel f None b told after fits =
            went_inside lines t k i (suc i) e (put e 0 vs e) _ (omega arith) (moves (first_stands lines os move xs i part) f) b
            (λ n z. go live os (suc i) (step w move) (put e 0 vs e) n fits (next_part lines os move xs i part.nested.1 part)
            (record {
              clear = none_failing _ w.line _ way.clear told;
              line = ap suc way.line;
              current = after;
              shelf = shelf_live l tracks lines e _ os w.flow.store way.shelf;
              room = way.room;
            })
            (omega arith))
        move_so os i w e k legal part way fuel f (Some n) b told after fits =
            stopped k i e xs (step w move) (Travel n) (some_failing _ w.line i _ (Travel n) way.clear way.line told)
            (left (omega arith) here (moves (first_stands lines os move xs i part) f) b)

    fine_by : (os : Stack) (i : ℕ) (w : Sweep S) (e : Env) (k : ℕ) → LegalOf registers e → Part lines os (move ∷ xs) i → Way l tracks lines live e os i w → suc (length xs) ≤ k →
        (b : Bool) → all_fine e vs ≡ b → EndsAs k i e xs (step w move)
    fine_by os i w e k legal part way fuel true f = move_by os i w e k legal part way fuel f _ refl
    fine_by os i w e k legal part way fuel false f =
        let sure = sure_is_fine l tracks q w.flow.current vs e part.written.0 legal way.current ∙ f in
        stopped k i e xs (step w move) Arithmetic (some_failing _ w.line i _ Arithmetic way.clear way.line (cause_unsure _ _ sure))
        (faulted (omega arith) here (stops (first_stands lines os move xs i part) f))

    pub past_move : Goal l tracks lines t (move ∷ xs)
    past_move live os i w e k legal part way fuel = fine_by os i w e k legal part way (omega arith) _ refl
    past_move (dead d) os i w e k legal part way fuel =
        let after = set_all_none l tracks q 0 vs w.flow.current (omega arith) way.current in
        let told : cause l t w.flow.current (moved w) move ≡ None =
        cause_inside _ (broken (lowest (l.shows (moved w)) 0 t.sides)) (sure_at_none l tracks q w.flow.current vs way.current) ∙ ap broken (shows_at_none l tracks q (moved w) t.sides after) in
        waits k i (closing d xs) e _ (go (dead d) os (suc i) (step w move) e k legal (next_part lines os move xs i part.nested.1 part)
        (record { clear = none_failing _ w.line _ way.clear told; line = ap suc way.line; current = after; shelf = way.shelf; room = way.room })
        (omega arith))
