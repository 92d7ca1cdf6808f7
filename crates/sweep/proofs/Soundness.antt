-- A certificate is sound: at each line a state that holds every environment a run brings there.
use Rattle.std.proofs.Common.{◌≡◌, ℕ, suc, ◌+◌, ◌<◌, ◌≤◌, true, false, List, [], ◌∷◌, length, get_or, Some, None, Option, sym, refl, ap, ◌∙◌, subst, true≢false, arith}
use native.Mathlib.Decide.{dec_lt}
use Rattle.std.specs.List.{AllByRecursion}
use Rattle.std.proofs.ByRecursion.{All-get_or}
use Rattle.std.proofs.lemmas.List.{get_or_past}
use Rattle.model.specs.declared.expression.Condition.{Condition}
use Rattle.model.specs.declared.expression.Value.{Value}
use Rattle.model.specs.declared.range.Range.{Range}
use Rattle.model.specs.Envelopes.{Envelope}
use Rattle.model.specs.declared.block.BlockKind.TheVariants.{While as WhileBlock}
use Rattle.model.specs.declared.line.Motion.{Motion}
use Rattle.model.specs.declared.line.Line.{Line}
use Rattle.model.specs.declared.line.Line.TheVariants.{Plain, Setting, Move, While, If, EndIf, EndWhile}
use Rattle.model.specs.Environments.{Env, at, LegalOf, axes, registers}
use Rattle.model.specs.Values.{register, register_known, expression_of, values, four, all_fine, holds}
use Rattle.model.specs.Opposites.{opposite}
use Rattle.model.specs.Sides.{Proper}
use Rattle.model.specs.Written.{WrittenCondition, WrittenLine}
use Rattle.model.specs.Programs.{Stands, Closed}
use Rattle.model.specs.Runs.{put, Outcome, goes, commands, faults, Steps, passes, ends, sets, moves, stops, enters, leaves, back, does, skips}
use Rattle.model.specs.Reached.{Begins, Reached, begins, goes_on, commanded}
use Rattle.model.proofs.Opposites.{opposite_true}
use Rattle.model.proofs.Closing.{if_before_end}
use Rattle.domain.specs.Lattice.{Lattice, Meaning, Lawful}
use Rattle.domain.specs.Environments.{legal_after}
use Rattle.sweep.specs.Blocks.{blocks}
use Rattle.sweep.specs.Sweeps.{Sweep, sweep, came, flow_step, set_all, hulls_with}
use Rattle.sweep.specs.Sound.{Unchanged, Fine, LiesSome, known_by, known}
use Rattle.sweep.proofs.Places.{condition_is}
use Rattle.sweep.proofs.Legal.{put_legal, reached_legal}
use Rattle.sweep.proofs.Quiet.{came_quiet}
use Rattle.sweep.proofs.Prefix.{pre, at_start, next_is, quiet_line, loop_kept, branch_kept}
use Rattle.sweep.proofs.Values.{written_expression, sure_fine, set_all_holds}
use Rattle.sweep.proofs.Hulls.{hulls_hold}
use Rattle.sweep.proofs.Judged.{no_broken, all_shown, line_sure, line_inside, hulls_four, hulls_to_end}

module _ {S : Type 0} {M : Meaning S} (l : Lattice M) (p : Lawful registers l) (t : Envelope) (lines : List Line) (begin : S) (s : List S) (closed : Closed lines) (written : AllByRecursion WrittenLine lines)
    (unchanged : Unchanged l lines t begin s) where
  abbrev here : ℕ → Sweep S
  here = pre l (blocks lines) t lines begin s

  abbrev now : ℕ → S
  now i = (here i).flow.current

  abbrev number : ℕ → ℕ
  number m = (blocks lines).place m

  line_written : (i : ℕ) (x : Line) → Stands lines i x → WrittenLine x
  line_written i x st = subst (λ (y : Line). WrittenLine y) st.is (All-get_or _ lines i Plain st.inner written)

  -- where a run may stand: at a WHILE inside the loop's state, else inside the current one
  abbrev spot : ℕ → Line → S
  spot = known_by l lines t begin s

  abbrev Held : ℕ → Env → Type 0
  Held i e = M (known l lines t begin s i) e

  held_is : (i : ℕ) (e : Env) (x : Line) → get_or lines i Plain ≡ x → Held i e → M (spot i x) e
  held_is i e x q h = subst (λ (y : Line). M (spot i y) e) q h

  is_held : (i : ℕ) (e : Env) (x : Line) → get_or lines i Plain ≡ x → M (spot i x) e → Held i e
  is_held i e x q h = subst (λ (y : Line). M (spot i y) e) (sym q) h

  -- the current state before a WHILE or an ENDWHILE is within the loop's
  into_loop : (i m k : ℕ) (c : Condition) (e : Env) → Stands lines k (While m c) → i ≤ length lines → LegalOf registers e → (came l (number m) (here i).flow).changed ≡ false →
      M (now i) e → M (get_or s (number m) l.none) e
  into_loop i m k c e st j w q h =
      let arrived = came_quiet l (number m) (here i).flow q in
      let P : S → Type 0 = λ x. M x e in
      subst P (loop_kept l t lines begin s closed unchanged k m i c st j) (p.within_holds (now i) _ e w arrived.inside h)

  -- and it goes on as the loop's
  out_of_loop : (i m k : ℕ) (c : Condition) (e : Env) → Stands lines k (While m c) → i ≤ length lines → (came l (number m) (here i).flow).changed ≡ false →
      M (get_or s (number m) l.none) e → M (came l (number m) (here i).flow).current e
  out_of_loop i m k c e st j q h =
      let arrived = came_quiet l (number m) (here i).flow q in
      let P : S → Type 0 = λ x. M x e in
      subst P (sym (arrived.now ∙ loop_kept l t lines begin s closed unchanged k m i c st j)) h

  quiet : (i : ℕ) (x : Line) → Stands lines i x → (flow_step l (blocks lines) (here i).flow x).changed ≡ false
  quiet i x st = quiet_line l (blocks lines) t lines begin s unchanged.quiet i x st

  inner : {i : ℕ} {x : Line} → Stands lines i x → i ≤ length lines
  inner st = let h = st.inner in omega arith

  arrive_at : (i : ℕ) (e : Env) (x : Line) → Stands lines i x → LegalOf registers e → M (now i) e → M (spot i x) e
  arrive_at i e Plain st w h = h
  arrive_at i e (Setting q x) st w h = h
  arrive_at i e (Move g x y z u) st w h = h
  arrive_at i e (While m c) st w h = into_loop i m i c e st (inner st) w (quiet i (While m c) st) h
  arrive_at i e (If m c) st w h = h
  arrive_at i e (EndIf m) st w h = h
  arrive_at i e (EndWhile m) st w h = h

  arrive : (i : ℕ) (e : Env) → LegalOf registers e → M (now i) e → Held i e
  arrive i e w h = elim (dec_lt i (length lines)) [
    | yes k ↦ arrive_at i e (get_or lines i Plain) (record { inner = k; is = refl }) w h
    | no k ↦ is_held i e Plain (get_or_past lines i Plain (omega arith)) h
  ]

  moved_on : (i : ℕ) (e : Env) (x : Line) → Stands lines i x → LegalOf registers e → M (flow_step l (blocks lines) (here i).flow x).current e → Held (suc i) e
  moved_on i e x st w h =
      let P : Sweep S → Type 0 = λ v. M v.flow.current e in
      arrive (suc i) e w (subst P (sym (next_is l (blocks lines) t lines begin s i x st)) h)

  abbrev HeldAfter : Outcome → Type 0
  HeldAfter (goes i e) = Held i e
  HeldAfter (commands i e) = Held i e
  HeldAfter faults = Unit {0}

  moved_holds : (i : ℕ) (g : Motion) (x y z u : Option Value) (e : Env) → Stands lines i (Move g x y z u) → LegalOf registers e → all_fine e (four x y z u) ≡ true → Held i e →
      M (set_all l 0 (four x y z u) (now i)) (put e 0 (four x y z u) e)
  moved_holds i g x y z u e st w f h =
      set_all_holds l p e 0 (four x y z u) e (now i) (omega arith) (λ q. refl) (line_written i (Move g x y z u) st) f w (held_is i e (Move g x y z u) st.is h)

  left_holds : (i j m : ℕ) (c : Condition) (e : Env) → Stands lines i (While m c) → Stands lines j (EndWhile m) → LegalOf registers e → holds e c ≡ false → Held i e → Held (suc j) e
  left_holds i j m c e st sv w f h =
      let q : (blocks lines).condition m ≡ c = condition_is lines i m (While m c) WhileBlock c closed.once st refl in
      let v = subst (λ (d : Condition). WrittenCondition d) (sym q) (line_written i (While m c) st) in
      moved_on j e (EndWhile m) sv w
      (p.keep_holds _ (opposite ((blocks lines).condition m)) e v w
      (out_of_loop j m i c e st (inner sv) (quiet j (EndWhile m) sv) (held_is i e (While m c) st.is h))
      (ap (λ (d : Condition). holds e (opposite d)) q ∙ opposite_true e c f))

  skipped_holds : (i j m : ℕ) (c : Condition) (e : Env) → Stands lines i (If m c) → Stands lines j (EndIf m) → LegalOf registers e → holds e c ≡ false → Held i e → Held (suc j) e
  skipped_holds i j m c e st sv w f h =
      let before = if_before_end lines i j m c closed st sv in
      let k = p.keep_holds (now i) (opposite c) e (line_written i (If m c) st) w (held_is i e (If m c) st.is h) (opposite_true e c f) in
      let P : S → Type 0 = λ x. M x e in
      let there = subst P (sym (branch_kept l t lines begin s closed unchanged i m j c st before (inner sv))) k in
      moved_on j e (EndIf m) sv w (p.join_left _ (now j) e w there)

  -- what a step makes is held where it goes
  step_holds : {i : ℕ} {e : Env} {o : Outcome} → LegalOf registers e → Held i e → Steps lines i e o → HeldAfter o
  step_holds {i = i} {e = e} w h (passes st) = moved_on i e Plain st w (held_is i e Plain st.is h)
  step_holds {i = i} {e = e} w h (ends {l = m} st) = moved_on i e (EndIf m) st w (p.join_right _ (now i) e w (held_is i e (EndIf m) st.is h))
  step_holds {i = i} {e = e} w h (sets {p = q} {v = v} st f) =
      moved_on i _ (Setting q v) st (legal_after registers e (register q) (expression_of v) w (register_known q) f)
      (p.set_holds (now i) (register q) (expression_of v) e (register_known q) (written_expression v (line_written i (Setting q v) st)) w (held_is i e (Setting q v) st.is h) f)
  step_holds {i = i} {e = e} w h (moves {g = g} {x = x} {y = y} {z = z} {u = u} st f) =
      moved_on i _ (Move g x y z u) st (put_legal e 0 (four x y z u) e (omega arith) f w) (moved_holds i g x y z u e st w f h)
  step_holds w h (stops st f) = tt
  step_holds {i = i} {e = e} w h (enters {l = m} {c = c} st f) =
      moved_on i e (While m c) st w (p.keep_holds _ c e (line_written i (While m c) st) w (out_of_loop i m i c e st (inner st) (quiet i (While m c) st) (held_is i e (While m c) st.is h)) f)
  step_holds {i = i} {e = e} w h (leaves {l = m} {j = j} {c = c} st f sv) = left_holds i j m c e st sv w f h
  step_holds {i = i} {e = e} w h (back {l = m} {j = j} {c = c} st sv) =
      is_held j e (While m c) sv.is (into_loop i m j c e sv (inner st) w (quiet i (EndWhile m) st) (held_is i e (EndWhile m) st.is h))
  step_holds {i = i} {e = e} w h (does {l = m} {c = c} st f) = moved_on i e (If m c) st w (p.keep_holds (now i) c e (line_written i (If m c) st) w (held_is i e (If m c) st.is h) f)
  step_holds {i = i} {e = e} w h (skips {l = m} {j = j} {c = c} st f sv) = skipped_holds i j m c e st sv w f h

  pub reached_holds : {allowed : List Range} {i : ℕ} {e : Env} → ((f : Env) → Begins t.home allowed f → M begin f) → Reached lines t.home allowed i e → M (known l lines t begin s i) e
  reached_holds {e = e} b (begins a) =
      let P : Sweep S → Type 0 = λ v. M v.flow.current e in
      arrive 0 e a.legal (subst P (sym (at_start l (blocks lines) t lines begin s)) (b e a))
  reached_holds b (goes_on r st) = step_holds (reached_legal r) (reached_holds b r) st
  reached_holds b (commanded r st) = step_holds (reached_legal r) (reached_holds b r) st

  module _ (clear : (sweep l (blocks lines) t lines begin s).failing ≡ None) where
    no_fault : (i : ℕ) (e : Env) (x : Line) → Stands lines i x → LegalOf registers e → M (spot i x) e → all_fine e (values x) ≡ true
    no_fault i e Plain st w h = refl
    no_fault i e (Setting q x) st w h = sure_fine l p (now i) (Some x ∷ []) e (line_written i (Setting q x) st, tt) w h (line_sure l (blocks lines) t lines begin s i (Setting q x) st clear)
    no_fault i e (Move g x y z u) st w h = sure_fine l p (now i) (four x y z u) e (line_written i (Move g x y z u) st) w h (line_sure l (blocks lines) t lines begin s i (Move g x y z u) st clear)
    no_fault i e (While m c) st w h = refl
    no_fault i e (If m c) st w h = refl
    no_fault i e (EndIf m) st w h = refl
    no_fault i e (EndWhile m) st w h = refl

    in_hulls : (i : ℕ) (g : Motion) (x y z u : Option Value) (f : Env) → Stands lines i (Move g x y z u) → LegalOf registers f → M (set_all l 0 (four x y z u) (now i)) f →
        (r : ℕ) → r < axes → LiesSome (at f r) (get_or (sweep l (blocks lines) t lines begin s).hulls r None)
    in_hulls i g x y z u f st w h r k =
        let j = st.inner in
        let four-hulls = hulls_four l (blocks lines) t lines begin s i (inner st) in
        let P : Sweep S → Type 0 = λ v. LiesSome (at f r) (get_or v.hulls r None) in
        let q : 0 + r ≡ r = omega arith in
        let m = hulls_hold l p 0 r (set_all l 0 (four x y z u) (now i)) (here i).hulls f (omega arith) (omega arith) w h in
        hulls_to_end l (blocks lines) t lines begin s (suc i) r (at f r) (omega arith)
        (subst P (sym (next_is l (blocks lines) t lines begin s i (Move g x y z u) st))
        (subst (λ (o : ℕ). LiesSome (at f o) (get_or (hulls_with l 0 (set_all l 0 (four x y z u) (now i)) (here i).hulls) r None)) q m))

    pub step_fine : {i : ℕ} {e : Env} {o : Outcome} → AllByRecursion Proper t.sides → LegalOf registers e → M (known l lines t begin s i) e → Steps lines i e o → Fine t (sweep l (blocks lines) t lines begin s).hulls o
    step_fine proper w h (passes st) = tt
    step_fine proper w h (ends st) = tt
    step_fine proper w h (sets st f) = tt
    step_fine {i = i} {e = e} proper w h (moves {g = g} {x = x} {y = y} {z = z} {u = u} st f) =
        let m = moved_holds i g x y z u e st w f h in
        let k = put_legal e 0 (four x y z u) e (omega arith) f w in
        (all_shown l p _ 0 t.sides _ proper k m (no_broken _ (line_inside l (blocks lines) t lines begin s i (Move g x y z u) st clear)), in_hulls i g x y z u _ st k m)
    step_fine {i = i} {e = e} proper w h (stops {x = x} st f) = true≢false (sym (no_fault i e x st w (held_is i e x st.is h)) ∙ f)
    step_fine proper w h (enters st f) = tt
    step_fine proper w h (leaves st f sv) = tt
    step_fine proper w h (back st sv) = tt
    step_fine proper w h (does st f) = tt
    step_fine proper w h (skips st f sv) = tt
