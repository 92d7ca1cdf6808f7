-- What a sweep that finds no failing line has judged at each line, and its hulls from there on.
use Rattle.std.proofs.Common.{◌≡◌, ℕ, zero, suc, ◌+◌, ◌-◌, ◌<◌, ◌≤◌, Bool, true, false, cond, List, [], ◌∷◌, length, get_or, ℤ, Some, None, Option, sym, refl, ap, ◌∙◌, subst, arith}
use Rattle.std.specs.List.{AllByRecursion}
use Rattle.model.specs.declared.ending.Cause.{Cause}
use Rattle.model.specs.declared.ending.Cause.TheVariants.{Arithmetic}
use Rattle.model.specs.declared.ending.Failure.{Failure}
use Rattle.model.specs.declared.side.Side.{Side}
use Rattle.model.specs.Envelopes.{Envelope}
use Rattle.model.specs.declared.line.Line.{Line}
use Rattle.model.specs.declared.line.Line.TheVariants.{Plain}
use Rattle.model.specs.Environments.{Env, LegalOf, axes, position, registers}
use Rattle.model.specs.Values.{values}
use Rattle.model.specs.Sides.{Proper, AllHold, lowest}
use Rattle.model.specs.Programs.{Stands}
use Rattle.model.proofs.Standing.{none_some}
use Rattle.domain.specs.Lattice.{Lattice, Meaning, Lawful}
use Rattle.sweep.specs.Blocks.{Blocks}
use Rattle.sweep.specs.Sweeps.{Sweep, sweep, first, failure, broken, cause, leaves, all_sure, flow_step}
use Rattle.sweep.specs.Sound.{LiesSome}
use Rattle.sweep.proofs.Prefix.{pre, at_start, at_end, pre_more, next_is}
use Rattle.sweep.proofs.Hulls.{step_keeps, step_long}

first_left : (f g : Option Failure) → first f g ≡ None → f ≡ None
first_left None g h = refl
first_left (Some f) g h = h

first_right : (f g : Option Failure) → first f g ≡ None → g ≡ None
first_right None g h = h
first_right (Some f) g h = absurd (none_some (sym h))

no_failure : (n : ℕ) (c : Option Cause) → failure n c ≡ None → c ≡ None
no_failure n None h = refl
no_failure n (Some c) h = absurd (none_some (sym h))

pub no_broken : (o : Option ℕ) → broken o ≡ None → o ≡ None
no_broken None h = refl
no_broken (Some k) h = absurd (none_some (sym h))

judged_sure : (t : Bool) (c : Option Cause) → cond t c (Some Arithmetic) ≡ None → t ≡ true
judged_sure true c h = refl
judged_sure false c h = absurd (none_some (sym h))

judged_inside : (t : Bool) (c : Option Cause) → cond t c (Some Arithmetic) ≡ None → c ≡ None
judged_inside true c h = h
judged_inside false c h = absurd (none_some (sym h))

module _ {S : Type 0} {M : Meaning S} (l : Lattice M) (p : Lawful registers l) where
  shown_by : (s : S) (d : Side) (n : ℕ) (ds : List Side) (e : Env) → Proper d → LegalOf registers e → M s e → (t : Bool) → l.shows s d ≡ t →
      cond t (lowest (l.shows s) (suc n) ds) (Some n) ≡ None → (lowest (l.shows s) (suc n) ds ≡ None → AllHold (position e) ds) → AllHold (position e) (d ∷ ds)
  shown_by s d n ds e g w m true y h k = (p.shows_holds s d e g w y m, k h)
  shown_by s d n ds e g w m false y h k = absurd (none_some (sym h))

  -- where no side is left unshown, all hold
  pub all_shown : (s : S) (n : ℕ) (ds : List Side) (e : Env) → AllByRecursion Proper ds → LegalOf registers e → M s e → lowest (l.shows s) n ds ≡ None → AllHold (position e) ds
  all_shown s n [] e proper w m h = tt
  all_shown s n (d ∷ ds) e proper w m h = shown_by s d n ds e proper.0 w m _ refl h (all_shown s (suc n) ds e proper.1 w m)

module _ {S : Type 0} {M : Meaning S} (l : Lattice M) (bs : Blocks) (t : Envelope) (lines : List Line) (begin : S) (s : List S) where
  abbrev here : ℕ → Sweep S
  here = pre l bs t lines begin s

  abbrev whole : Sweep S
  whole = sweep l bs t lines begin s

  clear_by : (m i : ℕ) → i + m ≡ length lines → whole.failing ≡ None → (here i).failing ≡ None
  clear_by zero i e h = ap (λ (w : Sweep S). w.failing) (at_end l bs t lines begin s i (omega arith)) ∙ h
  clear_by (suc m) i e h =
      let k : i < length lines = omega arith in
      let r = clear_by m (suc i) (omega arith) h in
      first_left _ _ (ap (λ (w : Sweep S). w.failing) (sym (pre_more l bs t lines begin s i k)) ∙ r)

  no_cause : (i : ℕ) (x : Line) → Stands lines i x → whole.failing ≡ None →
      cause l t (here i).flow.current (flow_step l bs (here i).flow x).current x ≡ None
  no_cause i x st h =
      let k = st.inner in
      let r = clear_by (length lines - suc i) (suc i) (omega arith) h in
      no_failure (here i).line _ (first_right (here i).failing _ (ap (λ (w : Sweep S). w.failing) (sym (next_is l bs t lines begin s i x st)) ∙ r))

  -- every value was sure, and no side was left unshown
  pub line_sure : (i : ℕ) (x : Line) → Stands lines i x → whole.failing ≡ None → all_sure l (here i).flow.current (values x) ≡ true
  line_sure i x st h = judged_sure (all_sure l (here i).flow.current (values x)) (leaves l t (flow_step l bs (here i).flow x).current x) (no_cause i x st h)

  pub line_inside : (i : ℕ) (x : Line) → Stands lines i x → whole.failing ≡ None → leaves l t (flow_step l bs (here i).flow x).current x ≡ None
  line_inside i x st h = judged_inside (all_sure l (here i).flow.current (values x)) (leaves l t (flow_step l bs (here i).flow x).current x) (no_cause i x st h)

  pub hulls_four : (i : ℕ) → i ≤ length lines → length (here i).hulls ≡ axes
  hulls_four zero h = ap (λ (w : Sweep S). length w.hulls) (at_start l bs t lines begin s)
  hulls_four (suc i) h =
      let k : i < length lines = omega arith in
      ap (λ (w : Sweep S). length w.hulls) (pre_more l bs t lines begin s i k) ∙
      (step_long l (flow_step l bs (here i).flow (get_or lines i Plain)).current (here i).hulls (get_or lines i Plain) ∙ hulls_four i (omega arith))

  hulls_on : (i d k : ℕ) (n : ℤ) → i + d ≤ length lines → LiesSome n (get_or (here i).hulls k None) → LiesSome n (get_or (here (i + d)).hulls k None)
  hulls_on i zero k n h m = let q : i ≡ i + 0 = omega arith in subst (λ (o : ℕ). LiesSome n (get_or (here o).hulls k None)) q m
  hulls_on i (suc d) k n h m =
      let q : suc (i + d) ≡ i + suc d = omega arith in
      let j : i + d < length lines = omega arith in
      let P : Sweep S → Type 0 = λ w. LiesSome n (get_or w.hulls k None) in
      subst (λ (o : ℕ). LiesSome n (get_or (here o).hulls k None)) q
      (subst P (sym (pre_more l bs t lines begin s (i + d) j))
      (step_keeps l (flow_step l bs (here (i + d)).flow (get_or lines (i + d) Plain)).current (here (i + d)).hulls (get_or lines (i + d) Plain) k n (hulls_on i d k n (omega arith) m)))

  -- what a hull holds before some line it holds at the end
  pub hulls_to_end : (i k : ℕ) (n : ℤ) → i ≤ length lines → LiesSome n (get_or (here i).hulls k None) → LiesSome n (get_or whole.hulls k None)
  hulls_to_end i k n h m =
      let q : i + (length lines - i) ≡ length lines = omega arith in
      let P : Sweep S → Type 0 = λ w. LiesSome n (get_or w.hulls k None) in
      subst P (ap here q ∙ at_end l bs t lines begin s (length lines) (omega arith)) (hulls_on i (length lines - i) k n (omega arith) m)
