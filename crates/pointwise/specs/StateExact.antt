-- Following a single environment: each operation of the states, and the record of them all.
use Rattle.std.specs.Prelude.{◌≡◌, ℕ, ◌<◌, ◌≤◌, Bool, true, false, cond, List, ℤ, Option, ◌==◌, slice_set, refl}
use Rattle.std.proofs.Common.{ap, ap₂, sym, ◌∙◌, subst, arith}
use Rattle.std.proofs.lemmas.Bool.{eqb-true}
use Rattle.std.specs.declared.option.Option.TheVariants as opt
use Rattle.model.specs.declared.line.Axis.{Axis}
use Rattle.model.specs.declared.range.Range.{Range}
use Rattle.model.specs.declared.side.Side.{Side}
use Rattle.model.specs.declared.expression.Term.{Term}
use Rattle.model.specs.declared.expression.Term.TheVariants.{Number, Parameter as Held}
use Rattle.model.specs.declared.expression.Expression.{Expression}
use Rattle.model.specs.declared.expression.Expression.TheVariants.{Bare, Apply}
use Rattle.model.specs.declared.expression.Condition.{Condition}
use Rattle.model.specs.Environments.{Env, Lies, LegalOf, at, full, named, position}
use Rattle.model.specs.Axes.{along}
use Rattle.model.specs.Sides.{axis_register, kept, Proper}
use Rattle.model.specs.Values.{register, evaluate, faultless, holds, term as number, number as held}
use Rattle.model.specs.Written.{ExpressionOf, WrittenCondition}
use Rattle.domain.specs.Lattice.{empty, single}
use Rattle.domain.specs.Tracking.{Tracking, LosesNothing}
use Rattle.domain.specs.Leading.{tracked_loses_nothing}
use Rattle.model.proofs.Numbers.{lies_in, in_lies, faultless_fit}
use Rattle.number_sets.specs.declared.sets.Pair.{Pair}
use Rattle.number_sets.specs.Sets.{NumberSets, LawfulSets}
use Rattle.number_sets.specs.Exact.{ExactSets}
use Rattle.pointwise.specs.States.{State, of, term, value, changed, put, narrow, keep, kept_sides}
use Rattle.pointwise.specs.States.{set as set-state, join, sure, shows, range_of, pointwise}
use Rattle.pointwise.specs.Tracks.{follows, tracks}
use Rattle.pointwise.specs.StateLaws.{axis_named, axis_at, axis_lies, term_lies, operand_lies}
use Rattle.pointwise.specs.StateTracks.{kept_follows, put_follows, set_follows, term_single, operand_single, value_single, sharp, sharp_follows}

module _ {V : Type 0} (a : NumberSets V) (p : LawfulSets a) (x : ExactSets a) (n : ℕ) (enough : named ≤ n) where
  narrow_value : (s : State V) (r : ℕ) (z : Range) (e : Env) → r < n → LegalOf n e → follows a n s (opt.Some e) → Lies (at e r) z → follows a n (narrow a n s r z) (opt.Some e)
  narrow_value opt.None r z e i l m h = m
  narrow_value (opt.Some xs) r z e i l m h =
      put_follows a p x n enough xs r (a.narrow (of a xs r) z) e (ap (λ (y : V). a.narrow y z) (m r i) ∙ x.narrow_single (at e r) z (l.fits r) h) m

  narrow_none : (s : State V) (r : ℕ) (z : Range) → r < n → follows a n s opt.None → follows a n (narrow a n s r z) opt.None
  narrow_none opt.None r z i m = m
  narrow_none (opt.Some xs) r z i m = absurd m

  set_value : (s : State V) (r : ℕ) (y : Expression) (e : Env) → r < n → ExpressionOf n y → LegalOf n e → follows a n s (opt.Some e) → faultless e y ≡ true → follows a n (set-state a n s r y) (opt.Some (slice_set e r (evaluate e y)))
  set_value opt.None r y e i w l m f = m
  set_value (opt.Some xs) r y e i w l m f =
      let k = l.whole in
      set_follows a p x n enough xs r (value a xs y) e (evaluate e y) (omega arith) (value_single a p x n enough y xs e w l m (lies_in _ full (faultless_fit e y f))) m

  set_none : (s : State V) (r : ℕ) (y : Expression) → r < n → follows a n s opt.None → follows a n (set-state a n s r y) opt.None
  set_none opt.None r y i m = m
  set_none (opt.Some xs) r y i m = absurd m

  one_register : (xs : List V) (q r : ℕ) (e : Env) (b : Bool) → (q == r) ≡ b → LegalOf n e → follows a n (opt.Some xs) (opt.Some e) →
      follows a n (cond b (put a n xs q (a.meet (a.single (at e q)) (a.single (at e r)))) (opt.Some (changed a n (changed a n xs q (a.single (at e q))) r (a.single (at e r))))) (opt.Some e)
  one_register xs q r e true y l m =
      let same = ap (λ (j : ℕ). a.meet (a.single (at e q)) (a.single (at e j))) (sym (eqb-true q r y)) in
      put_follows a p x n enough xs q _ e (same ∙ x.meet_single (at e q) (l.fits q)) m
  one_register xs q r e false y l m = kept_follows a p x n enough (changed a n xs q (a.single (at e q))) r _ e refl (kept_follows a p x n enough xs q _ e refl m)

  sides_value : (xs : List V) (t u : Term) (e : Env) → LegalOf n e → follows a n (opt.Some xs) (opt.Some e) →
      follows a n (kept_sides a n xs t u (opt.Some (record { left = a.single (number e t); right = a.single (number e u) }))) (opt.Some e)
  sides_value xs (Number k) (Number j) e l m = m
  sides_value xs (Held q) (Number j) e l m = kept_follows a p x n enough xs (register q) _ e refl m
  sides_value xs (Number k) (Held r) e l m = kept_follows a p x n enough xs (register r) _ e refl m
  sides_value xs (Held q) (Held r) e l m = one_register xs (register q) (register r) e (register q == register r) refl l m

  kept_terms : (xs : List V) (c : Condition) (e : Env) → follows a n (opt.Some xs) (opt.Some e) →
      a.kept c.rel (term a xs c.left) (term a xs c.right) ≡ a.kept c.rel (a.single (number e c.left)) (a.single (number e c.right))
  kept_terms xs c e m = ap₂ (a.kept c.rel) (term_single a p x n enough c.left xs e m) (term_single a p x n enough c.right xs e m)

  keep_holds : (s : State V) (c : Condition) (e : Env) → WrittenCondition c → LegalOf n e → follows a n s (opt.Some e) → holds e c ≡ true → follows a n (keep a n s c) (opt.Some e)
  keep_holds opt.None c e w l m y = m
  keep_holds (opt.Some xs) c e w l m y =
      let is = kept_terms xs c e m ∙ x.kept_yes c.rel (number e c.left) (number e c.right) (term_lies a p n enough c.left e w.0 l) (term_lies a p n enough c.right e w.1 l) y in
      subst (λ (o : Option (Pair V)). follows a n (kept_sides a n xs c.left c.right o) (opt.Some e)) (sym is) (sides_value xs c.left c.right e l m)

  keep_fails : (s : State V) (c : Condition) (e : Env) → WrittenCondition c → LegalOf n e → follows a n s (opt.Some e) → holds e c ≡ false → follows a n (keep a n s c) opt.None
  keep_fails opt.None c e w l m y = absurd m
  keep_fails (opt.Some xs) c e w l m y =
      let is = kept_terms xs c e m ∙ x.kept_no c.rel (number e c.left) (number e c.right) (term_lies a p n enough c.left e w.0 l) (term_lies a p n enough c.right e w.1 l) y in
      subst (λ (o : Option (Pair V)). follows a n (kept_sides a n xs c.left c.right o) opt.None) (sym is) tt

  keep_none : (s : State V) (c : Condition) → follows a n s opt.None → follows a n (keep a n s c) opt.None
  keep_none opt.None c m = m
  keep_none (opt.Some xs) c m = absurd m

  join_left : (s t : State V) (e : Env) → LegalOf n e → follows a n s (opt.Some e) → follows a n t opt.None → follows a n (join a n s t) (opt.Some e)
  join_left opt.None t e l m h = absurd m
  join_left (opt.Some xs) opt.None e l m h = m
  join_left (opt.Some xs) (opt.Some ys) e l m h = absurd h

  join_right : (s t : State V) (e : Env) → LegalOf n e → follows a n s opt.None → follows a n t (opt.Some e) → follows a n (join a n s t) (opt.Some e)
  join_right opt.None t e l h m = m
  join_right (opt.Some xs) t e l h m = absurd h

  join_none : (s t : State V) → follows a n s opt.None → follows a n t opt.None → follows a n (join a n s t) opt.None
  join_none opt.None t h m = m
  join_none (opt.Some xs) t h m = absurd h

  sure_value : (s : State V) (y : Expression) (e : Env) → ExpressionOf n y → LegalOf n e → follows a n s (opt.Some e) → sure a n s y ≡ faultless e y
  sure_value opt.None y e w l m = absurd m
  sure_value (opt.Some xs) (Bare y) e w l m = sym (in_lies _ full (operand_lies a p n enough y e w l))
  sure_value (opt.Some xs) (Apply o y z) e w l m =
      ap₂ (a.fits o) (operand_single a p x n enough y xs e w.0 m) (operand_single a p x n enough z xs e w.1 m) ∙
      x.fits_single o (held e y) (held e z) (operand_lies a p n enough y e w.0 l) (operand_lies a p n enough z e w.1 l)

  sure_none : (s : State V) (y : Expression) → follows a n s opt.None → sure a n s y ≡ true
  sure_none opt.None y m = refl
  sure_none (opt.Some xs) y m = absurd m

  axis_single : (v : Axis) (xs : List V) (e : Env) → follows a n (opt.Some xs) (opt.Some e) → of a xs (axis_register v) ≡ a.single (along v (position e))
  axis_single v xs e m = let i = axis_named v in m (axis_register v) (omega arith) ∙ ap a.single (axis_at v e)

  shows_value : (s : State V) (d : Side) (e : Env) → Proper d → LegalOf n e → follows a n s (opt.Some e) → shows a n s d ≡ kept (position e) d
  shows_value opt.None d e f l m = absurd m
  shows_value (opt.Some xs) d e f l m =
      ap₂ (λ (v w : V). a.bounds d.a v d.b w d.c) (axis_single d.v xs e m) (axis_single d.w xs e m) ∙
      x.bounds_single d.a d.b (along d.v (position e)) (along d.w (position e)) d.c (axis_lies a p n enough d.v e l) (axis_lies a p n enough d.w e l)

  shows_none : (s : State V) (d : Side) → follows a n s opt.None → shows a n s d ≡ true
  shows_none opt.None d m = refl
  shows_none (opt.Some xs) d m = absurd m

  range_value : (s : State V) (r : ℕ) (z : Range) (e : Env) → r < n → LegalOf n e → follows a n s (opt.Some e) → Lies (at e r) z → range_of a n s r z ≡ single (at e r)
  range_value opt.None r z e i l m h = absurd m
  range_value (opt.Some xs) r z e i l m h = ap (λ (y : V). a.range y z) (m r i) ∙ x.range_single (at e r) z (l.fits r) h

  range_none : (s : State V) (r : ℕ) (z : Range) → r < n → follows a n s opt.None → range_of a n s r z ≡ empty
  range_none opt.None r z i m = refl
  range_none (opt.Some xs) r z i m = absurd m

  state_tracking : Tracking n (pointwise a n) (tracks a n)
  state_tracking = record {
    start = λ s e w h. sharp_follows a p x n enough s.sets e (sharp a p x n enough w h);
    narrow_value = λ s. narrow_value s.sets;
    narrow_none = λ s. narrow_none s.sets;
    set_value = λ s. set_value s.sets;
    set_none = λ s. set_none s.sets;
    keep_holds = λ s. keep_holds s.sets;
    keep_fails = λ s. keep_fails s.sets;
    keep_none = λ s. keep_none s.sets;
    join_left = λ s t. join_left s.sets t.sets;
    join_right = λ s t. join_right s.sets t.sets;
    join_none = λ s t. join_none s.sets t.sets;
    sure_value = λ s. sure_value s.sets;
    sure_none = λ s. sure_none s.sets;
    shows_value = λ s. shows_value s.sets;
    shows_none = λ s. shows_none s.sets;
    range_value = λ s. range_value s.sets;
    range_none = λ s. range_none s.sets;
  }

  pub state_loses_nothing : LosesNothing n (pointwise a n)
  state_loses_nothing = tracked_loses_nothing n (pointwise a n) (tracks a n) state_tracking
