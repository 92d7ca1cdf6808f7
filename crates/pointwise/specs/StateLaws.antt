-- The laws of a domain hold for states over any number n of registers, from the laws of the sets alone.
use Rattle.std.specs.Prelude.{◌≡◌, ℕ, ◌+◌, ◌*◌, ◌%◌, ◌^◌, ◌<◌, ◌≤◌, Bool, true, false, cond, ◌≢◌, ◌⊎◌, List, length, ℤ, pos, Option, ◌==◌, slice_set, refl}
use Rattle.std.proofs.Common.{ap, sym, ◌∙◌, subst, inr, arith, get_or-set_same, get_or-set_other}
use Rattle.std.proofs.lemmas.Bool.{eqb-true, eqb-false}
use Rattle.std.specs.declared.option.Option.TheVariants as opt
use Rattle.model.specs.declared.line.Axis.{Axis}
use Rattle.model.specs.declared.line.Axis.TheVariants.{X, Y, Z, U}
use Rattle.model.specs.declared.range.Range.{Range}
use Rattle.model.specs.declared.side.Side.{Side}
use Rattle.model.specs.declared.expression.Parameter.{Parameter}
use Rattle.model.specs.declared.expression.Parameter.TheVariants.{P1, P2, P3, P4, P5, P6}
use Rattle.model.specs.declared.expression.Operand.{Operand}
use Rattle.model.specs.declared.expression.Operand.TheVariants.{Number as OfNumber, Register as OfRegister}
use Rattle.model.specs.declared.expression.Term.{Term}
use Rattle.model.specs.declared.expression.Term.TheVariants.{Number, Parameter as Held}
use Rattle.model.specs.declared.expression.Expression.{Expression}
use Rattle.model.specs.declared.expression.Expression.TheVariants.{Bare, Apply}
use Rattle.model.specs.declared.expression.Condition.{Condition}
use Rattle.model.specs.Environments.{Env, Lies, LegalOf, at, full, named, registers, position}
use Rattle.model.specs.Axes.{along}
use Rattle.model.specs.Sides.{axis_register, Holds, Proper}
use Rattle.model.specs.Values.{register, evaluate, faultless, holds, term as number, number as held}
use Rattle.model.specs.Written.{OperandOf, ExpressionOf, WrittenTerm, WrittenCondition}
use Rattle.domain.specs.Lattice.{Lawful, Inside, empty}
use Rattle.model.proofs.Numbers.{lies_in, in_lies, faultless_fit, fit_faultless}
use Rattle.number_sets.specs.declared.sets.Pair.{Pair}
use Rattle.number_sets.specs.Sets.{NumberSets, LawfulSets, HasSome, HasPair}
use Rattle.pointwise.specs.States.{State, of, numbers, term, value, means, rank, changed, put, narrow, keep, kept_sides}
use Rattle.pointwise.specs.States.{set as set-state, join, widen, within, sure, shows, range_of, pointwise}
use Rattle.pointwise.specs.Tables.{build}
use Rattle.pointwise.specs.Built.{at_build, every_at, every_fails, sum_le, sum_lt, sum_most}

pub parameter_named : (p : Parameter) → register p < named
parameter_named P1 = omega arith
parameter_named P2 = omega arith
parameter_named P3 = omega arith
parameter_named P4 = omega arith
parameter_named P5 = omega arith
parameter_named P6 = omega arith

pub axis_named : (v : Axis) → axis_register v < named
axis_named X = omega arith
axis_named Y = omega arith
axis_named Z = omega arith
axis_named U = omega arith

pub axis_at : (v : Axis) (e : Env) → at e (axis_register v) ≡ along v (position e)
axis_at X e = refl
axis_at Y e = refl
axis_at Z e = refl
axis_at U e = refl

module _ {V : Type 0} (a : NumberSets V) (p : LawfulSets a) (n : ℕ) (enough : named ≤ n) where
  -- a changed table, register by register
  pub changed_at : (xs : List V) (r k : ℕ) (x : V) → k < n → of a (changed a n xs r x) k ≡ cond (k == r) x (of a xs k)
  changed_at xs r k x h = at_build n (λ j. cond (j == r) x (of a xs j)) k a.whole h

  changed_means : (xs : List V) (r : ℕ) (x : V) (e : Env) → ((k : ℕ) → k < n → a.has (cond (k == r) x (of a xs k)) (at e k)) → means a n (opt.Some (changed a n xs r x)) e
  changed_means xs r x e f = λ k h. subst (λ (y : V). a.has y (at e k)) (sym (changed_at xs r k x h)) (f k h)

  same_at : (xs : List V) (r : ℕ) (x : V) (e : Env) (k : ℕ) (b : Bool) → (k == r) ≡ b → a.has x (at e r) → a.has (of a xs k) (at e k) → a.has (cond b x (of a xs k)) (at e k)
  same_at xs r x e k true q h i = subst (λ (j : ℕ). a.has x (at e j)) (sym (eqb-true k r q)) h
  same_at xs r x e k false q h i = i

  -- a register that keeps its number
  kept_means : (xs : List V) (r : ℕ) (x : V) (e : Env) → a.has x (at e r) → means a n (opt.Some xs) e → means a n (opt.Some (changed a n xs r x)) e
  kept_means xs r x e h m = changed_means xs r x e (λ k q. same_at xs r x e k (k == r) refl h (m k q))

  put_means : (xs : List V) (r : ℕ) (o : Option V) (e : Env) → HasSome a o (at e r) → means a n (opt.Some xs) e → means a n (put a n xs r o) e
  put_means xs r opt.None e h m = h
  put_means xs r (opt.Some x) e h m = kept_means xs r x e h m

  set_at : (xs : List V) (r : ℕ) (x : V) (e : Env) (w : ℤ) (k : ℕ) (b : Bool) → (k == r) ≡ b → r < length e → a.has x w → a.has (of a xs k) (at e k) → a.has (cond b x (of a xs k)) (at (slice_set e r w) k)
  set_at xs r x e w k true q l h i =
      let s : at (slice_set e r w) k ≡ w = ap (λ (j : ℕ). at (slice_set e r w) j) (eqb-true k r q) ∙ get_or-set_same e r w (pos 0) l in
      subst (λ (u : ℤ). a.has x u) (sym s) h
  set_at xs r x e w k false q l h i =
      let ne : k ≢ r = eqb-false k r q in
      subst (λ (u : ℤ). a.has (of a xs k) u) (sym (get_or-set_other e r k w (pos 0) ne)) i

  -- a register that gets another number
  put_set : (xs : List V) (r : ℕ) (o : Option V) (e : Env) (w : ℤ) → r < length e → HasSome a o w → means a n (opt.Some xs) e → means a n (put a n xs r o) (slice_set e r w)
  put_set xs r opt.None e w l h m = h
  put_set xs r (opt.Some x) e w l h m = changed_means xs r x (slice_set e r w) (λ k q. set_at xs r x e w k (k == r) refl l h (m k q))

  -- a term's number is within the limit, and one of its set
  pub term_lies : (t : Term) (e : Env) → WrittenTerm t → LegalOf n e → Lies (number e t) full
  term_lies (Number k) e w l = w
  term_lies (Held q) e w l = l.fits (register q)

  -- so is an operand's
  pub operand_lies : (x : Operand) (e : Env) → OperandOf n x → LegalOf n e → Lies (held e x) full
  operand_lies (OfNumber k) e w l = w
  operand_lies (OfRegister r) e w l = l.fits r.index

  operand_has : (x : Operand) (xs : List V) (e : Env) → OperandOf n x → means a n (opt.Some xs) e → a.has (numbers a xs x) (held e x)
  operand_has (OfNumber k) xs e w m = p.single_has k w
  operand_has (OfRegister r) xs e w m = m r.index w

  term_has : (t : Term) (xs : List V) (e : Env) → WrittenTerm t → means a n (opt.Some xs) e → a.has (term a xs t) (number e t)
  term_has (Number k) xs e w m = p.single_has k w
  term_has (Held q) xs e w m = let i = parameter_named q in m (register q) (omega arith)

  value_has : (x : Expression) (xs : List V) (e : Env) → ExpressionOf n x → LegalOf n e → means a n (opt.Some xs) e → Lies (evaluate e x) full → HasSome a (value a xs x) (evaluate e x)
  value_has (Bare x) xs e w l m f = operand_has x xs e w m
  value_has (Apply o x y) xs e w l m f =
      p.apply_has o (numbers a xs x) (numbers a xs y) (held e x) (held e y) (operand_lies x e w.0 l) (operand_lies y e w.1 l) (operand_has x xs e w.0 m) (operand_has y xs e w.1 m) f

  narrow_holds : (s : State V) (r : ℕ) (x : Range) (e : Env) → r < n → LegalOf n e → means a n s e → Lies (at e r) x → means a n (narrow a n s r x) e
  narrow_holds opt.None r x e i l m h = m
  narrow_holds (opt.Some xs) r x e i l m h = put_means xs r (a.narrow (of a xs r) x) e (p.narrow_has (of a xs r) x (at e r) (l.fits r) (m r i) h) m

  set_holds : (s : State V) (r : ℕ) (x : Expression) (e : Env) → r < n → ExpressionOf n x → LegalOf n e → means a n s e → faultless e x ≡ true → means a n (set-state a n s r x) (slice_set e r (evaluate e x))
  set_holds opt.None r x e i w l m f = m
  set_holds (opt.Some xs) r x e i w l m f =
      let k = l.whole in
      put_set xs r (value a xs x) e (evaluate e x) (omega arith) (value_has x xs e w l m (lies_in _ full (faultless_fit e x f))) m

  registers_means : (xs : List V) (q r : ℕ) (c : Pair V) (e : Env) (b : Bool) → (q == r) ≡ b → LegalOf n e → a.has c.left (at e q) → a.has c.right (at e r) → means a n (opt.Some xs) e →
      means a n (cond b (put a n xs q (a.meet c.left c.right)) (opt.Some (changed a n (changed a n xs q c.left) r c.right))) e
  registers_means xs q r c e true y l h k m =
      let same = eqb-true q r y in
      put_means xs q (a.meet c.left c.right) e (p.meet_has c.left c.right (at e q) (l.fits q) h (subst (λ (j : ℕ). a.has c.right (at e j)) (sym same) k)) m
  registers_means xs q r c e false y l h k m = kept_means (changed a n xs q c.left) r c.right e k (kept_means xs q c.left e h m)

  sides_means : (xs : List V) (t u : Term) (o : Option (Pair V)) (e : Env) → LegalOf n e → HasPair a o (number e t) (number e u) → means a n (opt.Some xs) e → means a n (kept_sides a n xs t u o) e
  sides_means xs t u opt.None e l h m = h
  sides_means xs (Number k) (Number j) (opt.Some c) e l h m = m
  sides_means xs (Held q) (Number j) (opt.Some c) e l h m = kept_means xs (register q) c.left e h.0 m
  sides_means xs (Number k) (Held r) (opt.Some c) e l h m = kept_means xs (register r) c.right e h.1 m
  sides_means xs (Held q) (Held r) (opt.Some c) e l h m = registers_means xs (register q) (register r) c e (register q == register r) refl l h.0 h.1 m

  keep_holds : (s : State V) (c : Condition) (e : Env) → WrittenCondition c → LegalOf n e → means a n s e → holds e c ≡ true → means a n (keep a n s c) e
  keep_holds opt.None c e w l m y = m
  keep_holds (opt.Some xs) c e w l m y =
      sides_means xs c.left c.right (a.kept c.rel (term a xs c.left) (term a xs c.right)) e l
      (p.kept_has c.rel (term a xs c.left) (term a xs c.right) (number e c.left) (number e c.right)
      (term_lies c.left e w.0 l) (term_lies c.right e w.1 l) (term_has c.left xs e w.0 m) (term_has c.right xs e w.1 m) y) m

  built_has : (f : ℕ → V) (e : Env) (r : ℕ) → r < n → a.has (f r) (at e r) → a.has (of a (build n f) r) (at e r)
  built_has f e r i h = subst (λ (y : V). a.has y (at e r)) (sym (at_build n f r a.whole i)) h

  join_left : (s t : State V) (e : Env) → LegalOf n e → means a n s e → means a n (join a n s t) e
  join_left opt.None t e l m = absurd m
  join_left (opt.Some xs) opt.None e l m = m
  join_left (opt.Some xs) (opt.Some ys) e l m = λ r i. built_has (λ k. a.hull (of a xs k) (of a ys k)) e r i (p.hull_left _ _ _ (l.fits r) (m r i))

  join_right : (s t : State V) (e : Env) → LegalOf n e → means a n t e → means a n (join a n s t) e
  join_right opt.None t e l m = m
  join_right (opt.Some xs) opt.None e l m = absurd m
  join_right (opt.Some xs) (opt.Some ys) e l m = λ r i. built_has (λ k. a.hull (of a xs k) (of a ys k)) e r i (p.hull_right _ _ _ (l.fits r) (m r i))

  widen_left : (s t : State V) (e : Env) → LegalOf n e → means a n s e → means a n (widen a n s t) e
  widen_left opt.None t e l m = absurd m
  widen_left (opt.Some xs) opt.None e l m = m
  widen_left (opt.Some xs) (opt.Some ys) e l m = λ r i. built_has (λ k. a.widen (of a xs k) (of a ys k)) e r i (p.widen_left _ _ _ (l.fits r) (m r i))

  widen_right : (s t : State V) (e : Env) → LegalOf n e → means a n t e → means a n (widen a n s t) e
  widen_right opt.None t e l m = m
  widen_right (opt.Some xs) opt.None e l m = absurd m
  widen_right (opt.Some xs) (opt.Some ys) e l m = λ r i. built_has (λ k. a.widen (of a xs k) (of a ys k)) e r i (p.widen_right _ _ _ (l.fits r) (m r i))

  within_holds : (s t : State V) (e : Env) → LegalOf n e → within a n s t ≡ true → means a n s e → means a n t e
  within_holds opt.None t e l y m = absurd m
  within_holds (opt.Some xs) opt.None e l y m = let z : ◌≡◌ {A = ℕ} 0 1 = cc in absurd (omega arith)
  within_holds (opt.Some xs) (opt.Some ys) e l y m = λ r i. p.inside_has _ _ _ (l.fits r) (every_at n _ r y i) (m r i)

  sure_holds : (s : State V) (x : Expression) (e : Env) → ExpressionOf n x → LegalOf n e → sure a n s x ≡ true → means a n s e → faultless e x ≡ true
  sure_holds opt.None x e w l y m = absurd m
  sure_holds (opt.Some xs) (Bare x) e w l y m = fit_faultless e (Bare x) (in_lies _ full (operand_lies x e w l))
  sure_holds (opt.Some xs) (Apply o x y) e w l k m =
      fit_faultless e (Apply o x y) (in_lies _ full (p.fits_all o (numbers a xs x) (numbers a xs y) (held e x) (held e y) (operand_lies x e w.0 l) (operand_lies y e w.1 l) k (operand_has x xs e w.0 m) (operand_has y xs e w.1 m)))

  axis_has : (v : Axis) (xs : List V) (e : Env) → means a n (opt.Some xs) e → a.has (of a xs (axis_register v)) (along v (position e))
  axis_has v xs e m = let i = axis_named v in subst (λ (u : ℤ). a.has (of a xs (axis_register v)) u) (axis_at v e) (m (axis_register v) (omega arith))

  pub axis_lies : (v : Axis) (e : Env) → LegalOf n e → Lies (along v (position e)) full
  axis_lies v e l = subst (λ (u : ℤ). Lies u full) (axis_at v e) (l.fits (axis_register v))

  shows_holds : (s : State V) (d : Side) (e : Env) → Proper d → LegalOf n e → shows a n s d ≡ true → means a n s e → Holds (position e) d
  shows_holds opt.None d e f l y m = absurd m
  shows_holds (opt.Some xs) d e f l y m = p.bounds_all d.a _ d.b _ d.c _ _ (axis_lies d.v e l) (axis_lies d.w e l) y (axis_has d.v xs e m) (axis_has d.w xs e m)

  range_inside : (s : State V) (r : ℕ) (x : Range) → r < n → Inside (range_of a n s r x) x ⊎ (range_of a n s r x ≡ empty)
  range_inside opt.None r x i = inr refl
  range_inside (opt.Some xs) r x i = p.range_inside (of a xs r) x

  range_holds : (s : State V) (r : ℕ) (x : Range) (e : Env) → r < n → LegalOf n e → means a n s e → Lies (at e r) x → Lies (at e r) (range_of a n s r x)
  range_holds opt.None r x e i l m h = absurd m
  range_holds (opt.Some xs) r x e i l m h = p.range_has (of a xs r) x (at e r) (l.fits r) (m r i) h

  room_built : (xs ys : List V) (r : ℕ) → r < n → a.room (of a (build n (λ k. a.widen (of a xs k) (of a ys k))) r) ≡ a.room (a.widen (of a xs r) (of a ys r))
  room_built xs ys r h = ap a.room (at_build n (λ k. a.widen (of a xs k) (of a ys k)) r a.whole h)

  room_le : (xs ys : List V) (r : ℕ) → r < n → a.room (of a (build n (λ k. a.widen (of a xs k) (of a ys k))) r) ≤ a.room (of a xs r)
  room_le xs ys r h = subst (λ (m : ℕ). m ≤ a.room (of a xs r)) (sym (room_built xs ys r h)) (p.room_le (of a xs r) (of a ys r))

  rank_under : (ys : List V) → rank a n (opt.Some ys) < rank a n opt.None
  rank_under ys = let s = sum_most n a.most (λ r. a.room (of a ys r)) (λ r. p.room_most (of a ys r)) in omega arith

  widen_le : (s t : State V) → rank a n (widen a n s t) ≤ rank a n s
  widen_le opt.None opt.None = omega arith
  widen_le opt.None (opt.Some ys) = let h = rank_under ys in omega arith
  widen_le (opt.Some xs) opt.None = omega arith
  widen_le (opt.Some xs) (opt.Some ys) = sum_le n _ _ (room_le xs ys)

  widen_lt : (s t : State V) → within a n t s ≡ false → rank a n (widen a n s t) < rank a n s
  widen_lt opt.None opt.None y = let z : ◌≡◌ {A = ℕ} 0 1 = cc in absurd (omega arith)
  widen_lt opt.None (opt.Some ys) y = rank_under ys
  widen_lt (opt.Some xs) opt.None y = let z : ◌≡◌ {A = ℕ} 0 1 = cc in absurd (omega arith)
  widen_lt (opt.Some xs) (opt.Some ys) y =
      let w = every_fails n (λ r. a.inside (of a ys r) (of a xs r)) y in
      sum_lt n _ _ (room_le xs ys) w.0 w.1 (subst (λ (m : ℕ). m < a.room (of a xs w.0)) (sym (room_built xs ys w.0 w.1)) (p.room_lt (of a xs w.0) (of a ys w.0) w.2))

  pub state_lawful : Lawful n (pointwise a n)
  state_lawful = record {
    any_all = λ e l r i. built_has (λ k. a.whole) e r i (p.whole_has (at e r) (l.fits r));
    none_empty = λ e w m. m;
    narrow_holds = λ s. narrow_holds s.sets;
    keep_holds = λ s. keep_holds s.sets;
    set_holds = λ s. set_holds s.sets;
    join_left = λ s t. join_left s.sets t.sets;
    join_right = λ s t. join_right s.sets t.sets;
    widen_left = λ s t. widen_left s.sets t.sets;
    widen_right = λ s t. widen_right s.sets t.sets;
    within_holds = λ s t. within_holds s.sets t.sets;
    sure_holds = λ s. sure_holds s.sets;
    shows_holds = λ s. shows_holds s.sets;
    range_inside = λ s. range_inside s.sets;
    range_holds = λ s. range_holds s.sets;
    widen_le = λ s t. widen_le s.sets t.sets;
    widen_lt = λ s t. widen_lt s.sets t.sets;
  }

-- the registers that lines can name are among all
pub registers_named : named ≤ registers
registers_named = omega arith

-- the rank of none over all registers, of sets that can be widened at most so often
pub none_ranked : {V : Type 0} (a : NumberSets V) (most : ℕ) → most ≡ a.most → (most * registers + 1) % 2 ^ 64 ≡ rank a registers opt.None % 2 ^ 64
none_ranked a most h = ap (λ (m : ℕ). (m * registers + 1) % 2 ^ 64) h
