-- States of sets that are exact on single numbers follow a single environment exactly, over any number n of registers.
use Rattle.std.specs.Prelude.{◌≡◌, ℕ, suc, ◌<◌, ◌≤◌, Bool, true, false, cond, ◌≢◌, List, length, ℤ, pos, Option, ◌==◌, slice_set, refl}
use Rattle.std.proofs.Common.{ap, ap₂, sym, ◌∙◌, subst, arith, get_or-set_same, get_or-set_other}
use Rattle.std.proofs.lemmas.Bool.{eqb-true, eqb-false}
use Rattle.std.specs.declared.option.Option.TheVariants as opt
use Rattle.model.specs.declared.range.Range.{Range}
use Rattle.model.specs.declared.expression.Operand.{Operand}
use Rattle.model.specs.declared.expression.Operand.TheVariants.{Number as OfNumber, Register as OfRegister}
use Rattle.model.specs.declared.expression.Term.{Term}
use Rattle.model.specs.declared.expression.Term.TheVariants.{Number, Parameter as Held}
use Rattle.model.specs.declared.expression.Expression.{Expression}
use Rattle.model.specs.declared.expression.Expression.TheVariants.{Bare, Apply}
use Rattle.model.specs.Environments.{Env, Lies, LegalOf, at, full, named}
use Rattle.model.specs.Values.{register, evaluate, term as number, number as held}
use Rattle.model.specs.Written.{OperandOf, ExpressionOf}
use Rattle.domain.specs.Lattice.{single}
use Rattle.domain.specs.Tracking.{Sharpens, begin, cut, pin}
use Rattle.domain.specs.PairTracks.{sharp_means, lies_single}
use Rattle.number_sets.specs.Sets.{NumberSets, LawfulSets, HasSome}
use Rattle.number_sets.specs.Exact.{ExactSets}
use Rattle.pointwise.specs.declared.state.Pointwise.{Pointwise}
use Rattle.pointwise.specs.States.{State, of, numbers, term, value, means, changed, put, narrow}
use Rattle.pointwise.specs.States.{pointwise}
use Rattle.pointwise.specs.Tracks.{follows}
use Rattle.pointwise.specs.StateLaws.{parameter_named, state_lawful, operand_lies, changed_at}

module _ {V : Type 0} (a : NumberSets V) (p : LawfulSets a) (x : ExactSets a) (n : ℕ) (enough : named ≤ n) where
  kept_at : (xs : List V) (r : ℕ) (y : V) (e : Env) (k : ℕ) (b : Bool) → (k == r) ≡ b → y ≡ a.single (at e r) → of a xs k ≡ a.single (at e k) → cond b y (of a xs k) ≡ a.single (at e k)
  kept_at xs r y e k true q h i = h ∙ ap (λ (j : ℕ). a.single (at e j)) (sym (eqb-true k r q))
  kept_at xs r y e k false q h i = i

  -- a register that keeps its single number
  pub kept_follows : (xs : List V) (r : ℕ) (y : V) (e : Env) → y ≡ a.single (at e r) → follows a n (opt.Some xs) (opt.Some e) → follows a n (opt.Some (changed a n xs r y)) (opt.Some e)
  kept_follows xs r y e h m = λ k i. changed_at a p n enough xs r k y i ∙ kept_at xs r y e k (k == r) refl h (m k i)

  pub put_follows : (xs : List V) (r : ℕ) (o : Option V) (e : Env) → o ≡ opt.Some (a.single (at e r)) → follows a n (opt.Some xs) (opt.Some e) → follows a n (put a n xs r o) (opt.Some e)
  put_follows xs r o e h m = subst (λ (y : Option V). follows a n (put a n xs r y) (opt.Some e)) (sym h) (kept_follows xs r (a.single (at e r)) e refl m)

  set_at : (xs : List V) (r : ℕ) (e : Env) (w : ℤ) (k : ℕ) (b : Bool) → (k == r) ≡ b → r < length e → of a xs k ≡ a.single (at e k) → cond b (a.single w) (of a xs k) ≡ a.single (at (slice_set e r w) k)
  set_at xs r e w k true q l i = ap a.single (sym (ap (λ (j : ℕ). at (slice_set e r w) j) (eqb-true k r q) ∙ get_or-set_same e r w (pos 0) l))
  set_at xs r e w k false q l i = let ne : k ≢ r = eqb-false k r q in i ∙ ap a.single (sym (get_or-set_other e r k w (pos 0) ne))

  -- a register that gets another single number
  pub set_follows : (xs : List V) (r : ℕ) (o : Option V) (e : Env) (w : ℤ) → r < length e → o ≡ opt.Some (a.single w) → follows a n (opt.Some xs) (opt.Some e) → follows a n (put a n xs r o) (opt.Some (slice_set e r w))
  set_follows xs r o e w l h m =
      subst (λ (y : Option V). follows a n (put a n xs r y) (opt.Some (slice_set e r w))) (sym h)
      (λ k i. changed_at a p n enough xs r k (a.single w) i ∙ set_at xs r e w k (k == r) refl l (m k i))

  pub term_single : (t : Term) (xs : List V) (e : Env) → follows a n (opt.Some xs) (opt.Some e) → term a xs t ≡ a.single (number e t)
  term_single (Number k) xs e m = refl
  term_single (Held q) xs e m = let i = parameter_named q in m (register q) (omega arith)

  pub operand_single : (y : Operand) (xs : List V) (e : Env) → OperandOf n y → follows a n (opt.Some xs) (opt.Some e) → numbers a xs y ≡ a.single (held e y)
  operand_single (OfNumber k) xs e w m = refl
  operand_single (OfRegister r) xs e w m = m r.index w

  pub value_single : (y : Expression) (xs : List V) (e : Env) → ExpressionOf n y → LegalOf n e → follows a n (opt.Some xs) (opt.Some e) → Lies (evaluate e y) full → value a xs y ≡ opt.Some (a.single (evaluate e y))
  value_single (Bare y) xs e w l m f = ap opt.Some (operand_single y xs e w m)
  value_single (Apply o y z) xs e w l m f =
      ap₂ (a.apply o) (operand_single y xs e w.0 m) (operand_single z xs e w.1 m) ∙ x.apply_single o (held e y) (held e z) (operand_lies a p n enough y e w.0 l) (operand_lies a p n enough z e w.1 l) f

  -- registers below k have the environment's single numbers
  abbrev pub Sharp : ℕ → State V → Env → Type 0
  Sharp k opt.None e = ⊥
  Sharp k (opt.Some xs) e = (r : ℕ) → r < k → r < n → of a xs r ≡ a.single (at e r)

  sharp_at : (xs : List V) (r j : ℕ) (y : V) (e : Env) (b : Bool) → (j == r) ≡ b → (j ≡ r → y ≡ a.single (at e r)) → (j ≢ r → of a xs j ≡ a.single (at e j)) → cond b y (of a xs j) ≡ a.single (at e j)
  sharp_at xs r j y e true q h i = let s = eqb-true j r q in h s ∙ ap (λ (l : ℕ). a.single (at e l)) (sym s)
  sharp_at xs r j y e false q h i = i (eqb-false j r q)

  sharp_put : (xs : List V) (r k : ℕ) (o : Option V) (e : Env) → HasSome a o (at e r) → (r < k → o ≡ opt.Some (a.single (at e r))) → ((j : ℕ) → j < k → j ≢ r → j < n → of a xs j ≡ a.single (at e j)) → Sharp k (put a n xs r o) e
  sharp_put xs r k opt.None e h f g = h
  sharp_put xs r k (opt.Some y) e h f g = λ j i l.
      changed_at a p n enough xs r j y l ∙
      sharp_at xs r j y e (j == r) refl (λ s. let z : r < k = omega arith in let same = f z in cc) (λ ne. g j i ne l)

  sharp_cut : (k r : ℕ) (z : Range) (s : State V) (e : Env) → r < n → LegalOf n e → Lies (at e r) z → means a n s e → Sharp k s e → Sharp k (narrow a n s r z) e
  sharp_cut k r z opt.None e i l h m q = q
  sharp_cut k r z (opt.Some xs) e i l h m q =
      sharp_put xs r k (a.narrow (of a xs r) z) e (p.narrow_has (of a xs r) z (at e r) (l.fits r) (m r i) h)
      (λ u. ap (λ (y : V). a.narrow y z) (q r u i) ∙ x.narrow_single (at e r) z (l.fits r) h) (λ j u ne v. q j u v)

  sharp_pin : (k : ℕ) (s : State V) (e : Env) → k < n → LegalOf n e → means a n s e → Sharp k s e → Sharp (suc k) (narrow a n s k (single (at e k))) e
  sharp_pin k opt.None e i l m q = q
  sharp_pin k (opt.Some xs) e i l m q =
      let pinned = x.narrow_pin (of a xs k) (at e k) (l.fits k) (m k i) in
      sharp_put xs k (suc k) (a.narrow (of a xs k) (single (at e k))) e (p.narrow_has (of a xs k) (single (at e k)) (at e k) (l.fits k) (m k i) (lies_single (at e k)))
      (λ u. pinned) (λ j u ne v. q j (omega arith) v)

  pub sharp : {e : Env} {k : ℕ} {s : Pointwise V} → LegalOf n e → Sharpens n (pointwise a n) e k s → Sharp k s.sets e
  sharp w begin = λ r i l. absurd (omega arith)
  sharp {e = e} w (cut {k = k} {s = s} r z i h d) = sharp_cut k r z s.sets e i w h (sharp_means n (state_lawful a p n enough) w d) (sharp w d)
  sharp {e = e} w (pin {k = k} {s = s} i d) = sharp_pin k s.sets e i w (sharp_means n (state_lawful a p n enough) w d) (sharp w d)

  pub sharp_follows : (s : State V) (e : Env) → Sharp n s e → follows a n s (opt.Some e)
  sharp_follows opt.None e h = h
  sharp_follows (opt.Some xs) e h = λ r i. h r i i
