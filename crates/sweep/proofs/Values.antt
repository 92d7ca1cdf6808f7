-- A lawful domain's states hold what settings, moves and starts make.
use Rattle.std.proofs.Common.{◌≡◌, ℕ, suc, ◌+◌, ◌<◌, ◌≤◌, true, List, [], ◌∷◌, length, get_or, set, ℤ, Some, None, refl, ap, ◌∙◌, subst, arith}
use Rattle.std.proofs.lemmas.Bool.{and_parts, and_from}
use Rattle.model.specs.Axes.{Position}
use Rattle.model.specs.Envelopes.{Envelope}
use Rattle.model.specs.declared.range.Range.{Range}
use Rattle.model.specs.declared.expression.Term.{Term}
use Rattle.model.specs.declared.expression.Term.TheVariants.{Number, Parameter as Held}
use Rattle.model.specs.declared.expression.Value.{Value}
use Rattle.model.specs.declared.expression.Value.TheVariants.{Term as OneTerm, Joined}
use Rattle.model.specs.Environments.{Env, at, Lies, LegalOf, full, registers, axes, parameters}
use Rattle.model.specs.Values.{operand, register_known, expression_of, result, all_fine, Values}
use Rattle.model.specs.Written.{WrittenTerm, OperandOf, WrittenValue, ExpressionOf, WrittenValues}
use Rattle.model.specs.Runs.{put}
use Rattle.model.specs.Reached.{Begins}
use Rattle.model.proofs.Numbers.{faultless_fit}
use Rattle.model.proofs.Parameters.{Agree, result_agree, fine_agree, agree_set}
use Rattle.domain.specs.Lattice.{Lattice, Meaning, Lawful, single}
use Rattle.domain.specs.Environments.{legal_set}
use Rattle.domain.specs.PairTracks.{lies_single}
use Rattle.sweep.specs.Starts.{narrowed, start}
use Rattle.sweep.specs.Sweeps.{set_all, all_sure}

same_lies : (n m : ℤ) → n ≡ m → Lies n (single m)
same_lies n m e = subst (λ (k : ℤ). Lies n (single k)) e (lies_single n)

term_operand : (x : Term) → WrittenTerm x → OperandOf registers (operand x)
term_operand (Number n) w = w
term_operand (Held p) w = register_known p

-- what lines write are expressions over the registers
pub written_expression : (v : Value) → WrittenValue v → ExpressionOf registers (expression_of v)
written_expression (OneTerm x) w = term_operand x w
written_expression (Joined o x y) w = (term_operand x w.0, term_operand y w.1)

module _ {S : Type 0} {M : Meaning S} (l : Lattice M) (p : Lawful registers l) where
  pub sure_fine : (s : S) (vs : Values) (e : Env) → WrittenValues vs → LegalOf registers e → M s e → all_sure l s vs ≡ true → all_fine e vs ≡ true
  sure_fine s [] e w k h y = refl
  sure_fine s (None ∷ vs) e w k h y = sure_fine s vs e w k h y
  sure_fine s (Some v ∷ vs) e w k h y =
      let z = and_parts _ _ y in
      and_from _ _ (p.sure_holds s (expression_of v) e (written_expression v w.0) k z.0 h) (sure_fine s vs e w.1 k h z.1)

  pub set_all_holds : (old : Env) (r : ℕ) (vs : Values) (e : Env) (s : S) → r + length vs ≤ axes → Agree e old → WrittenValues vs → all_fine old vs ≡ true → LegalOf registers e → M s e →
      M (set_all l r vs s) (put old r vs e)
  set_all_holds old r [] e s k a v f w h = h
  set_all_holds old r (None ∷ vs) e s k a v f w h = set_all_holds old (suc r) vs e s (omega arith) a v f w h
  set_all_holds old r (Some x ∷ vs) e s k a v f w h =
      let g = and_parts _ _ f in
      let m = p.set_holds s r (expression_of x) e (omega arith) (written_expression x v.0) w h (fine_agree e old x a g.0) in
      let P : ℤ → Type 0 = λ n. M (l.set s r (expression_of x)) (set e r n) in
      set_all_holds old (suc r) vs (set e r (result old x)) (l.set s r (expression_of x)) (omega arith) (agree_set e old r _ (omega arith) a) v.1 g.1
      (legal_set registers e r _ w (omega arith) (faultless_fit old (expression_of x) g.0)) (subst P (result_agree e old x a) m)

  narrowed_holds : (r : ℕ) (xs : List Range) (s : S) (e : Env) → r + length xs ≤ registers → LegalOf registers e → ((k : ℕ) → k < length xs → Lies (at e (r + k)) (get_or xs k full)) →
      M s e → M (narrowed l r xs s) e
  narrowed_holds r [] s e h w a m = m
  narrowed_holds r (x ∷ xs) s e h w a m =
      let z : r + 0 ≡ r = omega arith in
      let first : Lies (at e r) x = subst (λ (k : ℕ). Lies (at e k) x) z (a 0 (omega arith)) in
      narrowed_holds (suc r) xs (l.narrow s r x) e (omega arith) w
      (λ k j. let q : r + suc k ≡ suc r + k = omega arith in subst (λ (o : ℕ). Lies (at e o) (get_or xs k full)) q (a (suc k) (omega arith)))
      (p.narrow_holds s r x e (omega arith) w m first)

  pub start_holds : (t : Envelope) (allowed : List Range) (e : Env) → length allowed ≡ parameters → Begins t.home allowed e → M (start l t allowed) e
  start_holds t allowed e n b =
      let w = b.legal in
      let x = p.narrow_holds _ 0 (single t.home.x) e (omega arith) w (p.any_all e w) (same_lies _ _ (ap (λ (q : Position). q.x) b.at_home)) in
      let y = p.narrow_holds _ 1 (single t.home.y) e (omega arith) w x (same_lies _ _ (ap (λ (q : Position). q.y) b.at_home)) in
      let z = p.narrow_holds _ 2 (single t.home.z) e (omega arith) w y (same_lies _ _ (ap (λ (q : Position). q.z) b.at_home)) in
      let u = p.narrow_holds _ 3 (single t.home.u) e (omega arith) w z (same_lies _ _ (ap (λ (q : Position). q.u) b.at_home)) in
      narrowed_holds 4 allowed _ e (omega arith) w b.values u
