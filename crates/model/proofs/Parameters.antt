-- What a line gives its registers depends on the parameters alone, so a move may set the axes one after another.
use Rattle.std.proofs.Common.{◌≡◌, ℕ, ◌<◌, ◌≤◌, set, ℤ, pos, true, refl, ap, ◌∙◌, ap₂, arith, get_or-set_other}
use Rattle.model.specs.declared.expression.Parameter.{Parameter}
use Rattle.model.specs.declared.expression.Parameter.TheVariants.{P1, P2, P3, P4, P5, P6}
use Rattle.model.specs.declared.expression.Term.{Term}
use Rattle.model.specs.declared.expression.Term.TheVariants.{Number, Parameter as Held}
use Rattle.model.specs.declared.expression.Value.{Value}
use Rattle.model.specs.declared.expression.Value.TheVariants.{Term as OneTerm, Joined}
use Rattle.model.specs.Environments.{Env, at, axes, fit}
use Rattle.model.specs.Values.{register, term, apply, result, fine}

register_past : (p : Parameter) → axes ≤ register p
register_past P1 = omega arith
register_past P2 = omega arith
register_past P3 = omega arith
register_past P4 = omega arith
register_past P5 = omega arith
register_past P6 = omega arith

-- the parameters are the same
abbrev pub Agree : Env → Env → Type 0
Agree e f = (p : Parameter) → at e (register p) ≡ at f (register p)

term_agree : (e f : Env) (t : Term) → Agree e f → term e t ≡ term f t
term_agree e f (Number n) h = refl
term_agree e f (Held p) h = h p

pub result_agree : (e f : Env) (v : Value) → Agree e f → result e v ≡ result f v
result_agree e f (OneTerm t) h = term_agree e f t h
result_agree e f (Joined o t u) h = ap₂ (apply o) (term_agree e f t h) (term_agree e f u h)

-- so a value faults at both or at neither
pub fine_agree : (e f : Env) (v : Value) → Agree e f → fine f v ≡ true → fine e v ≡ true
fine_agree e f v a h = ap fit (result_agree e f v a) ∙ h

pub agree_set : (e f : Env) (r : ℕ) (n : ℤ) → r < axes → Agree e f → Agree (set e r n) f
agree_set e f r n h k p = get_or-set_other e r (register p) n (pos 0) (λ q. let z = register_past p in omega arith) ∙ k p
