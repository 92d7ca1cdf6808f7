-- An environment with a legal number put into a register is an environment.
use Rattle.std.specs.Prelude.{◌≡◌, ℕ, ◌<◌, true, ℤ, pos, slice_set}
use Rattle.std.proofs.Common.{sym, ap, subst, ◌∙◌, arith, length-set, get_or-set_same, get_or-set_other}
use Rattle.std.proofs.Math.Decide.{ℕ_discrete}
use Rattle.model.specs.Environments.{Env, at, Lies, LegalOf, full, fit}
use Rattle.model.specs.declared.expression.Expression.{Expression}
use Rattle.model.specs.Values.{evaluate, faultless}
use Rattle.model.proofs.Numbers.{lies_in, faultless_fit}

pub at_set_same : (k : ℕ) (e : Env) (r : ℕ) (n : ℤ) → LegalOf k e → r < k → at (slice_set e r n) r ≡ n
at_set_same k e r n w h = let l = w.whole in get_or-set_same e r n (pos 0) (omega arith)

pub legal_set : (k : ℕ) (e : Env) (r : ℕ) (n : ℤ) → LegalOf k e → r < k → fit n ≡ true → LegalOf k (slice_set e r n)
legal_set k e r n w h f = record {
  whole = length-set e r n ∙ w.whole;
  fits = λ j. elim (ℕ_discrete j r) [
    | yes q ↦ subst (λ (m : ℤ). Lies m full) (sym (ap (at (slice_set e r n)) q ∙ at_set_same k e r n w h)) (lies_in n full f)
    | no q ↦ subst (λ (m : ℤ). Lies m full) (sym (get_or-set_other e r j n (pos 0) q)) (w.fits j)
  ];
}

-- so is one after a register took the result of an expression that does not fault
pub legal_after : (k : ℕ) (e : Env) (r : ℕ) (x : Expression) → LegalOf k e → r < k → faultless e x ≡ true → LegalOf k (slice_set e r (evaluate e x))
legal_after k e r x h l f = legal_set k e r (evaluate e x) h l (faultless_fit e x f)
