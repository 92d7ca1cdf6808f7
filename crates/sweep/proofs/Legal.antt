-- A run's environments stay legal.
use Rattle.std.proofs.Common.{◌≡◌, ℕ, suc, ◌+◌, ◌≤◌, true, List, [], ◌∷◌, length, Some, None, arith}
use Rattle.std.proofs.lemmas.Bool.{and_parts}
use Rattle.model.specs.declared.range.Range.{Range}
use Rattle.model.specs.Axes.{Position}
use Rattle.model.specs.declared.line.Line.{Line}
use Rattle.model.specs.Environments.{Env, LegalOf, axes, registers}
use Rattle.model.specs.Values.{register, register_known, expression_of, result, four, all_fine, Values}
use Rattle.model.specs.Runs.{put, Outcome, goes, commands, faults, Steps, passes, ends, sets, moves, stops, enters, leaves, back, does, skips}
use Rattle.model.specs.Reached.{Reached, begins, goes_on, commanded}
use Rattle.model.proofs.Numbers.{faultless_fit}
use Rattle.domain.specs.Environments.{legal_set, legal_after}

pub put_legal : (old : Env) (r : ℕ) (vs : Values) (e : Env) → r + length vs ≤ axes → all_fine old vs ≡ true → LegalOf registers e → LegalOf registers (put old r vs e)
put_legal old r [] e h f w = w
put_legal old r (None ∷ vs) e h f w = put_legal old (suc r) vs e (omega arith) f w
put_legal old r (Some v ∷ vs) e h f w =
    let g = and_parts _ _ f in
    put_legal old (suc r) vs _ (omega arith) g.1 (legal_set registers e r (result old v) w (omega arith) (faultless_fit old (expression_of v) g.0))

abbrev AfterLegal : Outcome → Type 0
AfterLegal (goes i e) = LegalOf registers e
AfterLegal (commands i e) = LegalOf registers e
AfterLegal faults = Unit {0}

steps_legal : {lines : List Line} {i : ℕ} {e : Env} {o : Outcome} → LegalOf registers e → Steps lines i e o → AfterLegal o
steps_legal w (passes st) = w
steps_legal w (ends st) = w
steps_legal {e = e} w (sets {p = p} {v = v} st f) = legal_after registers e (register p) (expression_of v) w (register_known p) f
steps_legal {e = e} w (moves {x = x} {y = y} {z = z} {u = u} st f) = put_legal e 0 (four x y z u) e (omega arith) f w
steps_legal w (stops st f) = tt
steps_legal w (enters st h) = w
steps_legal w (leaves st h t) = w
steps_legal w (back st t) = w
steps_legal w (does st h) = w
steps_legal w (skips st h t) = w

pub reached_legal : {lines : List Line} {home : Position} {allowed : List Range} {i : ℕ} {e : Env} → Reached lines home allowed i e → LegalOf registers e
reached_legal (begins b) = b.legal
reached_legal (goes_on r st) = steps_legal (reached_legal r) st
reached_legal (commanded r st) = steps_legal (reached_legal r) st
