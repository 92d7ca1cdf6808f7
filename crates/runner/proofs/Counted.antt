-- What is left of a dry run after one step more, in any program.
use Rattle.std.proofs.Common.{◌≡◌, ℕ, suc, List, Some, None, Option, sym, ap, ◌∙◌}
use Rattle.std.specs.Option.{unwrap_or}
use Rattle.model.specs.declared.ending.Ending.{Ending}
use Rattle.model.specs.declared.line.Line.{Line}
use Rattle.model.specs.Envelopes.{Envelope}
use Rattle.runner.specs.declared.run.Run.{Run}
use Rattle.runner.specs.Drying.{ending_at, dried}
use Rattle.runner.specs.Steps.{step_of}

module _ (lines : List Line) (v : Envelope) where
  pub dried_stops : (n k : ℕ) (r : Run) (o : Ending) → n ≡ suc k → Some o ≡ ending_at lines v r → dried lines v n r ≡ o
  unfolding dried
  dried_stops n k r o e h = ap (λ m. dried lines v m r) e ∙ ap (λ (o : Option Ending). unwrap_or o (dried lines v k (step_of lines r).run)) (sym h)

  pub dried_goes : (n k : ℕ) (r t : Run) → n ≡ suc k → None ≡ ending_at lines v r → t ≡ (step_of lines r).run → dried lines v n r ≡ dried lines v k t
  unfolding dried
  dried_goes n k r t e h q = ap (λ m. dried lines v m r) e ∙ (ap (λ (o : Option Ending). unwrap_or o (dried lines v k (step_of lines r).run)) (sym h) ∙ ap (dried lines v k) (sym q))

  pub dried_out : (n : ℕ) (r : Run) → n ≡ 0 → dried lines v n r ≡ dried lines v 0 r
  dried_out n r e = ap (λ m. dried lines v m r) e
