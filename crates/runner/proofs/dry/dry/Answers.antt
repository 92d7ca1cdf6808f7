use Rattle.std.proofs.Common.{◌≡◌, ℕ, suc, ◌+◌, ◌-◌, ap, ◌∙◌, subst, arith, sym}
use Rattle.model.specs.Environments.{Env}
use Rattle.model.specs.Whole.{TheEnding}
use Rattle.program.specs.Held.{held}
use Rattle.runner.specs.declared.run.Run.{Run}
use Rattle.runner.specs.Drying.{start, dried}
use Rattle.runner.specs.Plain.{run_at}
use Rattle.runner.proofs.Counted.{dried_goes, dried_stops, dried_out}
use Rattle.runner.proofs.Dried.{UnderWay, goes_on, comes_to, at_last}
use Rattle.runner.proofs.dry.dry.Goals as goal

pub returns-in-Some-clause-plain : goal.returns-in-Some-clause-plain
returns-in-Some-clause-plain g c = λ h.
    let lines = held c.args.program.now in
    let v = g.T.Travel.envelope c.args.travel.now in
    let e0 = c.begin-run.result.registers in
    let more : c.args.steps - c.loop-k.k ≡ suc (c.args.steps - (c.loop-k.k + 1)) = omega arith in
    let way = subst (λ (n : ℕ). UnderWay lines v c.args.steps n e0 c.loop-k.run) more (c.loop-k.invariant.1 h) in
    subst (λ (e : Env). TheEnding lines v c.args.steps 0 e c.in-Some.ending) (ap (λ (r : Run). r.registers) c.begin-run.ensures ∙ ap (λ p. start p c.args.values) c.home.ensures)
    (comes_to lines v c.args.steps e0 _ _ c.try_step.new.run _ h way (c.in-Some.ensures.plain h))

pub loop-k-preserved : goal.loop-k-preserved
loop-k-preserved g c =
    let lines = held c.args.program.now in
    let v = g.T.Travel.envelope c.args.travel.now in
    let e0 = c.begin-run.result.registers in
    let more : c.args.steps - c.loop-k.k ≡ suc (c.args.steps - (c.loop-k.k + 1)) = omega arith in (
      c.loop-k.invariant.0 ∙ dried_goes lines v _ (c.args.steps - (c.loop-k.k + 1)) c.loop-k.run c.try_step.new.run more c.in_default.ensures.is c.in_default.ensures.leads,
      λ h.
          let way = subst (λ (n : ℕ). UnderWay lines v c.args.steps n e0 c.loop-k.run) more (c.loop-k.invariant.1 h) in
          goes_on lines v c.args.steps e0 _ _ _ way (c.in_default.ensures.plain h),
    )

pub returns-in-Some-clause-is : goal.returns-in-Some-clause-is
returns-in-Some-clause-is g c =
    let lines = held c.args.program.now in
    let v = g.T.Travel.envelope c.args.travel.now in
    let more : c.args.steps - c.loop-k.k ≡ suc (c.args.steps - (c.loop-k.k + 1)) = omega arith in
    let first = c.begin-run.ensures ∙ ap (λ p. run_at 0 (start p c.args.values)) c.home.ensures in
    sym (ap (dried lines v c.args.steps) (sym first) ∙ (c.loop-k.invariant.0 ∙ dried_stops lines v _ (c.args.steps - (c.loop-k.k + 1)) c.loop-k.run c.in-Some.ending more c.in-Some.ensures.is))

pub returns-clause-is : goal.returns-clause-is
unfolding dried
returns-clause-is g c =
    let lines = held c.args.program.now in
    let v = g.T.Travel.envelope c.args.travel.now in
    let none : c.args.steps - c.loop-k.k ≡ 0 = omega arith in
    let first = c.begin-run.ensures ∙ ap (λ p. run_at 0 (start p c.args.values)) c.home.ensures in
    c.outlook.ensures ∙ sym (ap (dried lines v c.args.steps) (sym first) ∙ (c.loop-k.invariant.0 ∙ dried_out lines v _ c.loop-k.run none))

pub returns-clause-plain : goal.returns-clause-plain
returns-clause-plain g c = λ h.
    let lines = held c.args.program.now in
    let v = g.T.Travel.envelope c.args.travel.now in
    let e0 = c.begin-run.result.registers in
    let none : c.args.steps - c.loop-k.k ≡ 0 = omega arith in
    let way = subst (λ (n : ℕ). UnderWay lines v c.args.steps n e0 c.loop-k.run) none (c.loop-k.invariant.1 h) in
    subst (λ (e : Env). TheEnding lines v c.args.steps 0 e c.outlook.result) (ap (λ (r : Run). r.registers) c.begin-run.ensures ∙ ap (λ p. start p c.args.values) c.home.ensures)
    (at_last lines v c.args.steps e0 c.loop-k.run _ h way c.outlook.ensures)
