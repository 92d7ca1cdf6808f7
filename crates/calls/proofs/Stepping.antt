-- A step is answered as the plain run steps, and leads the run onward.
use Rattle.std.proofs.Common.{◌≡◌, ℕ, ◌≤◌, true, List, length, Some, None, Ok, Err, Option, Result, IfOk, sym, refl, ap, ◌∙◌, subst, subst₂, true≢false, arith}
use Rattle.model.specs.Axes.{Position}
use Rattle.model.specs.declared.line.Line.{Line}
use Rattle.model.specs.declared.range.Range.{Range}
use Rattle.model.specs.Environments.{Env, position}
use Rattle.model.specs.Programs.{Closed}
use Rattle.model.specs.Runs.{Outcome, Steps, commands, faults}
use Rattle.model.proofs.Standing.{some_one, none_some}
use Rattle.model.proofs.Stepping.{one_step, steps_inner}
use Rattle.runner.specs.Plain.{LeadsOn, run_at}
use Rattle.runner.specs.Steps.{step_of}
use Rattle.session.specs.Memory.{Memory, after_step}
use Rattle.session.specs.Promises.{Hulls, Inside, InCertificate, StepsPlainly}
use Rattle.session.specs.Stepping.{stepped, step_done}
use Rattle.session.specs.Refusals.{step_refusal}
use Rattle.session.specs.declared.progress.Progress.{Progress}
use Rattle.session.specs.declared.progress.Progress.TheVariants.{WentOn, Commanded, Ended}
use Rattle.session.specs.declared.refusal.StepRefusal.{StepRefusal}
use Rattle.session.specs.declared.refusal.StepRefusal.TheVariants.{NoRun}
use Rattle.runner.specs.declared.run.Run.{Run}
use Rattle.model.specs.Envelopes.{Envelope}
use Rattle.calls.specs.Events.{by_step}
use Rattle.calls.specs.Law.{Answer, commanded, refused, accepted, step, NextPlace, by_going, by_command, at_end, AnswersStep}
use Rattle.calls.specs.Playing.{known, Leads}

-- a step that is answered a leads from line i with e to where a run stands, on a closed program
abbrev LeadsTo : List Line → Run → Answer → ℕ → Env → Type 0
LeadsTo lines t a i e = Closed lines × (j : ℕ) × (f : Env) × (t ≡ run_at j f) × NextPlace lines i e a j f

-- ---- what a step comes to, by its answer
module _ (lines : List Line) (closed : Closed lines) (i : ℕ) (e : Env) where
  one : (o u : Outcome) → Steps lines i e o → Steps lines i e u → o ≡ u
  one = (one_step lines closed).only i e

  past : (o : Outcome) → length lines ≤ i → Steps lines i e o → ⊥
  past o p st = let q = steps_inner st in omega arith

  module _ (t : Run) where
    goes_on : (s : Progress) → LeadsOn lines i e (step_done s) t → (j : ℕ) × (f : Env) × (t ≡ run_at j f) × NextPlace lines i e (by_step (Ok s)) j f
    goes_on WentOn l = (l.0, t.registers, l.1, by_going l.2)
    goes_on (Commanded p) l = (l.0, t.registers, l.1, subst (λ (q : Position). NextPlace lines i e (commanded q) l.0 t.registers) (sym l.3) (by_command l.2))
    goes_on Ended l = (i, e, l.0, at_end l.1)

    no_fault : (s : Progress) → LeadsOn lines i e (step_done s) t → Steps lines i e faults → ⊥
    no_fault WentOn l st = let k = one _ _ l.2 st in (cc)
    no_fault (Commanded p) l st = let k = one _ _ l.2 st in (cc)
    no_fault Ended l st = past faults l.1 st

    inside : (travel : Envelope) (c : Option Hulls) (s : Progress) → LeadsOn lines i e (step_done s) t → Inside travel c s → (j : ℕ) (f : Env) → Steps lines i e (commands j f) → travel.region (position f) × InCertificate (position f) c
    inside travel c WentOn l h j f st = let k = one _ _ l.2 st in absurd (cc)
    inside travel c (Commanded p) l h j f st =
        let k = one _ _ l.2 st in
        let same : t.registers ≡ f = cc in
        subst (λ (q : Position). travel.region q × InCertificate q c) (l.3 ∙ ap position same) h
    inside travel c Ended l h j f st = absurd (past _ l.1 st)

    leads_to : (s : Progress) → LeadsOn lines i e (step_done s) t → LeadsTo lines t (by_step (Ok s)) i e
    leads_to s l = let g = goes_on s l in (closed, g.0, g.1, g.2, g.3)

-- ---- the law of a step
some_progress : (s : Progress) → accepted (by_step (Ok s)) ≡ true
some_progress WentOn = refl
some_progress (Commanded p) = refl
some_progress Ended = refl

no_run_refused : (e : StepRefusal) → by_step (Err e) ≡ refused (step_refusal NoRun)
no_run_refused NoRun = refl

-- a run that stands at line n with e stands nowhere else, and one that does not go stands nowhere
at_place : (P : ℕ → Env → Type 0) (n i : ℕ) (e f : Env) → run_at n e ≡ run_at i f → P n e → P i f
at_place P n i e f q h = subst₂ P (some_one (ap (λ (r : Run). r.at) q)) (ap (λ (r : Run). r.registers) q) h

nowhere : (e f : Env) (i : ℕ) → ◌≡◌ {A = Run} (record { at = None; registers = e }) (run_at i f) → ⊥
nowhere e f i q = none_some (ap (λ (r : Run). r.at) q)

module _ (travel : Envelope) (lines : List Line) (rs : List Range) (c : Option Hulls) where
  abbrev with_run : Option ℕ → Env → Memory
  with_run at e = record { program = lines; allowed = rs; certificate = c; run = record { at = at; registers = e } }

  step_kept : (at : Option ℕ) (e : Env) (t : Run) (a : Result Progress StepRefusal) → let m = with_run at e in
      stepped a ≡ (step_of lines m.run).answer → IfOk a (λ (s : Progress). StepsPlainly lines m.run s t) → IfOk a (Inside travel c) → t ≡ (after_step m).run → AnswersStep travel (known m) (by_step a) × Leads m step (by_step a)
  step_kept None e t (Ok s) says plain within left = absurd (cc)
  step_kept None e t (Err r) says plain within left = (
    record {
      when = (λ h. h, λ h. h);
      somewhere = (λ h. absurd (true≢false (sym h)), λ h. absurd (nowhere e h.1 h.0 h.2));
      else = λ h. no_run_refused r;
      goes_on = λ i f q. absurd (nowhere e f i q);
      no_fault = λ i f q. absurd (nowhere e f i q);
      inside = λ i j f g q. absurd (nowhere e f i q);
    },
    λ i f q. absurd (nowhere e f i q),
  )
  step_kept (Some n) e t (Err r) says plain within left = absurd (cc)
  step_kept (Some n) e t (Ok s) says plain within left = (
    record {
      when = (λ h. refl, λ h. some_progress s);
      somewhere = (λ h. (n, e, refl), λ h. some_progress s);
      else = λ h. absurd (true≢false (sym (some_progress s) ∙ h));
      goes_on = λ i f q. at_place (λ (k : ℕ) (h : Env). (j : ℕ) × (g : Env) × NextPlace lines k h (by_step (Ok s)) j g) n i e f q (let g = goes_on lines plain.0 n e t s plain.1 in (g.0, g.1, g.3));
      no_fault = λ i f q. at_place (λ (k : ℕ) (h : Env). Steps lines k h faults → ⊥) n i e f q (no_fault lines plain.0 n e t s plain.1);
      inside = λ i j f g q. at_place (λ (k : ℕ) (h : Env). Steps lines k h (commands j g) → travel.region (position g) × InCertificate (position g) c) n i e f q (inside lines plain.0 n e t travel c s plain.1 within j g);
    },
    λ i f q. at_place (LeadsTo lines (after_step (with_run (Some n) e)).run (by_step (Ok s))) n i e f q (subst (λ (r : Run). LeadsTo lines r (by_step (Ok s)) n e) left (leads_to lines plain.0 n e t s plain.1)),
  )

pub step_by : (travel : Envelope) (m : Memory) (t : Run) (a : Result Progress StepRefusal) → stepped a ≡ (step_of m.program m.run).answer → IfOk a (λ (s : Progress). StepsPlainly m.program m.run s t) → IfOk a (Inside travel m.certificate) → t ≡ (after_step m).run
    → AnswersStep travel (known m) (by_step a) × Leads m step (by_step a)
step_by travel m t a says plain within left = step_kept travel m.program m.allowed m.certificate m.run.at m.run.registers t a says plain within left
