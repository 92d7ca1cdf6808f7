-- What a session remembers is what stands after the calls before, call by call.
use Rattle.std.proofs.Common.{◌≡◌, ℕ, ◌-◌, Bool, is_some, is_ok, true, false, cond, List, [], ◌∷◌, ℤ, Some, None, Ok, Err, Option, Result, ◌↔◌, sym, refl, ap, ◌∙◌, subst, ap₂, subst₂, set, true≢false}
use Rattle.grammar.specs.Law.{TheAnswer}
use Rattle.grammar.specs.declared.refusal.Refusal.{Refusal as NoLine}
use Rattle.model.specs.Axes.{Position}
use Rattle.model.specs.Environments.{Env}
use Rattle.model.specs.declared.line.Line.{Line}
use Rattle.model.specs.declared.range.Range.{Range}
use Rattle.model.proofs.Standing.{some_one, none_some}
use Rattle.program.specs.Numbers.{line_refusal}
use Rattle.program.specs.declared.refusal.LineRefusal.{LineRefusal}
use Rattle.runner.specs.Drying.{start as start_of}
use Rattle.runner.specs.Plain.{no_run, run_at}
use Rattle.runner.specs.Steps.{by_place}
use Rattle.runner.specs.declared.run.Run.{Run}
use Rattle.session.specs.Memory.{Memory, blank, after_step}
use Rattle.session.specs.Promises.{Hulls}
use Rattle.session.specs.Refusals.{allow_refusal, start_refusal}
use Rattle.session.specs.declared.refusal.AllowRefusal.{AllowRefusal}
use Rattle.session.specs.declared.refusal.StartRefusal.{StartRefusal}
use Rattle.calls.specs.Law.{Answer, done, done_or, accepted, judges, Event, event, AnyDomain, line, allow, wipe, certify, start, step, dry, TheProgram, allowed_after, hulls_in, certificate_after, started_after, NextPlace, RunIs}
use Rattle.calls.specs.Playing.{Leads, after_verdict}
use Rattle.calls.proofs.Programs.{Grown, no_program, program_wiped, program_refused, program_grown}
use Rattle.calls.proofs.NextPlaces.{one_place}

-- this memory of what stands after the past
pub record Remembers (home : Position) (past : List Event) (m : Memory) : Type 0 where
  pub program : TheProgram past m.program
  pub allowed : m.allowed ≡ allowed_after past
  pub certificate : m.certificate ≡ certificate_after past
  pub started : is_some m.run.at ≡ started_after past
  pub goes : (i : ℕ) (e : Env) → m.run ≡ run_at i e → RunIs home m.program past i e
  pub stands : (i : ℕ) (e : Env) → RunIs home m.program past i e → m.run ≡ run_at i e

none_goes : {P : Type 0} {i : ℕ} {e : Env} → no_run ≡ run_at i e → P
none_goes q = absurd (none_some (ap (λ (r : Run). r.at) q))

places : {i j : ℕ} {e f : Env} → run_at i e ≡ run_at j f → (i ≡ j) × (e ≡ f)
places q = (some_one (ap (λ (r : Run). r.at) q), ap (λ (r : Run). r.registers) q)

run_stands : (r : Run) (n : ℕ) → r.at ≡ Some n → r ≡ run_at n r.registers
run_stands r n q = ap (λ (o : Option ℕ). record { at = o; registers = r.registers }) q

-- without a run
abbrev At_rest : List Line → List Range → Option Hulls → Memory
At_rest lines ranges certificate = record { program = lines; allowed = ranges; certificate = certificate; run = no_run }

at_rest : (home : Position) (past : List Event) (lines : List Line) (ranges : List Range) (certificate : Option Hulls) → TheProgram past lines → ranges ≡ allowed_after past → certificate ≡ certificate_after past → started_after past ≡ false
    → ((i : ℕ) (e : Env) → RunIs home lines past i e → ⊥) → Remembers home past (At_rest lines ranges certificate)
at_rest home past lines ranges certificate p q c s none = record { program = p; allowed = q; certificate = c; started = sym s; goes = λ i e k. none_goes k; stands = λ i e k. absurd (none i e k) }

pub nothing_remembered : (home : Position) → Remembers home [] blank
nothing_remembered home = at_rest home [] [] _ None no_program refl refl refl (λ i e h. h)

module _ (home : Position) (past : List Event) (m : Memory) (r : Remembers home past m) where
  -- ---- line, allow, wipe
  pub line_by : (text : List ℕ) (reading : Result Line NoLine) (a : Result (Unit {0}) LineRefusal) (ys : List Line) → TheAnswer text reading → Grown m.program reading a ys
      → Remembers home (event (line text) (done_or line_refusal a) ∷ past) (cond (is_ok a) (At_rest ys m.allowed None) m)
  line_by text reading (Ok u) ys t g = at_rest home _ ys m.allowed None (program_grown past m.program r.program text u reading ys t g) r.allowed refl refl (λ i e h. h)
  line_by text reading (Err x) ys t g = record { program = program_refused past m.program r.program text x; allowed = r.allowed; certificate = r.certificate; started = r.started; goes = r.goes; stands = r.stands }

  pub allow_by : (n : ℕ) (x : Range) (a : Result (Unit {0}) AllowRefusal)
      → Remembers home (event (allow n x) (done_or allow_refusal a) ∷ past) (cond (is_ok a) (At_rest m.program (cond (is_ok a) (set m.allowed (n - 1) x) m.allowed) None) m)
  allow_by n x (Ok u) = at_rest home _ m.program _ None (record { is = r.program.is; only = r.program.only }) (ap (λ (rs : List Range). set rs (n - 1) x) r.allowed) refl refl (λ i e h. h)
  allow_by n x (Err y) = record { program = record { is = r.program.is; only = r.program.only }; allowed = r.allowed; certificate = r.certificate; started = r.started; goes = r.goes; stands = r.stands }

  pub wipe_by : Remembers home (event wipe done ∷ past) blank
  wipe_by = at_rest home _ [] _ None (program_wiped past done) refl refl refl (λ i e h. h)

  -- ---- certify
  pub certify_by : (d : AnyDomain) (n : ℕ) (a : Answer) → Remembers home (event (certify d n) a ∷ past) (after_verdict m a)
  certify_by d n a = by (judges a) refl
    where
      by : (b : Bool) → judges a ≡ b → Remembers home (event (certify d n) a ∷ past) (cond b (At_rest m.program m.allowed (hulls_in a)) m)
      by true q =
          at_rest home _ m.program m.allowed (hulls_in a) (record { is = r.program.is; only = r.program.only }) r.allowed (sym (ap (λ (c : Bool). cond c (hulls_in a) (certificate_after past)) q)) (ap (λ (c : Bool). cond c false (started_after past)) q)
          (λ i e h. subst (λ (c : Bool). cond c ⊥ (RunIs home m.program past i e)) q h)
      by false q = record {
        program = record { is = r.program.is; only = r.program.only };
        allowed = r.allowed;
        certificate = r.certificate ∙ sym (ap (λ (c : Bool). cond c (hulls_in a) (certificate_after past)) q);
        started = r.started ∙ sym (ap (λ (c : Bool). cond c false (started_after past)) q);
        goes = λ i e k. subst (λ (c : Bool). cond c ⊥ (RunIs home m.program past i e)) (sym q) (r.goes i e k);
        stands = λ i e h. r.stands i e (subst (λ (c : Bool). cond c ⊥ (RunIs home m.program past i e)) q h);
      }

  -- ---- start, step, dry
  pub start_by : (vs : List ℤ) (a : Result (Unit {0}) StartRefusal)
      → Remembers home (event (start vs) (done_or start_refusal a) ∷ past) (cond (is_ok a) (record { program = m.program; allowed = m.allowed; certificate = m.certificate; run = run_at 0 (start_of home vs) }) m)
  start_by vs (Ok u) = record { program = record { is = r.program.is; only = r.program.only }; allowed = r.allowed; certificate = r.certificate; started = refl; goes = λ i e q. places (sym q); stands = λ i e h. ap₂ run_at (sym h.0) (sym h.1) }
  start_by vs (Err y) = record { program = record { is = r.program.is; only = r.program.only }; allowed = r.allowed; certificate = r.certificate; started = r.started; goes = r.goes; stands = r.stands }

  abbrev Goes : Type 0
  Goes = (i : ℕ) × (e : Env) × (m.run ≡ run_at i e)

  -- where no run goes, a step leaves it so
  stays : (i : ℕ) (e : Env) (o : Option ℕ) → m.run.at ≡ o → (Goes → ⊥) → (after_step m).run ≡ run_at i e → m.run ≡ run_at i e
  stays i e None p none q = subst (λ (o : Option ℕ). (by_place m.program m.run o).run ≡ run_at i e) p q
  stays i e (Some n) p none q = absurd (none (n, m.run.registers, run_stands m.run n p))

  stays_put : (o : Option ℕ) → m.run.at ≡ o → (Goes → ⊥) → (after_step m).run ≡ m.run
  stays_put None p none = ap (λ (o : Option ℕ). (by_place m.program m.run o).run) p
  stays_put (Some n) p none = absurd (none (n, m.run.registers, run_stands m.run n p))

  -- where the run is, if the step is accepted, and if not
  abbrev Is : Answer → Bool → ℕ → Env → Type 0
  Is a b i e = cond b ((j : ℕ) × (f : Env) × RunIs home m.program past j f × NextPlace m.program j f a i e) (RunIs home m.program past i e)

  pub step_by : (a : Answer) → (accepted a ≡ true) ↔ Goes → Leads m step a → Remembers home (event step a ∷ past) (after_step m)
  step_by a when leads = by (accepted a) refl
    where
      by : (b : Bool) → accepted a ≡ b → Remembers home (event step a ∷ past) (after_step m)
      by true t =
          let g = when.0 t in
          let l = leads g.0 g.1 g.2 in record {
            program = record { is = r.program.is; only = r.program.only };
            allowed = r.allowed;
            certificate = r.certificate;
            started = ap (λ (u : Run). is_some u.at) l.3 ∙ sym (ap (λ (u : Run). is_some u.at) g.2) ∙ r.started;
            goes = λ i e q.
                let p = places (sym l.3 ∙ q) in
                subst (λ (b : Bool). Is a b i e) (sym t) (g.0, g.1, r.goes g.0 g.1 g.2, subst₂ (NextPlace m.program g.0 g.1 a) p.0 p.1 l.4);
            stands = λ i e h.
                let k = subst (λ (b : Bool). Is a b i e) t h in
                let here = leads k.0 k.1 (r.stands k.0 k.1 k.2) in
                let p = one_place here.0 here.4 k.3 in
                here.3 ∙ ap₂ run_at p.0 p.1;
          }
      by false t =
          let none : Goes → ⊥ = λ g. true≢false (sym (when.1 g) ∙ t) in record {
            program = record { is = r.program.is; only = r.program.only };
            allowed = r.allowed;
            certificate = r.certificate;
            started = ap (λ (u : Run). is_some u.at) (stays_put m.run.at refl none) ∙ r.started;
            goes = λ i e q. subst (λ (b : Bool). Is a b i e) (sym t) (r.goes i e (stays i e m.run.at refl none q));
            stands = λ i e h. absurd (none (i, e, r.stands i e (subst (λ (b : Bool). Is a b i e) t h)));
          }

  pub dry_by : (vs : List ℤ) (n : ℕ) (a : Answer) → Remembers home (event (dry vs n) a ∷ past) m
  dry_by vs n a = record { program = record { is = r.program.is; only = r.program.only }; allowed = r.allowed; certificate = r.certificate; started = r.started; goes = r.goes; stands = r.stands }
