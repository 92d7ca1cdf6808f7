-- One step of a dry run, and what is left when the steps are used up.
use Rattle.std.proofs.Common.{◌≡◌, ℕ, suc, ◌+◌, ◌<◌, ◌≤◌, Bool, true, false, cond, ltb, List, length, Some, None, Ok, Option, sym, refl, ap, ◌∙◌, subst, arith}
use Rattle.std.proofs.lemmas.Bool.Decides.{nat_tests}
use Rattle.model.specs.declared.ending.Cause.{Cause}
use Rattle.model.specs.declared.ending.Cause.TheVariants.{Arithmetic, Travel}
use Rattle.model.specs.declared.ending.Ending.{Ending}
use Rattle.model.specs.declared.ending.Ending.TheVariants.{Ended, Stopped}
use Rattle.model.specs.declared.line.Line.{Line}
use Rattle.model.specs.Axes.{Position}
use Rattle.model.specs.Envelopes.{Envelope}
use Rattle.model.specs.Environments.{Env}
use Rattle.model.specs.Programs.{Closed}
use Rattle.model.specs.Sides.{kept, lowest}
use Rattle.model.specs.Whole.{here, Dry, ended, running, faulted, left, TheEnding}
use Rattle.model.proofs.Stepping.{steps_inner}
use Rattle.model.proofs.Dried.{dry_on, dry_inside, one_ending}
use Rattle.runner.specs.declared.run.Stepped.{Stepped}
use Rattle.runner.specs.declared.run.Stepped.TheVariants.{WentOn, Commanded, Ended as Over, Fault}
use Rattle.runner.specs.declared.run.Run.{Run}
use Rattle.runner.specs.Plain.{run_at, LeadsOn, PlainStep}
use Rattle.runner.specs.Drying.{number_under, outlook, stopped_for, Tried}

module _ (lines : List Line) (v : Envelope) (r t : Run) where
  at_run : (i : ℕ) (e : Env) (s : Stepped) → r ≡ run_at i e → PlainStep lines r (Ok s) t → LeadsOn lines i e s t
  at_run i e s q p = subst (λ (x : Run). PlainStep lines x (Ok s) t) q p

  numbered : (i : ℕ) (e : Env) → r ≡ run_at i e → i < length lines → number_under lines r.at ≡ Some (suc i)
  numbered i e q h =
      let b : ltb i (length lines) ≡ true = grind (arith, nat_tests) in
      let n : i + 1 ≡ suc i = omega arith in
      ap (λ (x : Run). number_under lines x.at) q ∙ (ap (λ (t : Bool). cond t (Some (i + 1)) None) b ∙ ap (λ (m : ℕ). Some m) n)

  -- a step stops at the line under the run
  abbrev Stops : Cause → Type 0
  Stops c = (i : ℕ) (e : Env) → r ≡ run_at i e → (i < length lines) × ((k : ℕ) → Dry lines v (suc k) i e (Stopped (record { line = suc i; cause = c })))

  stops_at : (c : Cause) (n : Option ℕ) → n ≡ number_under lines r.at → Stops c → Tried lines v r (stopped_for n c) t
  stops_at c None m s = λ i e q. let z : None ≡ Some (suc i) = m ∙ numbered i e q (s i e q).0 in absurd cc
  stops_at c (Some n) m s = λ i e q k.
      let z : Some (suc i) ≡ Some n = sym (m ∙ numbered i e q (s i e q).0) in
      let w : suc i ≡ n = cc in
      subst (λ (x : ℕ). Dry lines v (suc k) i e (Stopped (record { line = x; cause = c }))) w ((s i e q).1 k)

  pub tried_on : PlainStep lines r (Ok WentOn) t → Tried lines v r None t
  tried_on p i e q = let s = at_run i e WentOn q p in (s.0, t.registers, s.1, λ k o d. dry_on lines v s.2 d)

  pub tried_over : PlainStep lines r (Ok Over) t → Tried lines v r (Some Ended) t
  tried_over p i e q k = ended (omega arith) here (at_run i e Over q p).1

  pub tried_fault : (n : Option ℕ) → n ≡ number_under lines r.at → PlainStep lines r (Ok Fault) t → Tried lines v r (stopped_for n Arithmetic) t
  tried_fault n m p = stops_at Arithmetic n m (λ i e q. let s = at_run i e Fault q p in (steps_inner s.1, λ k. faulted (omega arith) here s.1))

  pub tried_inside : (p : Position) → lowest (kept p) 0 v.sides ≡ None → PlainStep lines r (Ok (Commanded p)) t → Tried lines v r None t
  tried_inside p h w i e q =
      let s = at_run i e (Commanded p) q w in
      (s.0, t.registers, s.1, λ k o d. dry_inside lines v s.2 (ap (λ (x : Position). lowest (kept x) 0 v.sides) (sym s.3) ∙ h) d)

  pub tried_left : (n : Option ℕ) (b : ℕ) (p : Position) → n ≡ number_under lines r.at → lowest (kept p) 0 v.sides ≡ Some b → PlainStep lines r (Ok (Commanded p)) t → Tried lines v r (stopped_for n (Travel b)) t
  tried_left n b p m h w = stops_at (Travel b) n m (λ i e q. let s = at_run i e (Commanded p) q w in (steps_inner s.2, λ k. left (omega arith) here s.2 (ap (λ (x : Position). lowest (kept x) 0 v.sides) (sym s.3) ∙ h)))

-- ---- the loop
-- a run that is under way after some steps: what it comes to with the steps left, the whole run comes to
abbrev pub UnderWay : List Line → Envelope → ℕ → ℕ → Env → Run → Type 0
UnderWay lines v steps rest e0 r = (i : ℕ) × (e : Env) × (r ≡ run_at i e) × ((o : Ending) → Dry lines v rest i e o → Dry lines v steps 0 e0 o)

module _ (lines : List Line) (v : Envelope) (steps : ℕ) (e0 : Env) where
  pub begun : (r : Run) → r ≡ run_at 0 e0 → UnderWay lines v steps steps e0 r
  begun r q = (0, e0, q, λ o d. d)

  pub goes_on : (rest : ℕ) (r t : Run) → UnderWay lines v steps (suc rest) e0 r → Tried lines v r None t → UnderWay lines v steps rest e0 t
  goes_on rest r t (i, e, q, h) w = let x = w i e q in (x.0, x.1, x.2, λ o d. h o (x.3 rest o d))

  the_one : (o : Ending) → Closed lines → Dry lines v steps 0 e0 o → TheEnding lines v steps 0 e0 o
  the_one o c d = record { is = d; only = λ u h. one_ending lines v c steps 0 e0 u o h d }

  pub comes_to : (rest : ℕ) (r t : Run) (o : Ending) → Closed lines → UnderWay lines v steps (suc rest) e0 r → Tried lines v r (Some o) t → TheEnding lines v steps 0 e0 o
  comes_to rest r t o c (i, e, q, h) w = the_one o c (h o (w i e q rest))

  last_by : (i : ℕ) (e : Env) (t : Bool) → ltb i (length lines) ≡ t → Dry lines v 0 i e (outlook (cond t (Some (i + 1)) None))
  last_by i e true q = running here (let k : i < length lines = grind (arith, nat_tests) in k)
  last_by i e false q = ended (omega arith) here (let k : length lines ≤ i = grind (arith, nat_tests) in k)

  pub at_last : (r : Run) (o : Ending) → Closed lines → UnderWay lines v steps 0 e0 r → o ≡ outlook (number_under lines r.at) → TheEnding lines v steps 0 e0 o
  at_last r o c (i, e, q, h) p =
      let z = ap (λ (x : Run). outlook (number_under lines x.at)) q in
      the_one o c (h o (subst (Dry lines v 0 i e) (sym (p ∙ z)) (last_by i e (ltb i (length lines)) refl)))
