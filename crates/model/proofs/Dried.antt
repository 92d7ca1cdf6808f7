-- A dry run of a closed program has one ending.
use Rattle.std.proofs.Common.{◌≡◌, ℕ, zero, suc, ◌-◌, ◌<◌, ◌≤◌, List, length, Some, None, Option, sym, refl, ◌∙◌, subst, arith}
use Rattle.model.specs.declared.line.Line.{Line}
use Rattle.model.specs.declared.ending.Cause.TheVariants.{Arithmetic, Travel}
use Rattle.model.specs.declared.ending.Ending.{Ending}
use Rattle.model.specs.declared.ending.Ending.TheVariants.{Ended, Running, Stopped}
use Rattle.model.specs.Envelopes.{Envelope}
use Rattle.model.specs.Environments.{Env, position}
use Rattle.model.specs.Sides.{kept, lowest}
use Rattle.model.specs.Programs.{Closed}
use Rattle.model.specs.Runs.{Outcome, goes, commands, faults, Steps}
use Rattle.model.specs.Whole.{LeadsTo, here, on, inside, Dry, ended, running, faulted, left}
use Rattle.model.proofs.Stepping.{one_step, steps_inner}

module _ (lines : List Line) (v : Envelope) where
  -- what the rest of a run comes to, by its first step
  abbrev Judged : ℕ → ℕ → ℕ → Env → Ending → Option ℕ → Type 0
  Judged n i j f o None = Dry lines v n j f o
  Judged n i j f o (Some s) = o ≡ Stopped (record { line = suc i; cause = Travel s })

  abbrev Then : ℕ → ℕ → Ending → Outcome → Type 0
  Then n i o (goes j f) = Dry lines v n j f o
  Then n i o (commands j f) = Judged n i j f o (lowest (kept (position f)) 0 v.sides)
  Then n i o faults = o ≡ Stopped (record { line = suc i; cause = Arithmetic })

  data View (k i : ℕ) (e : Env) (o : Ending) : Type 0 where
    past : length lines ≤ i → o ≡ Ended → View k i e o
    tired : i < length lines → k ≡ 0 → o ≡ Running → View k i e o
    stepped : (n : ℕ) (u : Outcome) → k ≡ suc n → Steps lines i e u → Then n i o u → View k i e o

  -- a run that goes on keeps what its rest comes to
  pub dry_on : {n i j : ℕ} {e f : Env} {o : Ending} → Steps lines i e (goes j f) → Dry lines v n j f o → Dry lines v (suc n) i e o
  dry_on st (ended h r l) = ended (omega arith) (on st r) l
  dry_on st (running r l) = running (on st r) l
  dry_on st (faulted h r t) = faulted (omega arith) (on st r) t
  dry_on st (left h r t b) = left (omega arith) (on st r) t b

  pub dry_inside : {n i j : ℕ} {e f : Env} {o : Ending} → Steps lines i e (commands j f) → lowest (kept (position f)) 0 v.sides ≡ None → Dry lines v n j f o → Dry lines v (suc n) i e o
  dry_inside st k (ended h r l) = ended (omega arith) (inside st k r) l
  dry_inside st k (running r l) = running (inside st k r) l
  dry_inside st k (faulted h r t) = faulted (omega arith) (inside st k r) t
  dry_inside st k (left h r t b) = left (omega arith) (inside st k r) t b

  judged_inside : (n i j : ℕ) (f : Env) (o : Ending) → lowest (kept (position f)) 0 v.sides ≡ None → Dry lines v n j f o → Judged n i j f o (lowest (kept (position f)) 0 v.sides)
  judged_inside n i j f o k d = subst (λ (m : Option ℕ). Judged n i j f o m) (sym k) d

  -- m steps, at most k: the rest after the first is at most k - 1
  view_ended : {k m i j : ℕ} {e f : Env} → m ≤ k → LeadsTo lines v m i e j f → length lines ≤ j → View k i e Ended
  view_ended h here l = past l refl
  view_ended {k = k} h (on {n = n} {j = a} {f = b} st r) l = stepped (k - 1) (goes a b) (omega arith) st (ended (omega arith) r l)
  view_ended {k = k} {i = i} h (inside {n = n} {j = a} {f = b} st q r) l = stepped (k - 1) (commands a b) (omega arith) st (judged_inside (k - 1) i a b Ended q (ended (omega arith) r l))

  view_running : {k i j : ℕ} {e f : Env} → LeadsTo lines v k i e j f → j < length lines → View k i e Running
  view_running here l = tired l refl refl
  view_running (on {n = n} {j = a} {f = b} st r) l = stepped n (goes a b) refl st (running r l)
  view_running {i = i} (inside {n = n} {j = a} {f = b} st q r) l = stepped n (commands a b) refl st (judged_inside n i a b Running q (running r l))

  view_faulted : {k m i j : ℕ} {e f : Env} → m < k → LeadsTo lines v m i e j f → Steps lines j f faults → View k i e (Stopped (record { line = suc j; cause = Arithmetic }))
  view_faulted {k = k} h here t = stepped (k - 1) faults (omega arith) t refl
  view_faulted {k = k} h (on {n = n} {j = a} {f = b} st r) t = stepped (k - 1) (goes a b) (omega arith) st (faulted (omega arith) r t)
  view_faulted {k = k} {i = i} h (inside {n = n} {j = a} {f = b} st q r) t = stepped (k - 1) (commands a b) (omega arith) st (judged_inside (k - 1) i a b _ q (faulted (omega arith) r t))

  view_left : {k m i j c s : ℕ} {e f g : Env} → m < k → LeadsTo lines v m i e j f → Steps lines j f (commands c g) → lowest (kept (position g)) 0 v.sides ≡ Some s → View k i e (Stopped (record { line = suc j; cause = Travel s }))
  view_left {k = k} {i = i} {c = c} {s = s} {g = g} h here t b =
      stepped (k - 1) (commands c g) (omega arith) t (subst (λ (m : Option ℕ). Judged (k - 1) i c g (Stopped (record { line = suc i; cause = Travel s })) m) (sym b) refl)
  view_left {k = k} h (on {n = n} {j = a} {f = b} st r) t w = stepped (k - 1) (goes a b) (omega arith) st (left (omega arith) r t w)
  view_left {k = k} {i = i} h (inside {n = n} {j = a} {f = b} st q r) t w = stepped (k - 1) (commands a b) (omega arith) st (judged_inside (k - 1) i a b _ q (left (omega arith) r t w))

  view : {k i : ℕ} {e : Env} {o : Ending} → Dry lines v k i e o → View k i e o
  view (ended h r l) = view_ended h r l
  view (running r l) = view_running r l
  view (faulted h r t) = view_faulted h r t
  view (left h r t b) = view_left h r t b

  abbrev One : ℕ → Type 0
  One k = (i : ℕ) (e : Env) (o u : Ending) → Dry lines v k i e o → Dry lines v k i e u → o ≡ u

  judged_one : (n i j : ℕ) (f : Env) (o u : Ending) (m : Option ℕ) → One n → Judged n i j f o m → Judged n i j f u m → o ≡ u
  judged_one n i j f o u None one a b = one j f o u a b
  judged_one n i j f o u (Some m) one a b = a ∙ sym b

  then_one : (n i : ℕ) (o u : Ending) (x : Outcome) → One n → Then n i o x → Then n i u x → o ≡ u
  then_one n i o u (goes j f) one a b = one j f o u a b
  then_one n i o u (commands j f) one a b = judged_one n i j f o u (lowest (kept (position f)) 0 v.sides) one a b
  then_one n i o u faults one a b = a ∙ sym b

  module _ (closed : Closed lines) where
    view_one : (k i : ℕ) (e : Env) (o u : Ending) → ((n : ℕ) → k ≡ suc n → One n) → View k i e o → View k i e u → o ≡ u
    view_one k i e o u one (past h p) (past g q) = p ∙ sym q
    view_one k i e o u one (past h p) (tired g z q) = absurd (omega arith)
    view_one k i e o u one (past h p) (stepped n x z st t) = absurd (let g = steps_inner st in omega arith)
    view_one k i e o u one (tired h z p) (past g q) = absurd (omega arith)
    view_one k i e o u one (tired h z p) (tired g y q) = p ∙ sym q
    view_one k i e o u one (tired h z p) (stepped n x y st t) = absurd (omega arith)
    view_one k i e o u one (stepped n x z st t) (past g q) = absurd (let h = steps_inner st in omega arith)
    view_one k i e o u one (stepped n x z st t) (tired g y q) = absurd (omega arith)
    view_one k i e o u one (stepped n x z st t) (stepped m y w sv h) =
        let same = (one_step lines closed).only i e y x sv st in
        let level : m ≡ n = omega arith in
        then_one n i o u x (one n z) t (subst (λ (r : ℕ). Then r i u x) level (subst (λ (a : Outcome). Then m i u a) same h))

    pub one_ending : (k : ℕ) → One k
    one_ending zero i e o u a b = view_one zero i e o u (λ n q. absurd (omega arith)) (view a) (view b)
    one_ending (suc k) i e o u a b =
        view_one (suc k) i e o u (λ n q. let same : k ≡ n = omega arith in subst (λ (m : ℕ). One m) same (one_ending k)) (view a) (view b)
