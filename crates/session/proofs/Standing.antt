-- What a session that keeps to its certificate knows of its run, and how a step and a start keep to it.
use Rattle.std.proofs.Common.{◌≡◌, ℕ, true, false, true≢false, is_none, is_ok, List, [], ◌∷◌, ℤ, Some, None, Ok, Err, Option, Result, option_map, sym, refl, ap, ◌∙◌, subst, arith}
use mathlib.Core.Bool.{Bool-set}
use mathlib.Core.Logic.{∥∥₁_elim, ∥∥₁_map}
use Rattle.model.specs.declared.line.Line.{Line}
use Rattle.model.specs.declared.range.Range.{Range}
use Rattle.model.specs.declared.side.Side.{Side}
use Rattle.model.specs.Axes.{Position}
use Rattle.model.specs.Blocks.{Stack, closed, is_empty, past, role_of, open_after}
use Rattle.model.specs.Envelopes.{Envelope}
use Rattle.model.specs.Environments.{Env, position}
use Rattle.model.specs.Programs.{Leads, Closed}
use Rattle.model.specs.Reached.{Begins, begins, goes_on, commanded}
use Rattle.model.specs.Runs.{Outcome, goes, commands, faults, Steps}
use Rattle.model.specs.Sides.{AllHold}
use Rattle.model.proofs.Standing.{none_some}
use Rattle.program.specs.Refusals.{all_taken}
use Rattle.program.proofs.Nested.{closed_lines}
use Rattle.sweep.specs.Sound.{LiesSome, Fine}
use Rattle.travel.specs.Travels.{Lawful}
use Rattle.certify.specs.declared.refusal.Certificate.{Certificate}
use Rattle.runner.specs.declared.run.NoRun.{NoRun}
use Rattle.runner.specs.declared.run.Run.{Run}
use Rattle.runner.specs.declared.run.Stepped.{Stepped}
use Rattle.runner.specs.declared.run.Stepped.TheVariants.{WentOn, Commanded, Ended, Fault}
use Rattle.runner.specs.Plain.{run_at, From, LeadsOn, PlainStep}
use Rattle.runner.specs.Steps.{Went, gone, by_place, step_of}
use Rattle.session.specs.Promises.{InCertificate}
use Rattle.session.specs.Standing.{HasCome, Secure}
use Rattle.model.proofs.Numbers.{le_prop}

-- ---- closed programs pass the test
leads_open : (os us : Stack) (xs : List Line) → Leads os xs us → open_after os xs ≡ us
leads_open os us [] h = h
leads_open os us (x ∷ xs) h = leads_open (past os (role_of x)) us xs h.1

pub closed_test : (lines : List Line) → Closed lines → closed lines ≡ true
closed_test lines c = ap is_empty (leads_open [] [] lines c.nested)

-- ---- to be fine is a proposition
all_hold_prop : (p : Position) (ss : List Side) → IsProp (AllHold p ss)
all_hold_prop p [] x y i = tt
all_hold_prop p (s ∷ ss) x y i = (le_prop _ _ x.0 y.0 i, all_hold_prop p ss x.1 y.1 i)

lies_some_prop : (n : ℤ) (o : Option Range) → IsProp (LiesSome n o)
lies_some_prop n None x y = absurd x
lies_some_prop n (Some r) x y = λ i. record { low = le_prop r.lo n x.low y.low i; high = le_prop n r.hi x.high y.high i }

fine_prop : (travel : Envelope) (hulls : List (Option Range)) (o : Outcome) → IsProp (Fine travel hulls o)
fine_prop travel hulls (goes j e) x y = refl
fine_prop travel hulls (commands j e) x y = λ i. (all_hold_prop (position e) travel.sides x.0 y.0 i, λ r l. lies_some_prop _ _ (x.1 r l) (y.1 r l) i)
fine_prop travel hulls faults x y = absurd x

-- fine under the certificate that stands
abbrev pub FineUnder : Envelope → Option Certificate → Outcome → Type 0
FineUnder travel None o = ⊥
FineUnder travel (Some c) o = Fine travel c.hulls o

fine_under_prop : (travel : Envelope) (c : Option Certificate) (o : Outcome) → IsProp (FineUnder travel c o)
fine_under_prop travel None o x y = absurd x
fine_under_prop travel (Some c) o x y = fine_prop travel c.hulls o x y

no_fault_under : (travel : Envelope) (c : Option Certificate) → FineUnder travel c faults → ⊥
no_fault_under travel None h = h
no_fault_under travel (Some c) h = h

-- ---- where no run goes
stays : (lines : List Line) (r t : Run) (a : Result Stepped NoRun) → gone t a ≡ step_of lines r → r.at ≡ None → gone t a ≡ gone r (Err (record {}))
stays lines r t a is none = is ∙ ap (by_place lines r) none

abbrev run_of : {A : Type 0} → Went A → Run
run_of w = w.run

abbrev answer_of : {A : Type 0} → Went A → A
answer_of w = w.answer

-- a refused step leaves the run as it was
pub stays_put : (lines : List Line) (r t : Run) (a : Result Stepped NoRun) (x : NoRun) → gone t a ≡ step_of lines r → a ≡ Err x → t ≡ r
stays_put lines r t a x is refused = by r.at refl
  where
    by : (o : Option ℕ) → r.at ≡ o → t ≡ r
    by None p = ap run_of (stays lines r t a is p)
    by (Some n) p = absurd (true≢false (ap is_ok (sym (ap answer_of (is ∙ ap (by_place lines r) p)) ∙ refused)))

-- a step is made where a run goes
goes_at : (lines : List Line) (r t : Run) (a : Result Stepped NoRun) (s : Stepped) → gone t a ≡ step_of lines r → a ≡ Ok s → (n : ℕ) × (r.at ≡ Some n)
goes_at lines r t a s is made = by r.at refl
  where
    by : (o : Option ℕ) → r.at ≡ o → (n : ℕ) × (r.at ≡ Some n)
    by None p = absurd (true≢false (ap is_ok (sym made ∙ ap answer_of (stays lines r t a is p))))
    by (Some n) p = (n, p)

module _ (lines : List Line) (travel : Envelope) (allowed : List Range) where
  -- ---- a step that is made
  module _ (c : Option Certificate) (r t : Run) (a : Result Stepped NoRun) (s : Stepped) (secure : ∥ Secure lines travel allowed c r ∥₁) (taken : all_taken [] lines ≡ true)
      (is : gone t a ≡ step_of lines r) (plain : Closed lines → PlainStep lines r a t) (made : a ≡ Ok s) where
    abbrev place : (n : ℕ) × (r.at ≡ Some n)
    place = goes_at lines r t a s is made

    fine_by : (c : Option Certificate) (o : Outcome) → Steps lines place.0 r.registers o → Secure lines travel allowed c r → FineUnder travel c o
    fine_by None o st s = absurd (none_some (sym s ∙ place.1))
    fine_by (Some c) o st s = s.safe place.0 r.registers o (subst (λ (o : Option ℕ). HasCome lines travel allowed o r.registers) place.1 s.has_come) st

    step_fine : (o : Outcome) → Steps lines place.0 r.registers o → FineUnder travel c o
    step_fine o st = ∥∥₁_elim secure (fine_under_prop travel c o) (fine_by c o st)

    closed_by : (c : Option Certificate) → Secure lines travel allowed c r → closed lines ≡ true
    closed_by None s = absurd (none_some (sym s ∙ place.1))
    closed_by (Some c) s = closed_test lines s.closed

    is_closed : Closed lines
    is_closed = closed_lines lines taken (∥∥₁_elim secure (Bool-set (closed lines) true) (closed_by c))

    pub steps_plainly : Closed lines × PlainStep lines r (Ok s) t
    steps_plainly = (is_closed, subst (λ (a : Result Stepped NoRun). PlainStep lines r a t) made (plain is_closed))

    leads : LeadsOn lines place.0 r.registers s t
    leads = subst (λ (o : Option ℕ). From lines r o (Ok s) t) place.1 steps_plainly.1

    faultless : (s : Stepped) → LeadsOn lines place.0 r.registers s t → s ≡ Fault → ⊥
    faultless WentOn l e = cc
    faultless (Commanded p) l e = cc
    faultless Ended l e = cc
    faultless Fault l e = no_fault_under travel c (step_fine faults l.1)

    pub no_fault : s ≡ Fault → ⊥
    no_fault = faultless s leads

    inside_by : Lawful travel → (c : Option Certificate) (j : ℕ) (e : Env) → FineUnder travel c (commands j e) → travel.region (position e) × InCertificate (position e) (option_map (λ c. c.hulls) c)
    inside_by lawful None j e h = absurd h
    inside_by lawful (Some c) j e h = (lawful.all (position e) h.0, (h.1 0 (omega arith), h.1 1 (omega arith), h.1 2 (omega arith), h.1 3 (omega arith)))

    inside_of : Lawful travel → (p : Position) → LeadsOn lines place.0 r.registers (Commanded p) t → travel.region p × InCertificate p (option_map (λ c. c.hulls) c)
    inside_of lawful p l =
        subst (λ (p : Position). travel.region p × InCertificate p (option_map (λ c. c.hulls) c)) (sym l.3) (inside_by lawful c l.0 t.registers (step_fine (commands l.0 t.registers) l.2))

    pub commanded_inside : Lawful travel → (p : Position) → s ≡ Commanded p → travel.region p × InCertificate p (option_map (λ c. c.hulls) c)
    commanded_inside lawful p e = inside_of lawful p (subst (λ (s : Stepped). LeadsOn lines place.0 r.registers s t) e leads)

  -- ---- what is kept
  abbrev Comes : Run → Type 0
  Comes r = HasCome lines travel allowed r.at r.registers

  comes_on : (r t : Run) (a : Result Stepped NoRun) (o : Option ℕ) → r.at ≡ o → From lines r o a t → HasCome lines travel allowed o r.registers → Comes t
  comes_on r t (Ok s) None p l h = absurd l
  comes_on r t (Err x) None p l h = subst Comes (sym l) (subst (λ (o : Option ℕ). HasCome lines travel allowed o r.registers) (sym p) h)
  comes_on r t (Ok WentOn) (Some n) p l h = subst Comes (sym l.1) (goes_on h l.2)
  comes_on r t (Ok (Commanded q)) (Some n) p l h = subst Comes (sym l.1) (commanded h l.2)
  comes_on r t (Ok Ended) (Some n) p l h = subst Comes (sym l.0) h
  comes_on r t (Ok Fault) (Some n) p l h = subst Comes (sym l.0) h
  comes_on r t (Err x) (Some n) p l h = absurd l

  step_keeps : (c : Option Certificate) (r t : Run) (a : Result Stepped NoRun) → gone t a ≡ step_of lines r → (Closed lines → PlainStep lines r a t) → Secure lines travel allowed c r → Secure lines travel allowed c t
  step_keeps None r t a e l p = ap (λ (u : Run). u.at) (ap run_of (stays lines r t a e p)) ∙ p
  step_keeps (Some c) r t a e l u = record { closed = u.closed; safe = u.safe; has_come = comes_on r t a r.at refl (l u.closed) u.has_come }

  pub step_secure : (c : Option Certificate) (r t : Run) (a : Result Stepped NoRun) → gone t a ≡ step_of lines r → (Closed lines → PlainStep lines r a t) → ∥ Secure lines travel allowed c r ∥₁ → ∥ Secure lines travel allowed c t ∥₁
  step_secure c r t a e l h = ∥∥₁_map h (step_keeps c r t a e l)

  start_keeps : (c : Option Certificate) (r : Run) (e : Env) → is_none c ≡ false → Begins travel.home allowed e → Secure lines travel allowed c r → Secure lines travel allowed c (run_at 0 e)
  start_keeps None r e n b s = cc
  start_keeps (Some c) r e n b u = record { closed = u.closed; safe = u.safe; has_come = begins b }

  pub start_secure : (c : Option Certificate) (r t : Run) (e : Env) → t ≡ run_at 0 e → is_none c ≡ false → Begins travel.home allowed e → ∥ Secure lines travel allowed c r ∥₁ → ∥ Secure lines travel allowed c t ∥₁
  start_secure c r t e begun n b h = subst (λ (t : Run). ∥ Secure lines travel allowed c t ∥₁) (sym begun) (∥∥₁_map h (start_keeps c r e n b))
