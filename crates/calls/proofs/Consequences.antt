-- What follows from the law for whoever makes the calls.
use Rattle.std.proofs.Common.{◌≡◌, ℕ, Bool, true, cond, List, [], ◌∷◌, ◌++◌, map, reverse, ℤ, Option, sym, refl, ap, subst}
use mathlib.Core.List.{reverse_aux}
use Rattle.std.specs.List.{AllByRecursion}
use Rattle.model.specs.Axes.{Position}
use Rattle.model.specs.Envelopes.{Envelope}
use Rattle.model.specs.Environments.{Env}
use Rattle.model.specs.declared.line.Line.{Line}
use Rattle.runner.specs.Drying.{start as start_of}
use Rattle.session.specs.Promises.{Hulls, InCertificate}
use Rattle.session.specs.Refusals.{start_refusal}
use Rattle.session.specs.declared.refusal.StartRefusal.TheVariants.{Uncertified}
use Rattle.calls.specs.Law.{Answer, done, commanded, refused, accepted, Event, event, wipe, start, step, ProgramIs, certificate_after, NextPlace, by_going, by_command, at_end, RunIs, standing, After, AnswersStep, Lawful}

-- the past after more calls
abbrev pub later : List Event → List Event → List Event
later past [] = past
later past (event c a ∷ more) = later (event c a ∷ past) more

pub later_reverse : (es : List Event) → later [] es ≡ reverse es
later_reverse es = onto [] es
  where
    onto : (past more : List Event) → later past more ≡ reverse_aux more past
    onto past [] = refl
    onto past (event c a ∷ more) = onto (event c a ∷ past) more

same_position : {p q : Position} → commanded p ≡ commanded q → p ≡ q
same_position e = cc

module _ (travel : Envelope) where
  pub lawful_rest : (past xs ys : List Event) → Lawful travel past (xs ++ ys) → Lawful travel (later past xs) ys
  lawful_rest past [] ys k = k
  lawful_rest past (event c a ∷ xs) ys k = lawful_rest (event c a ∷ past) xs ys k.1

  -- a wipe ends the certificate
  pub refused_after_wipe : (past : List Event) (vs : List ℤ) (a : Answer) → Lawful travel past (event wipe done ∷ (event (start vs) a ∷ [])) → a ≡ refused (start_refusal Uncertified)
  refused_after_wipe past vs a k = k.1.0.2.by_rule

  -- ---- where a run goes
  abbrev pub Goes : List Event → Type 0
  Goes past = (lines : List Line) → ProgramIs past lines → (i : ℕ) × (e : Env) × RunIs travel.home lines past i e

  pub begun_goes : (past : List Event) (vs : List ℤ) (a : Answer) → accepted a ≡ true → Goes (event (start vs) a ∷ past)
  begun_goes past vs a t lines p =
      let begins = start_of travel.home vs in
      (0, begins, subst (λ (b : Bool). cond b (◌≡◌ {A = ℕ} 0 0 × (begins ≡ begins)) (RunIs travel.home lines past 0 begins)) (sym t) (refl, refl))

  still_goes : (past : List Event) (a : Answer) → After travel past (λ now. AnswersStep travel now a) → Goes past → Goes (event step a ∷ past)
  still_goes past a (lines, p, k) g other q =
      let here = g lines p.is in
      let next = k.goes_on here.0 here.1 here.2 in
      let goes : RunIs travel.home lines (event step a ∷ past) next.0 next.1 =
      subst (λ (b : Bool). cond b ((j : ℕ) × (f : Env) × RunIs travel.home lines past j f × NextPlace lines j f a next.0 next.1) (RunIs travel.home lines past next.0 next.1)) (sym (k.somewhere.1 here)) (here.0, here.1, here.2, next.2) in
      (next.0, next.1, subst (λ (xs : List Line). RunIs travel.home xs (event step a ∷ past) next.0 next.1) (sym (p.only other q)) goes)

  pub steps_accepted : (past : List Event) (bs : List Answer) → Goes past → Lawful travel past (map (event step) bs) → AllByRecursion (λ a. accepted a ≡ true) bs
  steps_accepted past [] g k = tt
  steps_accepted past (a ∷ bs) g k = (k.0.2.somewhere.1 (g k.0.0 k.0.1.is), steps_accepted (event step a ∷ past) bs (still_goes past a k.0 g) k.1)

  -- ---- where steps command
  abbrev pub CommandsWithin : Option Hulls → Answer → Type 0
  CommandsWithin hs a = (p : Position) → a ≡ commanded p → travel.region p × InCertificate p hs

  -- the position is the one that the plain run commands
  by_run : (past : List Event) (lines : List Line) (a : Answer) (i j : ℕ) (e f : Env) → AnswersStep travel (standing travel.home past lines) a → RunIs travel.home lines past i e → NextPlace lines i e a j f → CommandsWithin (certificate_after past) a
  by_run past lines a i j e f k r (by_going st) p q = absurd (cc)
  by_run past lines a i j e f k r (by_command st) p q = subst (λ (x : Position). travel.region x × InCertificate x (certificate_after past)) (same_position q) (k.inside i j e f r st)
  by_run past lines a i j e f k r (at_end h) p q = absurd (cc)

  step_inside : (past : List Event) (a : Answer) → After travel past (λ now. AnswersStep travel now a) → CommandsWithin (certificate_after past) a
  step_inside past a (lines, program, k) p q =
      let g = k.somewhere.0 (ap accepted q) in
      let next = k.goes_on g.0 g.1 g.2 in
      by_run past lines a g.0 next.0 g.1 next.1 k g.2 next.2 p q

  pub steps_inside : (hs : Option Hulls) (past : List Event) (bs : List Answer) → certificate_after past ≡ hs → Lawful travel past (map (event step) bs) → AllByRecursion (CommandsWithin hs) bs
  steps_inside hs past [] e k = tt
  steps_inside hs past (a ∷ bs) e k = (subst (λ (c : Option Hulls). CommandsWithin c a) e (step_inside past a k.0), steps_inside hs (event step a ∷ past) bs e k.1)
