-- What a tape of steps is answered, from the law.
use Rattle.std.proofs.Common.{◌≡◌, true, List, [], ◌∷◌, ◌++◌, length, map, take, reverse, is_ok, IsOk, Ok, Err, Result, ℤ, Option, refl, ap, subst, arith}
use Rattle.std.specs.List.{All, AllPass, AllByRecursion}
use Rattle.std.proofs.lemmas.List.Elements.{All-from_recursion}
use Rattle.model.specs.Axes.{Position}
use Rattle.model.specs.Envelopes.{Envelope}
use Rattle.session.specs.Promises.{Hulls, InCertificate}
use Rattle.session.specs.Refusals.{start_refusal}
use Rattle.session.specs.declared.progress.Progress.TheVariants.{WentOn, Commanded, Ended}
use Rattle.session.specs.declared.refusal.StartRefusal.{StartRefusal}
use Rattle.calls.specs.Law.{Answer, done_or, Event, event, start, step, accepted, certificate_after, After, AnswersStart, Lawful}
use Rattle.calls.specs.Events.{by_step, recorded}
use Rattle.calls.proofs.Consequences.{later, lawful_rest, later_reverse, begun_goes, steps_accepted, CommandsWithin, steps_inside}
use Rattle.clients.specs.Commands.{CommandsIn}
use Rattle.clients.specs.Lists.{Stepping, stepped}

module _ {S : Type 0} where
  -- as many steps are made as there are answers for
  pub recorded_steps : (cs ds : List S) (rs : List Stepping) → length ds ≡ length cs → recorded stepped cs ds rs ≡ map (event step) (map by_step (take (length cs) rs))
  recorded_steps [] ds rs e = refl
  recorded_steps (c ∷ cs) [] rs e = absurd (omega arith)
  recorded_steps (c ∷ cs) (d ∷ ds) [] e = refl
  recorded_steps (c ∷ cs) (d ∷ ds) (r ∷ rs) e = ap (λ (es : List Event). event step (by_step r) ∷ es) (recorded_steps cs ds rs (omega arith))

module _ (P : Answer → Type 0) (Q : Stepping → Type 0) (f : (r : Stepping) → P (by_step r) → Q r) where
  each_answer : (rs : List Stepping) → AllByRecursion P (map by_step rs) → AllByRecursion Q rs
  each_answer [] h = tt
  each_answer (r ∷ rs) h = (f r h.0, each_answer rs h.1)

  all_answers : (rs : List Stepping) → AllByRecursion P (map by_step rs) → All Q rs
  all_answers rs h = All-from_recursion Q rs (each_answer rs h)

accepted_ok : (r : Stepping) → accepted (by_step r) ≡ true → is_ok r ≡ true
accepted_ok (Ok s) e = refl
accepted_ok (Err n) e = absurd (cc)

ok_accepted : (r : Result (Unit {0}) StartRefusal) → IsOk r → accepted (done_or start_refusal r) ≡ true
ok_accepted (Ok u) e = refl
ok_accepted (Err n) e = absurd (cc)

module _ (travel : Envelope) where
  commands_in : (P : Position → Type 0) (hs : Option Hulls) → ((p : Position) → travel.region p × InCertificate p hs → P p) → (r : Stepping) → CommandsWithin travel hs (by_step r) → CommandsIn P r
  commands_in P hs f (Ok WentOn) h = tt
  commands_in P hs f (Ok (Commanded p)) h = f p (h p refl)
  commands_in P hs f (Ok Ended) h = tt
  commands_in P hs f (Err n) h = tt

  -- ---- a start and then a tape of steps, after these calls
  module _ {S : Type 0} (past : List Event) (vs : List ℤ) (begun : Result (Unit {0}) StartRefusal) (cs ds : List S) (rs : List Stepping) (same : length ds ≡ length cs) where
    abbrev started : Event
    started = event (start vs) (done_or start_refusal begun)

    law_after : Lawful travel past (started ∷ recorded stepped cs ds rs) → Lawful travel (started ∷ past) (map (event step) (map by_step (take (length cs) rs)))
    law_after law = subst (Lawful travel (started ∷ past)) (recorded_steps cs ds rs same) law.1

    steps_ok : Lawful travel past (started ∷ recorded stepped cs ds rs) → IsOk begun → AllPass is_ok (take (length cs) rs)
    steps_ok law ok =
        let goes = begun_goes travel past vs _ (ok_accepted begun ok) in
        all_answers (λ a. accepted a ≡ true) (λ r. is_ok r ≡ true) accepted_ok (take (length cs) rs) (steps_accepted travel (started ∷ past) _ goes (law_after law))

    pub steps_in : (P : Position → Type 0) (hs : Option Hulls) → certificate_after past ≡ hs → ((p : Position) → travel.region p × InCertificate p hs → P p)
        → Lawful travel past (started ∷ recorded stepped cs ds rs) → All (CommandsIn P) (take (length cs) rs)
    steps_in P hs e f law = all_answers (CommandsWithin travel hs) (CommandsIn P) (commands_in P hs f) (take (length cs) rs) (steps_inside travel hs (started ∷ past) _ e (law_after law))

  -- ---- after any calls
  pub steps_kept : {S : Type 0} (es : List Event) (vs : List ℤ) (begun : Result (Unit {0}) StartRefusal) (cs ds : List S) (rs : List Stepping) → length ds ≡ length cs
      → Lawful travel [] (es ++ (event (start vs) (done_or start_refusal begun) ∷ recorded stepped cs ds rs))
      → After travel (reverse es) (λ now. AnswersStart now vs (done_or start_refusal begun)) × (IsOk begun → AllPass is_ok (take (length cs) rs)) × All (CommandsIn travel.region) (take (length cs) rs)
  steps_kept es vs begun cs ds rs same law =
      let after = lawful_rest travel [] es (event (start vs) (done_or start_refusal begun) ∷ recorded stepped cs ds rs) law in
      let begins = subst (λ (past : List Event). After travel past (λ now. AnswersStart now vs (done_or start_refusal begun))) (later_reverse es) after.0 in
      (begins, steps_ok (later [] es) vs begun cs ds rs same after, steps_in (later [] es) vs begun cs ds rs same travel.region _ refl (λ p h. h.0) after)
