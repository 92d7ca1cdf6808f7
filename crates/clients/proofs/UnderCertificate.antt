-- Steps under a certificate command within its ranges.
use Rattle.std.proofs.Common.{◌≡◌, ℕ, List, [], ◌∷◌, ◌++◌, length, take, reverse, Some, Ok, Err, IfOk, Result, ℤ, refl, subst}
use Rattle.std.specs.List.{All}
use Rattle.model.specs.Envelopes.{Envelope}
use Rattle.certify.specs.Certifies.{Answer as CertifyAnswer}
use Rattle.session.specs.Refusals.{start_refusal}
use Rattle.session.specs.Promises.{InHulls}
use Rattle.session.specs.declared.refusal.StartRefusal.{StartRefusal}
use Rattle.calls.specs.Law.{done_or, by_verdict, AnyDomain, Event, event, certify, start, After, AnswersCertify, Lawful}
use Rattle.calls.specs.Events.{recorded}
use Rattle.calls.proofs.Consequences.{later, lawful_rest, later_reverse}
use Rattle.clients.specs.Commands.{CommandsIn}
use Rattle.clients.specs.Lists.{Stepping, stepped}
use Rattle.clients.proofs.Steps.{steps_in}

module _ (travel : Envelope) {S : Type 0} (d : AnyDomain) (n : ℕ) (k : CertifyAnswer) (vs : List ℤ) (begun : Result (Unit {0}) StartRefusal) (cs ds : List S) (rs : List Stepping) (same : length ds ≡ length cs) where
  abbrev calls : CertifyAnswer → List Event
  calls j = event (certify d n) (by_verdict j) ∷ (event (start vs) (done_or start_refusal begun) ∷ recorded stepped cs ds rs)

  abbrev Within : CertifyAnswer → Type 0
  Within j = IfOk j (λ c. All (CommandsIn (λ p. InHulls p c.hulls)) (take (length cs) rs))

  within : (past : List Event) (j : CertifyAnswer) → Lawful travel past (calls j) → Within j
  within past (Ok c) law = steps_in travel (event (certify d n) (by_verdict (Ok c)) ∷ past) vs begun cs ds rs same (λ p. InHulls p c.hulls) (Some c.hulls) refl (λ p h. h.1) law.1
  within past (Err e) law = tt

  pub run_certified : (es : List Event) → Lawful travel [] (es ++ calls k) → After travel (reverse es) (λ now. AnswersCertify travel now d n (by_verdict k)) × Within k
  run_certified es law =
      let after = lawful_rest travel [] es (calls k) law in
      (subst (λ (past : List Event). After travel past (λ now. AnswersCertify travel now d n (by_verdict k))) (later_reverse es) after.0, within (later [] es) k after)
