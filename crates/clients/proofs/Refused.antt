-- A start after a wipe is refused for want of a certificate.
use Rattle.std.proofs.Common.{◌≡◌, ℕ, List, [], ◌∷◌, ◌++◌, ℤ, Ok, Err, Result, refl, ap, arith}
use Rattle.model.specs.Envelopes.{Envelope}
use Rattle.model.specs.Refusals.{Told}
use Rattle.session.specs.Refusals.{start_refusal}
use Rattle.session.specs.declared.refusal.StartRefusal.{StartRefusal}
use Rattle.session.specs.declared.refusal.StartRefusal.TheVariants.{Uncertified, Outside}
use Rattle.calls.specs.Law.{done, done_or, refused, Event, event, wipe, Lawful}
use Rattle.calls.proofs.Consequences.{later, lawful_rest, refused_after_wipe}
use Rattle.clients.specs.Lists.{started}

uncertified : (r : Result (Unit {0}) StartRefusal) → done_or start_refusal r ≡ refused (start_refusal Uncertified) → r ≡ Err Uncertified
uncertified (Ok u) e = absurd (cc)
uncertified (Err Uncertified) e = refl
uncertified (Err (Outside n)) e =
    let told : start_refusal (Outside n) ≡ start_refusal Uncertified = cc in
    let numbers : ◌≡◌ {A = ℕ} 42 41 = ap (λ (t : Told). t.number) told in
    absurd (omega arith)

pub start_refused : (travel : Envelope) (xs : List Event) (vs : List ℤ) (r : Result (Unit {0}) StartRefusal) → Lawful travel [] (xs ++ (event wipe done ∷ (started vs r ∷ []))) → r ≡ Err Uncertified
start_refused travel xs vs r law = uncertified r (refused_after_wipe travel (later [] xs) vs _ (lawful_rest travel [] xs _ law))
