-- Certify and dry agree on one run.
use Rattle.std.proofs.Common.{ℕ, List, [], ◌∷◌, ◌++◌, length, reverse, ℤ, Result, subst}
use Rattle.model.specs.Envelopes.{Envelope}
use Rattle.model.specs.Environments.{registers}
use Rattle.model.specs.declared.ending.Ending.{Ending}
use Rattle.certify.specs.Certifies.{Answer as Verdict}
use Rattle.domain.specs.Lattice.{Lattice, Meaning}
use Rattle.domain.specs.Tracking.{LosesNothing}
use Rattle.session.specs.declared.refusal.DryRefusal.{DryRefusal}
use Rattle.calls.specs.Law.{by_verdict, Event, After, Standing, standing, AnswersCertify, AgreesWithDry, AnswersDry, Agree, Lawful}
use Rattle.calls.specs.Events.{domain, by_dry}
use Rattle.calls.proofs.Consequences.{later, lawful_rest, later_reverse}
use Rattle.calls.proofs.Exact.{dries_one}
use Rattle.clients.specs.Exactness.{AgreesOnOneRun}
use Rattle.clients.specs.Lists.{certified, dried}

module _ (travel : Envelope) (vs : List ℤ) (steps : ℕ) (b : Result Ending DryRefusal) where
  abbrev Dries : List Event → Type 0
  Dries past = After travel past (λ now. AnswersDry travel now.program vs steps (by_dry b))

  -- so it does before a certify, which leaves the program
  before : {S : Type 0} {M : Meaning S} (l : Lattice M) (states : ℕ) (r : Verdict) (past : List Event) → Dries (certified l states r ∷ past) → Dries past
  before l states r past (lines, p, d) = (lines, record { is = p.is; only = p.only }, d)

  -- the dry run that the law speaks of is this one
  agrees_on : (now : Standing) (states : ℕ) (r : Verdict) → AgreesWithDry travel now states (by_verdict r) → AnswersDry travel now.program vs steps (by_dry b) → AgreesOnOneRun now states vs steps (by_verdict r) (by_dry b)
  agrees_on now states r agrees answered one each_line =
      let same = agrees vs one in
      let here : AnswersDry travel now.program vs (length now.program) (by_dry b) = subst (λ (n : ℕ). AnswersDry travel now.program vs n (by_dry b)) each_line answered in
      subst (Agree (by_verdict r)) (dries_one travel now.program vs (length now.program) same.1 here) same.2

  both : (states : ℕ) (r : Verdict) (past : List Event) → After travel past (λ now. AgreesWithDry travel now states (by_verdict r)) → Dries past
      → After travel past (λ now. AgreesOnOneRun now states vs steps (by_verdict r) (by_dry b))
  both states r past (lines, p, agrees) (others, q, dries) =
      let here : AnswersDry travel lines vs steps (by_dry b) = subst (λ xs. AnswersDry travel xs vs steps (by_dry b)) (p.only others q.is) dries in
      (lines, p, agrees_on (standing travel.home past lines) states r agrees here)

  -- ---- one certify
  module _ {S : Type 0} {M : Meaning S} (l : Lattice M) (states : ℕ) (r : Verdict) (es : List Event) where
    pub record OneVerdict (past : List Event) : Type 0 where
      pub judged : After travel past (λ now. AnswersCertify travel now (domain l) states (by_verdict r))
      pub dries : Dries past
      pub same : LosesNothing registers l → After travel past (λ now. AgreesOnOneRun now states vs steps (by_verdict r) (by_dry b))

    one_verdict : (past : List Event) → Lawful travel past (certified l states r ∷ (dried vs steps b ∷ [])) → OneVerdict past
    one_verdict past k =
        let c = k.0 in
        let d : Dries past = before l states r past k.1.0 in
        record { judged = c; dries = d; same = λ exact. both states r past (c.0, c.1, c.2.exact exact) d }

    pub agree : Lawful travel [] (es ++ (certified l states r ∷ (dried vs steps b ∷ []))) → OneVerdict (reverse es)
    agree law = subst OneVerdict (later_reverse es) (one_verdict (later [] es) (lawful_rest travel [] es _ law))

  -- ---- two certifies
  module _ {S U : Type 0} {M : Meaning S} {N : Meaning U} (l : Lattice M) (m : Lattice N) (n k : ℕ) (r u : Verdict) (es : List Event) where
    pub record TwoVerdicts (past : List Event) : Type 0 where
      pub one : LosesNothing registers l → After travel past (λ now. AgreesOnOneRun now n vs steps (by_verdict r) (by_dry b))
      pub other : LosesNothing registers m → After travel past (λ now. AgreesOnOneRun now k vs steps (by_verdict u) (by_dry b))

    -- a certify leaves program and ranges
    agrees_before : (past : List Event) → After travel (certified l n r ∷ past) (λ now. AgreesOnOneRun now k vs steps (by_verdict u) (by_dry b)) → After travel past (λ now. AgreesOnOneRun now k vs steps (by_verdict u) (by_dry b))
    agrees_before past (lines, p, a) = (lines, record { is = p.is; only = p.only }, λ one. a (record { closes = one.closes; straight = one.straight; values = one.values; enough = one.enough }))

    two_verdicts : (past : List Event) → Lawful travel past (certified l n r ∷ (certified m k u ∷ (dried vs steps b ∷ []))) → TwoVerdicts past
    two_verdicts past law =
        let between = certified l n r ∷ past in
        let second = one_verdict m k u es between law.1 in
        let c = law.0 in
        record {
          one = λ exact. both n r past (c.0, c.1, c.2.exact exact) (before l n r past second.dries);
          other = λ exact. agrees_before past (second.same exact);
        }

    pub agree_twice : Lawful travel [] (es ++ (certified l n r ∷ (certified m k u ∷ (dried vs steps b ∷ [])))) → TwoVerdicts (reverse es)
    agree_twice law = subst TwoVerdicts (later_reverse es) (two_verdicts (later [] es) (lawful_rest travel [] es _ law))
