use Rattle.std.proofs.Common.{refl}
use Rattle.sweep.proofs.Exactness.{exact_of as exactly}
use Rattle.session.proofs.Certified.{certified_secure, verdict_dry}
use Rattle.session.proofs.Same.{same_session}
use Rattle.session.proofs.session.Session.certify.Goals as goal

pub invariant_of-self : goal.invariant_of-self
invariant_of-self g c =
    let s = c.args.self.now in
    record { secure = certified_secure g.D.Domain.lattice s.program s.ranges _ _ c.in-Ok.certificate c.none-self.result _ c.each.ensures c.none-self.ensures c.in-Ok.ensures.verdict c.in-Ok.ensures.promised }

pub returns-in-Ok-clause-exact : goal.returns-in-Ok-clause-exact
returns-in-Ok-clause-exact g c = λ h.
    let s = c.args.self.now in
    verdict_dry g.D.Domain.lattice s.program s.ranges _ _ (exactly g.D.Domain.lattice (g.T.Travel.envelope s.travel) (g.met.T.Travel.lawful s.travel).proper h) (g.met.T.Travel.lawful s.travel).home_fits _ _ c.each.ensures c.certify-result.ensures.verdict

pub returns-in-Err-Uncertified-clause-exact : goal.returns-in-Err-Uncertified-clause-exact
returns-in-Err-Uncertified-clause-exact g c = λ h.
    let s = c.args.self.now in
    verdict_dry g.D.Domain.lattice s.program s.ranges _ _ (exactly g.D.Domain.lattice (g.T.Travel.envelope s.travel) (g.met.T.Travel.lawful s.travel).proper h) (g.met.T.Travel.lawful s.travel).home_fits _ _ c.each.ensures c.certify-result.ensures.verdict

pub returns-in-Err-Open-clause-exact : goal.returns-in-Err-Open-clause-exact
returns-in-Err-Open-clause-exact g c = λ h.
    let s = c.args.self.now in
    verdict_dry g.D.Domain.lattice s.program s.ranges _ _ (exactly g.D.Domain.lattice (g.T.Travel.envelope s.travel) (g.met.T.Travel.lawful s.travel).proper h) (g.met.T.Travel.lawful s.travel).home_fits _ _ c.each.ensures c.certify-result.ensures.verdict

pub returns-in-Err-Open-clause-untouched : goal.returns-in-Err-Open-clause-untouched
returns-in-Err-Open-clause-untouched g c = λ h. same_session _ c.args.self.now refl refl refl refl refl
