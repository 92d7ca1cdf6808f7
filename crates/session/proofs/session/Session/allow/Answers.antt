use Rattle.std.proofs.Common.{refl}
use Rattle.session.proofs.Same.{same_session}
use Rattle.session.proofs.session.Session.allow.Goals as goal

pub returns-in_err-allow-clause-untouched : goal.returns-in_err-allow-clause-untouched
returns-in_err-allow-clause-untouched g c = λ h. same_session _ c.args.self.now refl refl (c.in_err-allow.ensures.same refl) refl refl
