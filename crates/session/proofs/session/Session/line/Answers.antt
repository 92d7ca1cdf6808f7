use Rattle.std.proofs.Common.{refl}
use Rattle.session.proofs.Same.{same_session}
use Rattle.session.proofs.session.Session.line.Goals as goal

pub returns-in_err-line-clause-untouched : goal.returns-in_err-line-clause-untouched
returns-in_err-line-clause-untouched g c = λ h. same_session _ c.args.self.now refl (c.in_err-line.ensures.same refl) refl refl refl
