use Rattle.std.proofs.Common.{refl}
use Rattle.session.proofs.session.Session.dry.Goals as goal

pub returns-clause-ending : goal.returns-clause-ending
returns-clause-ending g c = c.dry.ensures.plain (c.if-not-is_closed.ensures.closed refl)
