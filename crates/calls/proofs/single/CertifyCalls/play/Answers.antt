use Rattle.std.proofs.Common.{length, refl}
use Rattle.model.specs.Environments.{registers}
use Rattle.domain.specs.Tracking.{LosesNothing}
use Rattle.program.specs.Held.{held}
use Rattle.program.proofs.Nested.{closed_lines}
use Rattle.session.specs.Memory.{memory}
use Rattle.calls.specs.Playing.{known}
use Rattle.calls.proofs.Exact.{agrees}
use Rattle.calls.proofs.single.CertifyCalls.play.Goals as goal

pub returns-clause-kept : goal.returns-clause-kept
returns-clause-kept g c =
    let s = c.args.session.now in
    let done = c.certify.ensures in
    let lattice = g.D.Domain.lattice in
    let exact = λ (h : LosesNothing registers lattice). agrees lattice (g.T.Travel.envelope s.travel) (known (memory s)) (length c.args.self.now.store.now) c.certify.result (closed_lines (held s.program) s.program.taken) done.verdict.is (done.exact h) in
    ((record { verdict = c.certify.result; the_verdict = done.verdict; promised = done.promised; is = refl; exact = exact }, tt), tt)
