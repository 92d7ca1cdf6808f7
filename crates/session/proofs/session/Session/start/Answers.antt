use Rattle.std.proofs.Common.{◌≡◌, ◌∙◌, sym, ap, is_none, false, rules, arith}
use Rattle.program.specs.Held.{held}
use Rattle.runner.specs.Drying.{start}
use Rattle.runner.specs.Plain.{run_at}
use Rattle.session.proofs.Beginning.{start_begins}
use Rattle.session.proofs.Standing.{start_secure}
use Rattle.session.proofs.session.Session.start.Goals as goal

pub invariant_of-self : goal.invariant_of-self
invariant_of-self g c =
    let s = c.args.self.now in
    let travel = g.T.Travel.envelope s.travel in
    let begins = start_begins travel.home s.ranges.each c.args.values (g.met.T.Travel.lawful s.travel).home_fits s.ranges.whole (omega arith) s.ranges.proper (sym c.lowest_outside.ensures ∙ c.in_default.is) in
    let certified : is_none s.certificate ≡ false = search rules in
    let begun : c.begin-self.result ≡ run_at 0 (start travel.home c.args.values) = c.begin-self.ensures ∙ ap (λ h. run_at 0 (start h c.args.values)) c.home.ensures in
    record { secure = start_secure (held s.program) travel s.ranges.each s.certificate s.run _ _ begun certified begins s.secure }
