use Rattle.std.proofs.Common.{Ok, refl, ap, ◌∙◌}
use Rattle.session.proofs.Same.{same_session}
use Rattle.session.proofs.Standing.{step_secure, steps_plainly, no_fault, commanded_inside, stays_put}
use Rattle.session.proofs.session.Session.step.Goals as goal

pub invariant_of-self : goal.invariant_of-self
invariant_of-self g c =
    let s = c.args.self.now in
    record { secure = step_secure _ _ s.ranges.each s.certificate s.run c.step.new.self c.step.result c.step.ensures.is c.step.ensures.plain s.secure }

pub returns-in_err-step-clause-untouched : goal.returns-in_err-step-clause-untouched
returns-in_err-step-clause-untouched g c = λ h.
    let s = c.args.self.now in
    same_session _ s refl refl refl refl (stays_put _ s.run c.step.new.self c.step.result _ c.step.ensures.is c.in_err-step.was)

pub unreachable-requires : goal.unreachable-requires
unreachable-requires g c =
    let s = c.args.self.now in
    no_fault _ _ s.ranges.each s.certificate s.run c.step.new.self c.step.result _ s.secure s.program.taken c.step.ensures.is c.step.ensures.plain c.in_ok-step.was c.in-Fault.is

pub returns-in-WentOn-clause-plain : goal.returns-in-WentOn-clause-plain
returns-in-WentOn-clause-plain g c =
    let s = c.args.self.now in
    steps_plainly _ _ s.ranges.each s.certificate s.run c.step.new.self c.step.result _ s.secure s.program.taken c.step.ensures.is c.step.ensures.plain (c.in_ok-step.was ∙ ap Ok c.in-WentOn.is)

pub returns-in-Commanded-clause-plain : goal.returns-in-Commanded-clause-plain
returns-in-Commanded-clause-plain g c =
    let s = c.args.self.now in
    steps_plainly _ _ s.ranges.each s.certificate s.run c.step.new.self c.step.result _ s.secure s.program.taken c.step.ensures.is c.step.ensures.plain (c.in_ok-step.was ∙ ap Ok c.in-Commanded.is)

pub returns-in-Commanded-clause-inside : goal.returns-in-Commanded-clause-inside
returns-in-Commanded-clause-inside g c =
    let s = c.args.self.now in
    commanded_inside _ _ s.ranges.each s.certificate s.run c.step.new.self c.step.result _ s.secure s.program.taken c.step.ensures.is c.step.ensures.plain c.in_ok-step.was (g.met.T.Travel.lawful s.travel) _ c.in-Commanded.is

pub returns-in-Ended-clause-plain : goal.returns-in-Ended-clause-plain
returns-in-Ended-clause-plain g c =
    let s = c.args.self.now in
    steps_plainly _ _ s.ranges.each s.certificate s.run c.step.new.self c.step.result _ s.secure s.program.taken c.step.ensures.is c.step.ensures.plain (c.in_ok-step.was ∙ ap Ok c.in-Ended.is)
