-- What a step answers, a dry run comes to.
use Rattle.std.proofs.Common.{sym}
use Rattle.program.specs.Held.{held}
use Rattle.runner.proofs.Dried.{tried_on, tried_over, tried_fault, tried_inside, tried_left}
use Rattle.runner.proofs.dry.try_step.Goals as goal

pub returns-in-Ok-WentOn-clause-plain : goal.returns-in-Ok-WentOn-clause-plain
returns-in-Ok-WentOn-clause-plain g c = λ h.
    let on = rw c.in-Ok-WentOn.field-0-is at (c.in-Ok-WentOn.ensures.plain h) in
    tried_on (held c.args.program.now) _ c.args.run.now c.step.new.self on

pub returns-in-Ok-Ended-clause-plain : goal.returns-in-Ok-Ended-clause-plain
returns-in-Ok-Ended-clause-plain g c = λ h.
    let over = rw c.in-Ok-Ended.field-0-is at (c.in-Ok-Ended.ensures.plain h) in
    tried_over (held c.args.program.now) _ c.args.run.now c.step.new.self over

pub returns-in-Ok-Fault-clause-plain : goal.returns-in-Ok-Fault-clause-plain
returns-in-Ok-Fault-clause-plain g c =
    rw c.stopped-in-Ok-Fault.ensures
    (λ h.
    let faults = rw c.in-Ok-Fault.field-0-is at (c.in-Ok-Fault.ensures.plain h) in
    tried_fault (held c.args.program.now) _ c.args.run.now c.step.new.self _ c.number_under-line.ensures faults)

pub returns-in_err-lowest_broken-in-Ok-Commanded-clause-plain : goal.returns-in_err-lowest_broken-in-Ok-Commanded-clause-plain
returns-in_err-lowest_broken-in-Ok-Commanded-clause-plain g c =
    let inside = sym c.in_err-lowest_broken-in-Ok-Commanded.ensures in
    rw c.from_residual.ensures
    (λ h.
    let commands = rw c.in-Ok-Commanded.field-0-is at (c.in-Ok-Commanded.ensures.plain h) in
    tried_inside (held c.args.program.now) _ c.args.run.now c.step.new.self _ inside commands)

pub returns-in_ok-lowest_broken-in-Ok-Commanded-clause-plain : goal.returns-in_ok-lowest_broken-in-Ok-Commanded-clause-plain
returns-in_ok-lowest_broken-in-Ok-Commanded-clause-plain g c =
    let broken = sym c.in_ok-lowest_broken-in-Ok-Commanded.ensures in
    rw c.stopped.ensures
    (λ h.
    let commands = rw c.in-Ok-Commanded.field-0-is at (c.in-Ok-Commanded.ensures.plain h) in
    tried_left (held c.args.program.now) _ c.args.run.now c.step.new.self _ _ _ c.number_under-line.ensures broken commands)
