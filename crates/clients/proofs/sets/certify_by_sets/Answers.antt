use Rattle.std.proofs.Common.{length}
use Rattle.model.specs.Environments.{registers}
use Rattle.domain.specs.Leading.{pair_loses_nothing}
use Rattle.domain.specs.Pairs.{pair}
use Rattle.pointwise.specs.StateExact.{state_loses_nothing}
use Rattle.pointwise.specs.StateLaws.{state_lawful, registers_named}
use Rattle.pointwise.specs.States.{pointwise}
use Rattle.clients.proofs.OneRun.{agree_twice}
use Rattle.clients.proofs.sets.certify_by_sets.Goals as goal

pub returns : goal.returns
returns g c =
    let old = c.args.list.now in
    let r = c.play_calls-before in
    let sets = g.met.V.NumberSet in
    let states = pointwise g.V.NumberSet.sets registers in
    let alone = state_loses_nothing g.V.NumberSet.sets sets.lawful sets.exact registers registers_named in
    let first = pair_loses_nothing registers states g.D.Domain.lattice (state_lawful g.V.NumberSet.sets sets.lawful registers registers_named) g.met.D.Domain.lawful alone in
    let es = g.C.Calls.events old.first r.new.calls.first r.result.0 in
    let dry = old.rest.rest.rest in
    let kept = agree_twice (g.T.Travel.envelope c.args.travel) dry.values dry.steps r.result.1.1.1 states (pair states g.D.Domain.lattice registers)
    (length old.rest.first.store.now) (length old.rest.rest.first.store.now) r.result.1.0 r.result.1.1.0 es r.ensures.law in
    record { alone = kept.one alone; first = kept.other first; stays = r.ensures.stays; law = r.ensures.law }
