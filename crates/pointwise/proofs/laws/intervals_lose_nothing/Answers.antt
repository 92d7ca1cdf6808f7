use Rattle.model.specs.Environments.{registers}
use Rattle.domain.specs.Leading.{pair_loses_nothing}
use Rattle.intervals.specs.Intervals.{intervals}
use Rattle.intervals.specs.Laws.{intervals_lawful, intervals_exact}
use Rattle.pointwise.specs.StateExact.{state_loses_nothing}
use Rattle.pointwise.specs.StateLaws.{state_lawful, registers_named}
use Rattle.pointwise.specs.States.{pointwise}
use Rattle.pointwise.proofs.laws.intervals_lose_nothing.Goals as goal

pub returns-clause-alone : goal.returns-clause-alone
returns-clause-alone g c = state_loses_nothing intervals intervals_lawful intervals_exact registers registers_named

pub returns-clause-first : goal.returns-clause-first
returns-clause-first g c =
    pair_loses_nothing registers (pointwise intervals registers) g.B.Domain.lattice (state_lawful intervals intervals_lawful registers registers_named) g.met.B.Domain.lawful
    (state_loses_nothing intervals intervals_lawful intervals_exact registers registers_named)
