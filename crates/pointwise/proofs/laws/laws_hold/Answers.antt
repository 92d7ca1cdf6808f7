use Rattle.pointwise.specs.StateExact.{state_loses_nothing}
use Rattle.pointwise.specs.StateLaws.{state_lawful}
use Rattle.pointwise.proofs.laws.laws_hold.Goals as goal

pub returns-clause-lawful : goal.returns-clause-lawful
returns-clause-lawful g c = state_lawful g.V.NumberSet.sets g.met.V.NumberSet.lawful

pub returns-clause-exact : goal.returns-clause-exact
returns-clause-exact g c = state_loses_nothing g.V.NumberSet.sets g.met.V.NumberSet.lawful g.met.V.NumberSet.exact
