use Rattle.std.proofs.Common.{rules}
use Rattle.pointwise.proofs.state.merge.Goals as goal

pub returns-in-Some-Some : goal.returns-in-Some-Some
returns-in-Some-Some g c = λ f h. let e = c.pairwise.ensures f h in search rules
