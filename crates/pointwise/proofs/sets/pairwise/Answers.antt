use Rattle.std.proofs.Common.{rules}
use Rattle.model.specs.Environments.{registers}
use Rattle.pointwise.proofs.Loops.{build_same}
use Rattle.pointwise.proofs.sets.pairwise.Goals as goal

pub returns : goal.returns
returns g c = λ f h. build_same _ c.from_fn.result registers c.from_fn.ensures.items.long (λ k d i. let w = c.from_fn.ensures.items.at k d i in h _ _ _ (search rules))
