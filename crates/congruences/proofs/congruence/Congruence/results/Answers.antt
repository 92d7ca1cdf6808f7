use Rattle.std.proofs.Common.{arith}
use Rattle.congruences.proofs.Sizes.{modulus_small}
use Rattle.congruences.proofs.congruence.Congruence.results.Goals as goal

pub settled-requires : goal.settled-requires
settled-requires c = let e = c.modulus_of.ensures in let s = modulus_small c.args.op c.args.self c.args.other in omega arith
