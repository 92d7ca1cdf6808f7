use Rattle.std.proofs.Common.{◌≡◌, length, take}
use Rattle.certify.proofs.copied.copying.copy.Given as goal

abbrev pub invariant-loop-n : goal.invariant-loop-n
invariant-loop-n g l = (length l.places ≡ length l.fn.places) × (take l.n l.places ≡ take l.n (g.T.Travel.envelope l.travel).sides)
