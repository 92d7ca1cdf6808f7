use Rattle.std.proofs.Common.{◌+ℤ◌, ◌-ℤ◌, arith, w64, SFits}
use Rattle.std.proofs.lemmas.Int.{ints, to_z-of_z}
use Rattle.intervals.proofs.interval.Interval.below.Goals as goal

pub returns : goal.returns
returns c =
    let l = c.requires.0 in
    let h = c.requires.1 in
    let f : SFits w64 (c.args.other.hi -ℤ c.args.gap) = omega (arith, ints) in
    let g : SFits w64 (c.args.self.lo +ℤ c.args.gap) = omega (arith, ints) in
    grind (arith, to_z-of_z)
