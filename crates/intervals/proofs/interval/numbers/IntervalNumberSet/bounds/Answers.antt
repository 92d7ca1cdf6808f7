use Rattle.std.proofs.Common.{◌+ℤ◌, arith, w64, SFits, rules}
use Rattle.std.proofs.lemmas.Int.{to_z-of_z}
use Rattle.intervals.proofs.interval.numbers.IntervalNumberSet.bounds.Goals as goal

pub returns : goal.returns
returns c =
    let f : SFits w64 c.most_signed.result = search rules in
    let g : SFits w64 c.most_scaled.result = search rules in
    let s : SFits w64 (c.most_signed.result +ℤ c.most_scaled.result) = search rules in
    let h : SFits w64 c.args.c = search rules in
    grind (arith, to_z-of_z)
