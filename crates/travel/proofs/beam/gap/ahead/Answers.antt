-- The sum of two coordinates fits 64 bits, so the test is that of whole numbers.
use Rattle.std.proofs.Common.{◌+ℤ◌, w32, w64, SFits, rules}
use Rattle.std.proofs.lemmas.Int.{to_z-of_z}
use Rattle.travel.proofs.beam.gap.ahead.Goals as goal

pub returns : goal.returns
returns c =
    let f : SFits w32 c.args.p.x = search rules in
    let g : SFits w32 c.args.p.u = search rules in
    let h : SFits w32 c.args.gap = search rules in
    let i : SFits w64 c.args.p.x = search rules in
    let j : SFits w64 c.args.p.u = search rules in
    let k : SFits w64 c.args.gap = search rules in
    let l : SFits w64 (c.args.p.x +ℤ c.args.gap) = search rules in
    simp to_z-of_z
