use Rattle.std.proofs.Common.{◌∙◌, w32, w64, SFits}
use Rattle.std.proofs.lemmas.Int.{to_z-of_z}
use Rattle.intervals.specs.Results.{least, greatest}
use Rattle.intervals.specs.Same.{ends_same}
use Rattle.intervals.specs.Products.{four_same}
use Rattle.intervals.proofs.Bits.{lo_lies, hi_lies, lies_fits, lies_narrow}
use Rattle.intervals.proofs.interval.Interval.products.Goals as goal

pub returns : goal.returns
returns c =
    let self-lo : SFits w32 c.args.self.lo = lies_narrow _ (lo_lies c.args.self) in
    let self-hi : SFits w32 c.args.self.hi = lies_narrow _ (hi_lies c.args.self) in
    let other-lo : SFits w32 c.args.other.lo = lies_narrow _ (lo_lies c.args.other) in
    let other-hi : SFits w32 c.args.other.hi = lies_narrow _ (hi_lies c.args.other) in
    let wide-self-lo : SFits w64 c.args.self.lo = lies_fits _ (lo_lies c.args.self) in
    let wide-self-hi : SFits w64 c.args.self.hi = lies_fits _ (hi_lies c.args.self) in
    let wide-other-lo : SFits w64 c.args.other.lo = lies_fits _ (lo_lies c.args.other) in
    let wide-other-hi : SFits w64 c.args.other.hi = lies_fits _ (hi_lies c.args.other) in
    let fa : SFits w64 c.apply-a.result = record { sfits = c.apply-a.type_inv } in
    let fb : SFits w64 c.apply-b.result = record { sfits = c.apply-b.type_inv } in
    let fc : SFits w64 c.apply-c.result = record { sfits = c.apply-c.type_inv } in
    let fd : SFits w64 c.apply-d.result = record { sfits = c.apply-d.type_inv } in
    let fl : SFits w64 c.least.result = record { sfits = c.least.type_inv } in
    let fg : SFits w64 c.greatest.result = record { sfits = c.greatest.type_inv } in
    let a = simp to_z-of_z at c.apply-a.ensures in
    let b = simp to_z-of_z at c.apply-b.ensures in
    let d = simp to_z-of_z at c.apply-c.ensures in
    let e = simp to_z-of_z at c.apply-d.ensures in
    ends_same _ _
    (to_z-of_z w64 c.least.result fl ∙ ((simp to_z-of_z at c.least.ensures) ∙ four_same least _ _ _ _ _ _ _ _ a b d e))
    (to_z-of_z w64 c.greatest.result fg ∙ ((simp to_z-of_z at c.greatest.ensures) ∙ four_same greatest _ _ _ _ _ _ _ _ a b d e))
