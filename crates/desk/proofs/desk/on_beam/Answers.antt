use Rattle.std.proofs.Common.{◌≡◌, subst, to_z, of_z, w32, SFits, rules}
use Rattle.std.proofs.lemmas.Int.{to_z-of_z}
use Rattle.desk.specs.Scripts.{OnBeam}
use Rattle.desk.proofs.desk.on_beam.Goals as goal

pub returns : goal.returns
returns c =
    let fits : SFits w32 c.args.gap = c.ranges.gap in
    let gap : to_z w32 (of_z w32 c.args.gap) ≡ c.args.gap = simp to_z-of_z in
    subst (λ z. OnBeam c.args.ends z c.map.result) gap (search rules)
