-- Seven numbers are six values and a count, which is the last of them.
use Rattle.std.proofs.Common.{◌≡◌, get_or, pos, w32, SFits, rules}
use Rattle.std.proofs.lemmas.Int.{to_z-of_z}
use Rattle.command.specs.Words.{arguments}
use Rattle.command.proofs.DryRuns.{dries}
use Rattle.command.proofs.command.dry.Goals as goal

pub returns : goal.returns
returns c =
    let f0 : SFits w32 (get_or c.in_ok-v1.field-0 0 (pos 0)) = search rules in
    let f1 : SFits w32 (get_or c.in_ok-v1.field-0 1 (pos 0)) = search rules in
    let f2 : SFits w32 (get_or c.in_ok-v1.field-0 2 (pos 0)) = search rules in
    let f3 : SFits w32 (get_or c.in_ok-v1.field-0 3 (pos 0)) = search rules in
    let f4 : SFits w32 (get_or c.in_ok-v1.field-0 4 (pos 0)) = search rules in
    let f5 : SFits w32 (get_or c.in_ok-v1.field-0 5 (pos 0)) = search rules in
    let count : pos c.in_ok-ok.field-0 ≡ get_or c.in_ok-v1.field-0 6 (pos 0) = search rules in
    simp to_z-of_z (dries (arguments c.args.text.now) _ _ c.in_ok-v1.ensures count)
