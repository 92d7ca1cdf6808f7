use Rattle.std.proofs.Common.{w32, SFits, rules}
use Rattle.std.proofs.lemmas.Int.{to_z-of_z}
use Rattle.command.proofs.Counts.{first_number}
use Rattle.command.proofs.numbers.next_number.Goals as goal

pub returns : goal.returns
returns c =
    let fits : SFits w32 c.in_ok-number.field-0 = search rules in
    simp to_z-of_z (first_number _ _ _ _ c.in_ok-word.ensures c.in_ok-number.ensures.is)
