use Rattle.std.proofs.Common.{rules}
use Rattle.command.proofs.Ends.{ends_first}
use Rattle.command.proofs.command.beam.Goals as goal

pub returns : goal.returns
returns c =
    let same = ends_first c.in_ok-lx.field-0 in
    search rules
