-- The first block that has the label, or none.
use Rattle.std.proofs.Common.{rules}
use Rattle.program.specs.Held.{held_blocks}
use Rattle.program.proofs.Lookup.{First, block_total, number_is}
use Rattle.program.proofs.table.Program.block_number.Goals as goal

pub returns : goal.returns
returns c =
    let first : First c.args.label (held_blocks c.args.self.now) c.position.result = search rules in
    let total = block_total c.args.self.now in
    record { is = number_is c.args.self.now _ _ first; within = search rules }
