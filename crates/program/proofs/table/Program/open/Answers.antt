-- A line more, and the block that it opens.
use Rattle.std.proofs.Common.{sym}
use Rattle.program.specs.Held.{held}
use Rattle.program.proofs.Growth.{taken_line, opens, says_opened}
use Rattle.program.proofs.Written.{written_more}
use Rattle.program.proofs.table.Program.open.Goals as goal

pub invariant_of-self : goal.invariant_of-self
invariant_of-self c =
    let p = c.args.self.now in
    let says = says_opened p c.args.kind _ c.args.condition _ c.block_number.ensures.is (sym c.if-is_some.ensures) (sym c.if-is_full.ensures) in
    record {
      taken = rw c.push-2.ensures (taken_line p _ _ c.requires.room c.requires.role says);
      written = rw c.push-2.ensures (written_more (held p) c.args.line p.written c.requires.written);
      agrees = rw (c.push-2.ensures, c.push.ensures, c.len-first.ensures) (opens p _ _ _ _ _ c.requires.role c.block_number.ensures.is (sym c.if-is_some.ensures));
    }

pub returns-clause-says : goal.returns-clause-says
returns-clause-says c = says_opened c.args.self.now c.args.kind _ c.args.condition _ c.block_number.ensures.is (sym c.if-is_some.ensures) (sym c.if-is_full.ensures)
