-- A line more, and the end of the innermost block.
use Rattle.std.proofs.Common.{sym}
use Rattle.program.specs.Held.{held}
use Rattle.program.proofs.Growth.{taken_line, closes}
use Rattle.program.proofs.Written.{written_more}
use Rattle.program.proofs.table.Program.end.Goals as goal

pub invariant_of-self : goal.invariant_of-self
invariant_of-self c =
    let p = c.args.self.now in
    record {
      taken = rw c.push.ensures (taken_line p _ _ c.requires.room c.requires.role (rw (sym c.in-Some.ensures.test)));
      written = rw c.push.ensures (written_more (held p) c.args.line p.written c.requires.written);
      agrees = rw (c.push.ensures, c.set.ensures, c.len.ensures, c.as_slice.ensures.is) (closes p _ _ _ _ c.requires.role c.in-Some.ensures.last.1 c.in-Some.ensures.last.0);
    }
