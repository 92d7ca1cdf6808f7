-- A line more, and the blocks as they were.
use Rattle.std.proofs.Common.{refl}
use Rattle.program.specs.Held.{held}
use Rattle.program.proofs.Growth.{taken_line, keeps}
use Rattle.program.proofs.Written.{written_more}
use Rattle.program.proofs.table.Program.keep.Goals as goal

pub invariant_of-self : goal.invariant_of-self
invariant_of-self c =
    let p = c.args.self.now in
    record {
      taken = rw c.push.ensures (taken_line p _ _ c.requires.room c.requires.role refl);
      written = rw c.push.ensures (written_more (held p) c.args.line p.written c.requires.written);
      agrees = rw c.push.ensures (keeps p _ c.requires.role);
    }
