-- What is answered is written, and what is left is answered on the table that stands.
use Rattle.std.proofs.Common.{◌≡◌, length}
use Rattle.console.specs.Lines.{lines_of}
use Rattle.desk.proofs.Writing.{Going}
use Rattle.desk.proofs.stretch.write_answers.Given as goal

abbrev pub invariant-loop-next : goal.invariant-loop-next
invariant-loop-next g l = record {
  going : Going l.script l.stretch.read l.stretch.text.now l.initial.table l.table (g.W.Write.contents l.fn.writer) (g.W.Write.contents l.stretch.writer.now);
  lent : l.stretch.writer.ghost_name ≡ l.initial.stretch.writer.ghost_name;
}

abbrev pub decreases-loop-next : goal.decreases-loop-next
decreases-loop-next g l = length (lines_of l.stretch.text.now)
