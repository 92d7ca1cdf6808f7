-- The lines that are read are played, noted and written, and none of them sets up a table.
use Rattle.std.proofs.Common.{◌≡◌, length}
use Rattle.std.specs.Io.KnownBytes.{Appends}
use Rattle.session.specs.Memory.{memory}
use Rattle.calls.proofs.Played.{Played}
use Rattle.desk.specs.Stretches.{NoTable, asked, events_in}
use Rattle.desk.specs.Written.{noted, answer_lines, LinesRead}
use Rattle.desk.proofs.stretch.StretchCalls.play.Given as goal

abbrev pub invariant-loop-line : goal.invariant-loop-line
invariant-loop-line g l = record {
  played : Played g.T.Travel.envelope l.fn.session.travel l.session.travel (memory l.fn.session) (memory l.session) (events_in (noted l.self.played.items));
  read : LinesRead l.fn.self.read l.self.read l.fn.self.text.now l.self.text.now (asked (noted l.self.played.items));
  plain : NoTable (asked (noted l.self.played.items));
  written : Appends (g.W.Write.contents l.fn.self.writer.now) (g.W.Write.contents l.self.writer.now) (answer_lines (noted l.self.played.items));
  lent : l.self.writer.ghost_name ≡ l.fn.self.writer.ghost_name;
}

abbrev pub decreases-loop-line : goal.decreases-loop-line
decreases-loop-line g l = length l.self.text.now
