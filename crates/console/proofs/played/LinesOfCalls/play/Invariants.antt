-- The accepted lines are played, and those that are left are behind them.
use Rattle.std.proofs.Common.{◌≡◌, ◌+◌, ◌<◌, ◌≤◌, [], length, drop}
use Rattle.session.specs.Memory.{memory}
use Rattle.calls.proofs.Played.{Played}
use Rattle.console.specs.Asked.{line_events}
use Rattle.console.specs.Lines.{lines_of}
use Rattle.console.specs.Played.{answers}
use Rattle.console.proofs.played.LinesOfCalls.play.Given as goal

abbrev pub invariant-loop-text : goal.invariant-loop-text
invariant-loop-text g l = record {
  played : Played g.T.Travel.envelope l.fn.session.travel l.session.travel (memory l.fn.session) (memory l.session) (line_events (lines_of l.fn.self.text.now) (answers l.accepted []));
  rest : drop l.accepted (lines_of l.fn.self.text.now) ≡ lines_of l.rest;
  few : l.accepted < length (lines_of l.fn.self.text.now) + 1;
  room : l.accepted + length l.rest ≤ length l.fn.self.text.now;
}

abbrev pub decreases-loop-text : goal.decreases-loop-text
decreases-loop-text g l = length l.rest
