-- The accepted ranges are played, and those that are left are behind them.
use Rattle.std.proofs.Common.{◌≡◌, ◌+◌, ◌<◌, ◌≤◌, [], length, drop}
use Rattle.session.specs.Memory.{memory}
use Rattle.calls.proofs.Played.{Played}
use Rattle.console.specs.Asked.{asked_ranges, program_lines, allow_events}
use Rattle.console.specs.Lines.{lines_of}
use Rattle.console.specs.Played.{answers}
use Rattle.console.proofs.played.RangesOfCalls.play.Given as goal

abbrev pub invariant-loop-line : goal.invariant-loop-line
invariant-loop-line g l = record {
  played : Played g.T.Travel.envelope l.fn.session.travel l.session.travel (memory l.fn.session) (memory l.session) (allow_events (asked_ranges (lines_of l.fn.self.text.now)) (answers l.accepted []));
  rest : drop l.accepted (asked_ranges (lines_of l.fn.self.text.now)) ≡ asked_ranges (lines_of l.rest);
  behind : program_lines (lines_of l.fn.self.text.now) ≡ program_lines (lines_of l.rest);
  few : l.accepted < length (asked_ranges (lines_of l.fn.self.text.now)) + 1;
  room : l.accepted + length l.rest ≤ length l.fn.self.text.now;
}

abbrev pub decreases-loop-line : goal.decreases-loop-line
decreases-loop-line g l = length l.rest
