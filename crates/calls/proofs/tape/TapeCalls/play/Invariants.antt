-- The lists before n are played, and those from n on are as they were.
use Rattle.std.proofs.Common.{◌≡◌, take, drop}
use Rattle.session.specs.Memory.{memory}
use Rattle.calls.specs.Events.{recorded}
use Rattle.calls.specs.Loans.{SameLoan, EachLeft}
use Rattle.calls.proofs.Played.{Played}
use Rattle.calls.proofs.tape.TapeCalls.play.Given as goal

abbrev pub invariant-loop-n : goal.invariant-loop-n
invariant-loop-n g l = record {
  played : Played g.T.Travel.envelope l.fn.session.travel l.session.travel (memory l.fn.session) (memory l.session) (recorded g.C.Calls.events (take l.n l.fn.self.calls.now) l.self.calls.now l.self.answers.now);
  rest : drop l.n l.self.calls.now ≡ drop l.n l.fn.self.calls.now;
  calls : SameLoan l.fn.self.calls l.self.calls;
  answers : SameLoan l.fn.self.answers l.self.answers;
  each : EachLeft g.C.Calls.stays l.n l.fn.self.calls.now l.self.calls.now l.self.answers.now;
  later : drop l.n l.self.answers.now ≡ drop l.n l.fn.self.answers.now;
}
