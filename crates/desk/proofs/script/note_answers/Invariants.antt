-- What is noted, with the answers that are left, is all answers; as many entries are left as answers.
use Rattle.std.proofs.Common.{◌≡◌, ◌++◌, length}
use Rattle.desk.specs.Stretches.{paired}
use Rattle.desk.proofs.script.note_answers.Given as goal

abbrev pub invariant-loop-entry : goal.invariant-loop-entry
invariant-loop-entry l = record {
  noted : l.answers.items ++ paired l.entry-iterator.a.rest.now l.entry-iterator.b.rest.now ≡ l.fn.answers.items ++ paired l.stretch.calls.now l.stretch.answers.now;
  left : length l.entry-iterator.b.rest.now ≡ length l.entry-iterator.a.rest.now;
}
