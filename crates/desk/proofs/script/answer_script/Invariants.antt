-- The entries of the lines that are left, and the answers to come, go on with what is read and answered.
use Rattle.console.specs.Lines.{lines_of}
use Rattle.desk.proofs.Stretching.{Going}
use Rattle.desk.proofs.script.answer_script.Given as goal

abbrev pub invariant-loop-before : goal.invariant-loop-before
invariant-loop-before l = Going l.script l.before-iterator.count (lines_of l.before-iterator.iter.rest.now) l.initial.table l.table l.entries.items l.answers.items
