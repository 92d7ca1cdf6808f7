use Rattle.command.proofs.Counts.{Read}
use Rattle.command.proofs.numbers.numbers.Given as goal

abbrev pub invariant-loop-value : goal.invariant-loop-value
invariant-loop-value g l = Read g.row.N l.value-index l.text l.rest l.value-items
