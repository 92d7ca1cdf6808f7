-- A line that was read has numbers within the limit only, and the table answers for it.
use Rattle.std.proofs.Common.{◌≡◌, false, leb, length, Ok, sym, rules}
use Rattle.grammar.proofs.Written.{read_written}
use Rattle.program.specs.Held.{held}
use Rattle.program.specs.Limits.{max_lines}
use Rattle.program.specs.Refusals.{push_answer}
use Rattle.program.proofs.Taken.{answered_by_table}
use Rattle.program.proofs.table.Program.line.Goals as goal

pub push-requires : goal.push-requires
push-requires c = read_written c.args.text.now c.in_ok-line.line c.in_ok-line.ensures.law

pub returns-clause-says : goal.returns-clause-says
returns-clause-says c =
    let xs = held c.args.self.now in
    let room : leb max_lines (length xs) ≡ false = search rules in
    let put : push_answer xs c.in_ok-line.line ≡ Ok tt = search rules in
    sym (answered_by_table xs c.args.text.now c.in_ok-line.line (Ok tt) room (sym c.in_ok-line.ensures.is) put)
