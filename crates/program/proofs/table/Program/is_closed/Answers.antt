-- No block is open if the search for an open one finds none.
use Rattle.std.proofs.Common.{not, sym, ap, ◌∙◌}
use mathlib.Core.Bool.{not-not}
use Rattle.program.proofs.Lookup.{closed_if}
use Rattle.program.proofs.Nested.{closed_lines}
use Rattle.program.specs.Held.{held}
use Rattle.program.proofs.table.Program.is_closed.Goals as goal

pub returns : goal.returns
returns c =
    let is = sym (not-not c.is_none.result) ∙ ap not (sym c.is_none.ensures) ∙ closed_if c.args.self.now _ c.innermost.ensures in
    record { is = is; closed = λ e. closed_lines (held c.args.self.now) c.args.self.now.taken (sym is ∙ e) }
