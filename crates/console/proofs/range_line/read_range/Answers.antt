use Rattle.std.proofs.Common.{◌∙◌}
use Rattle.console.proofs.RangeGrammar.{is_read, had}
use Rattle.console.proofs.range_line.read_range.Goals as goal

pub returns : goal.returns
returns c = record { is = c.parsed.ensures; reads = λ a h. c.parsed.ensures ∙ is_read _ a h; only = had _ _ c.parsed.ensures }
