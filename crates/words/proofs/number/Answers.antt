-- What is read is in the grammar, and what is in the grammar is read.
use Rattle.std.proofs.Common.{◌∙◌}
use Rattle.words.proofs.NumberGrammar.{number_read, only_number}
use Rattle.words.proofs.number.Goals as goal

pub returns : goal.returns
returns c = record { is = c.signed.ensures; reads = λ n h. c.signed.ensures ∙ number_read _ n h; only = only_number _ _ c.signed.ensures }
