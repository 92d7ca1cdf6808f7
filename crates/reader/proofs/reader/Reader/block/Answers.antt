use Rattle.grammar.specs.Combinators.{expect}
use Rattle.grammar.specs.Tests.{digits}
use Rattle.grammar.specs.Parser.{block, block_word, block_rest, after_label}
use Rattle.reader.proofs.Chains.{parses_then, parses_stop, parses_expected, parses_refused}
use Rattle.reader.proofs.reader.Reader.block.Goals as goal

pub returns-in_err-word : goal.returns-in_err-word
returns-in_err-word c =
    parses_refused block _ _ _ _ c.from_residual-in_err-word.ensures.1 (parses_then (expect (digits 1 9999)) after_label _ _ _ _ _ c.in_ok-n.ensures.parses
    (parses_stop (expect block_word) (block_rest c.in_ok-n.n) _ _ _ (parses_expected block_word _ _ _ c.in_err-word.ensures)))

pub returns : goal.returns
returns c = parses_then (expect (digits 1 9999)) after_label _ _ _ _ _ c.in_ok-n.ensures.parses
    (parses_then (expect block_word) (block_rest c.in_ok-n.n) _ _ _ _ _ (parses_expected block_word _ _ _ c.in_ok-word.ensures)
    c.block_rest.ensures)
