use Rattle.grammar.specs.Combinators.{expect}
use Rattle.grammar.specs.Parser.{value, value_first, value_rest}
use Rattle.reader.proofs.Chains.{parses_then, parses_stop, parses_expected, parses_refused}
use Rattle.reader.proofs.reader.Reader.value.Goals as goal

pub returns-in_err-start : goal.returns-in_err-start
returns-in_err-start c =
    parses_refused value _ _ _ _ c.from_residual.ensures.1 (parses_stop (expect value_first) value_rest _ _ _ (parses_expected value_first _ _ _ c.in_err-start.ensures))

pub returns : goal.returns
returns c = parses_then (expect value_first) value_rest _ _ _ _ _ (parses_expected value_first _ _ _ c.in_ok-start.ensures)
    c.value_rest.ensures
