use Rattle.grammar.specs.Combinators.{expect}
use Rattle.grammar.specs.Parser.{term, term_first, term_rest}
use Rattle.reader.proofs.Chains.{parses_then, parses_stop, parses_expected, parses_refused}
use Rattle.reader.proofs.reader.Reader.term.Goals as goal

pub returns-in_err-start : goal.returns-in_err-start
returns-in_err-start c =
    parses_refused term _ _ _ _ c.from_residual.ensures.1 (parses_stop (expect term_first) term_rest _ _ _ (parses_expected term_first _ _ _ c.in_err-start.ensures))

pub returns : goal.returns
returns c = parses_then (expect term_first) term_rest _ _ _ _ _ (parses_expected term_first _ _ _ c.in_ok-start.ensures) c.term_rest.ensures
