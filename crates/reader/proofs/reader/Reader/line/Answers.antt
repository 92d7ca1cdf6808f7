use Rattle.std.proofs.Common.{refl, rules}
use Rattle.model.specs.declared.line.Line.TheVariants.{Plain}
use Rattle.grammar.specs.Combinators.{expect}
use Rattle.grammar.specs.Parser.{line, line_first, line_rest}
use Rattle.reader.proofs.Chains.{parses_then, parses_stop, parses_leaf, parses_more, parses_refused, taken_by}
use Rattle.reader.proofs.Words.{some_symbol}
use Rattle.reader.proofs.reader.Reader.line.Goals as goal

pub returns-in_err-start : goal.returns-in_err-start
returns-in_err-start c =
    let s = some_symbol c.next-item.result.symbol (search rules) in
    parses_refused line _ _ _ _ c.from_residual.ensures.1 (parses_more Plain line_first line_rest _ c.next-item.result _ c.next-item.ensures s.0 _ _ s.1 refl (parses_stop (expect line_first) line_rest _ _ _ (parses_leaf line_first _ c.next-item.result _ _ c.next-item.ensures (taken_by line_first c.next-item.result _ c.in_err-start.ensures))))

pub returns : goal.returns
returns c =
    let s = some_symbol c.next-item.result.symbol (search rules) in
    parses_more Plain line_first line_rest _ c.next-item.result _ c.next-item.ensures s.0 _ _ s.1 refl (parses_then (expect line_first) line_rest _ _ _ _ _ (parses_leaf line_first _ c.next-item.result _ _ c.next-item.ensures (taken_by line_first c.next-item.result _ c.in_ok-start.ensures)) c.line_rest.ensures)
