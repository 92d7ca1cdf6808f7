use Rattle.grammar.specs.declared.symbol.Keyword.TheVariants.{Close}
use Rattle.grammar.specs.Combinators.{expect, pure}
use Rattle.grammar.specs.Tests.{only}
use Rattle.grammar.specs.Parser.{bracket, term, operator, after_first, after_op, after_second}
use Rattle.reader.proofs.Chains.{parses_then, parses_stop, parses_pure, parses_expected, parses_refused}
use Rattle.reader.proofs.reader.Reader.bracket.Goals as goal
use Rattle.grammar.specs.Grammar.{applied}

pub returns-in_err-a : goal.returns-in_err-a
returns-in_err-a c =
    parses_refused bracket _ _ _ _ c.from_residual.ensures.1 (parses_stop term after_first _ _ _ c.in_err-a.ensures)

pub returns-in_err-o : goal.returns-in_err-o
returns-in_err-o c =
    parses_refused bracket _ _ _ _ c.from_residual-in_err-o.ensures.1 (parses_then term after_first _ _ _ _ _ c.in_ok-a.ensures
    (parses_stop (expect operator) (after_op c.in_ok-a.a) _ _ _ (parses_expected operator _ _ _ c.in_err-o.ensures)))

pub returns-in_err-b : goal.returns-in_err-b
returns-in_err-b c =
    parses_refused bracket _ _ _ _ c.from_residual-in_err-b.ensures.1 (parses_then term after_first _ _ _ _ _ c.in_ok-a.ensures
    (parses_then (expect operator) (after_op c.in_ok-a.a) _ _ _ _ _ (parses_expected operator _ _ _ c.in_ok-o.ensures)
    (parses_stop term (after_second c.in_ok-a.a c.in_ok-o.o) _ _ _ c.in_err-b.ensures)))

pub returns-in_err-keyword : goal.returns-in_err-keyword
returns-in_err-keyword c =
    parses_refused bracket _ _ _ _ c.from_residual-in_err-keyword.ensures.1 (parses_then term after_first _ _ _ _ _ c.in_ok-a.ensures
    (parses_then (expect operator) (after_op c.in_ok-a.a) _ _ _ _ _ (parses_expected operator _ _ _ c.in_ok-o.ensures)
    (parses_then term (after_second c.in_ok-a.a c.in_ok-o.o) _ _ _ _ _ c.in_ok-b.ensures
    (parses_stop (expect (only Close)) (λ _. pure (applied c.in_ok-o.o c.in_ok-a.a c.in_ok-b.b)) _ _ _ c.in_err-keyword.ensures))))

pub returns : goal.returns
returns c = parses_then term after_first _ _ _ _ _ c.in_ok-a.ensures
    (parses_then (expect operator) (after_op c.in_ok-a.a) _ _ _ _ _ (parses_expected operator _ _ _ c.in_ok-o.ensures)
    (parses_then term (after_second c.in_ok-a.a c.in_ok-o.o) _ _ _ _ _ c.in_ok-b.ensures
    (parses_then (expect (only Close)) (λ _. pure (applied c.in_ok-o.o c.in_ok-a.a c.in_ok-b.b)) _ _ _ _ _ c.in_ok-keyword.ensures
    (parses_pure _ _))))
