use Rattle.grammar.specs.declared.symbol.Keyword.TheVariants.{Close}
use Rattle.grammar.specs.Combinators.{expect, pure}
use Rattle.grammar.specs.Tests.{only, relation}
use Rattle.grammar.specs.Parser.{comparison, term, after_left, after_rel, compared}
use Rattle.reader.proofs.Chains.{parses_then, parses_stop, parses_pure, parses_expected, parses_refused}
use Rattle.reader.proofs.reader.Reader.comparison.Goals as goal

pub returns-in_err-left : goal.returns-in_err-left
returns-in_err-left c =
    parses_refused comparison _ _ _ _ c.from_residual.ensures.1 (parses_stop term after_left _ _ _ c.in_err-left.ensures)

pub returns-in_err-rel : goal.returns-in_err-rel
returns-in_err-rel c =
    parses_refused comparison _ _ _ _ c.from_residual-in_err-rel.ensures.1 (parses_then term after_left _ _ _ _ _ c.in_ok-left.ensures
    (parses_stop (expect relation) (after_rel c.in_ok-left.left) _ _ _ (parses_expected relation _ _ _ c.in_err-rel.ensures)))

pub returns-in_err-right : goal.returns-in_err-right
returns-in_err-right c =
    parses_refused comparison _ _ _ _ c.from_residual-in_err-right.ensures.1 (parses_then term after_left _ _ _ _ _ c.in_ok-left.ensures
    (parses_then (expect relation) (after_rel c.in_ok-left.left) _ _ _ _ _ (parses_expected relation _ _ _ c.in_ok-rel.ensures)
    (parses_stop term (compared c.in_ok-left.left c.in_ok-rel.rel) _ _ _ c.in_err-right.ensures)))

pub returns-in_err-keyword : goal.returns-in_err-keyword
returns-in_err-keyword c =
    parses_refused comparison _ _ _ _ c.from_residual-in_err-keyword.ensures.1 (parses_then term after_left _ _ _ _ _ c.in_ok-left.ensures
    (parses_then (expect relation) (after_rel c.in_ok-left.left) _ _ _ _ _ (parses_expected relation _ _ _ c.in_ok-rel.ensures)
    (parses_then term (compared c.in_ok-left.left c.in_ok-rel.rel) _ _ _ _ _ c.in_ok-right.ensures
    (parses_stop (expect (only Close)) (λ _. pure (record { rel = c.in_ok-rel.rel; left = c.in_ok-left.left; right = c.in_ok-right.right })) _ _ _ c.in_err-keyword.ensures))))

pub returns : goal.returns
returns c = parses_then term after_left _ _ _ _ _ c.in_ok-left.ensures
    (parses_then (expect relation) (after_rel c.in_ok-left.left) _ _ _ _ _ (parses_expected relation _ _ _ c.in_ok-rel.ensures)
    (parses_then term (compared c.in_ok-left.left c.in_ok-rel.rel) _ _ _ _ _ c.in_ok-right.ensures
    (parses_then (expect (only Close)) (λ _. pure (record { rel = c.in_ok-rel.rel; left = c.in_ok-left.left; right = c.in_ok-right.right })) _ _ _ _ _ c.in_ok-keyword.ensures
    (parses_pure _ _))))
