use Rattle.grammar.specs.declared.symbol.Keyword.TheVariants.{Equals}
use Rattle.model.specs.declared.line.Line.TheVariants.{Setting}
use Rattle.grammar.specs.Grammar.{parameter_of}
use Rattle.grammar.specs.Combinators.{expect, ends}
use Rattle.grammar.specs.Tests.{only, digits}
use Rattle.grammar.specs.Parser.{setting, value, after_number, after_equals}
use Rattle.reader.proofs.Chains.{parses_then, parses_stop, parses_same, parses_refused}
use Rattle.reader.proofs.reader.Reader.setting.Goals as goal

pub returns-in_err-keyword : goal.returns-in_err-keyword
returns-in_err-keyword c =
    parses_refused setting _ _ _ _ c.from_residual-in_err-keyword.ensures.1 (parses_then (expect (digits 1 6)) after_number _ _ _ _ _ c.in_ok-n.ensures.parses
    (parses_stop (expect (only Equals)) (after_equals c.in_ok-n.n) _ _ _ c.in_err-keyword.ensures))

pub returns-in_err-v : goal.returns-in_err-v
returns-in_err-v c =
    parses_refused setting _ _ _ _ c.from_residual-in_err-v.ensures.1 (parses_then (expect (digits 1 6)) after_number _ _ _ _ _ c.in_ok-n.ensures.parses
    (parses_then (expect (only Equals)) (after_equals c.in_ok-n.n) _ _ _ _ _ c.in_ok-keyword.ensures
    (parses_stop value (λ v. ends (Setting (parameter_of c.in_ok-n.n) v)) _ _ _ c.in_err-v.ensures)))

pub returns : goal.returns
returns c = parses_then (expect (digits 1 6)) after_number _ _ _ _ _ c.in_ok-n.ensures.parses
    (parses_then (expect (only Equals)) (after_equals c.in_ok-n.n) _ _ _ _ _ c.in_ok-keyword.ensures
    (parses_then value (λ v. ends (Setting (parameter_of c.in_ok-n.n) v)) _ _ _ _ _ c.in_ok-v.ensures
    (parses_same (λ p. ends (Setting p c.in_ok-v.v)) _ _ _ _ _ c.parameter_of.ensures c.ends.ensures)))
