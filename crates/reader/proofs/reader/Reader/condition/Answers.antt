use Rattle.grammar.specs.declared.symbol.Keyword.TheVariants.{Open}
use Rattle.grammar.specs.Combinators.{expect}
use Rattle.grammar.specs.Tests.{only}
use Rattle.grammar.specs.Parser.{comparison}
use Rattle.reader.proofs.Chains.{parses_then}
use Rattle.reader.proofs.reader.Reader.condition.Goals as goal

pub returns : goal.returns
returns c = parses_then (expect (only Open)) (λ _. comparison) _ _ _ _ _ c.in_ok-keyword.ensures
    c.comparison.ensures
