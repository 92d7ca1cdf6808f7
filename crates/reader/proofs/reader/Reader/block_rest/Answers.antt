use Rattle.model.specs.declared.line.Line.TheVariants.{While as WhileLine, If as IfLine}
use Rattle.grammar.specs.Combinators.{ends}
use Rattle.grammar.specs.Parser.{condition, block_rest}
use Rattle.reader.proofs.Chains.{parses_then, parses_stop, parses_by, parses_refused}
use Rattle.reader.proofs.reader.Reader.block_rest.Goals as goal

pub returns-in_err-condition-in-While : goal.returns-in_err-condition-in-While
returns-in_err-condition-in-While c =
    parses_refused (block_rest c.args.label c.args.word) _ _ _ _ c.from_residual.ensures.1 (parses_by (block_rest c.args.label) _ _ _ _ _ c.in-While.is (parses_stop condition (λ x. ends (WhileLine c.args.label x)) _ _ _ c.in_err-condition-in-While.ensures))

pub returns-in_ok-condition-in-While : goal.returns-in_ok-condition-in-While
returns-in_ok-condition-in-While c = parses_by (block_rest c.args.label) _ _ _ _ _ c.in-While.is (parses_then condition (λ x. ends (WhileLine c.args.label x)) _ _ _ _ _ c.in_ok-condition-in-While.ensures
    c.ends.ensures)

pub returns-in_err-condition-in-If : goal.returns-in_err-condition-in-If
returns-in_err-condition-in-If c =
    parses_refused (block_rest c.args.label c.args.word) _ _ _ _ c.from_residual-in_err-condition-in-If.ensures.1 (parses_by (block_rest c.args.label) _ _ _ _ _ c.in-If.is (parses_stop condition (λ x. ends (IfLine c.args.label x)) _ _ _ c.in_err-condition-in-If.ensures))

pub returns-in_ok-condition-in-If : goal.returns-in_ok-condition-in-If
returns-in_ok-condition-in-If c = parses_by (block_rest c.args.label) _ _ _ _ _ c.in-If.is (parses_then condition (λ x. ends (IfLine c.args.label x)) _ _ _ _ _ c.in_ok-condition-in-If.ensures
    c.ends-in-If.ensures)
