use Rattle.std.proofs.Common.{ap, sym, ◌∙◌}
use Rattle.model.specs.Values.{operand, register_of}
use Rattle.model.specs.declared.expression.Operand.TheVariants.{Register}
use Rattle.model.proofs.Registers.{register_same}
use Rattle.model.proofs.expression.OperandFromTerm.from.Goals as goal

pub returns-in-Parameter : goal.returns-in-Parameter
returns-in-Parameter c =
    ap Register (register_same c.into.result (register_of c.in-Parameter.p) c.into.ensures) ∙ ap operand (sym c.in-Parameter.is)
