-- The command stands alone exactly if no byte follows.
use Rattle.std.proofs.Common.{◌≡◌, cond, option_map, Some, None, ◌∙◌, rules}
use Rattle.command.specs.Commands.{meant}
use Rattle.command.proofs.Choosing.{alone_if}
use Rattle.command.proofs.command.alone.Goals as goal

pub returns : goal.returns
returns c =
    let given : option_map meant c.then_some.result ≡ cond c.is_empty.result (Some (meant c.args.command)) None = search rules in
    given ∙ alone_if _ _ _ c.is_empty.ensures
