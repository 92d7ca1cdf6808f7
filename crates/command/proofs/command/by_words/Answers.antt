-- The first word chooses, if it is one.
use Rattle.std.proofs.Common.{◌≡◌, None, option_map, ap, ◌∙◌, rules}
use Rattle.command.specs.Commands.{meant}
use Rattle.command.proofs.Choosing.{by_word}
use Rattle.command.proofs.command.by_words.Goals as goal

pub returns-in_err-word : goal.returns-in_err-word
returns-in_err-word c =
    let none : c.from_residual.result ≡ None = search rules in
    ap (option_map meant) none ∙ by_word _ _ c.len_until-n.ensures.is c.len_until-n.ensures.within _ c.in_err-word.ensures

pub returns : goal.returns
returns c = c.command_by.ensures ∙ by_word _ _ c.len_until-n.ensures.is c.len_until-n.ensures.within _ c.in_ok-word.ensures
