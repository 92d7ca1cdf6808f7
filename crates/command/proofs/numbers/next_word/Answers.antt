use Rattle.std.proofs.Common.{◌≡◌, ◌≤◌, length, get_or, ◌∙◌, rules}
use Rattle.command.proofs.Blanks.{after_blank, cut_at}
use Rattle.command.proofs.numbers.next_word.Goals as goal

pub returns : goal.returns
returns c =
    let some : 1 ≤ length c.args.text.now = search rules in
    let blank : get_or c.args.text.now 0 0 ≡ 32 = search rules in
    after_blank _ some blank ∙ cut_at _ _ c.len_until-n.ensures.is
