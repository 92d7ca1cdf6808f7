use Rattle.std.proofs.Common.{◌≡◌, ap, ◌∙◌, rules}
use Rattle.grammar.specs.Tests.{only, tried, outcome}
use Rattle.reader.proofs.Chains.{parses_leaf}
use Rattle.reader.proofs.reader.Reader.keyword.Goals as goal

pub returns : goal.returns
returns c =
    let x = c.expect.ensures in
    let e : x.taken.tested ≡ tried (only c.args.k) x.item.symbol = search rules in
    parses_leaf (only c.args.k) _ x.item _ _ x.takes (x.taken.is ∙ ap (λ t. outcome t x.item.place) e)
