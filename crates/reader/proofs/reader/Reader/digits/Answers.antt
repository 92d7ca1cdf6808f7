use Rattle.std.proofs.Common.{◌≡◌, ap, ◌∙◌, rules}
use Rattle.grammar.specs.Tests.{digits, tried, outcome}
use Rattle.reader.proofs.Chains.{parses_leaf}
use Rattle.reader.proofs.reader.Reader.digits.Goals as goal

pub returns-clause-parses : goal.returns-clause-parses
returns-clause-parses c =
    let x = c.expect.ensures in
    let e : x.taken.tested ≡ tried (digits c.args.lo c.args.hi) x.item.symbol = search rules in
    parses_leaf (digits c.args.lo c.args.hi) _ x.item _ _ x.takes (x.taken.is ∙ ap (λ t. outcome t x.item.place) e)
