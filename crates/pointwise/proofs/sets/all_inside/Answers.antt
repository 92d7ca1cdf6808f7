use Rattle.std.proofs.Common.{rules, ◌≡◌, true, false}
use Rattle.std.proofs.lemmas.Iterator.{cases_from_all, YieldsList-from_slice, YieldsList-from_zip}
use borrow.Author.Tests.{tests}
use Rattle.model.specs.Environments.{registers}
use Rattle.pointwise.proofs.Loops.{every_pair}
use Rattle.pointwise.proofs.sets.all_inside.Goals as goal

pub returns : goal.returns
returns g c =
    let a = g.V.NumberSet.sets in
    let xs = c.args.inner.now in
    let ys = c.args.outer.now in
    every_pair a.inside xs ys registers a.whole c.all.result (search rules) (search rules)
    (cases_from_all c.all.new.self _ c.all.result (λ q. a.inside q.0 q.1 ≡ true) (λ q. a.inside q.0 q.1 ≡ false) c.all.ensures.ran (YieldsList-from_zip (YieldsList-from_slice xs cc) (YieldsList-from_slice ys cc))
    (λ x q k. search (rules, tests)) (λ x q k. search (rules, tests)))
