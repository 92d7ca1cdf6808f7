use Rattle.std.proofs.Common.{◌≡◌, ◌∙◌, ap, option_map, ℕ, ◌+◌, rules, tests, sym}
use Rattle.std.proofs.lemmas.Iterator.{YieldsList-from_slice, YieldsList-from_zip}
use Rattle.std.proofs.lemmas.Iterator.Consumers.{YieldsList-at}
use Rattle.std.proofs.lemmas.Iterator.Search.{position_from_yields_List}
use Rattle.session.proofs.Outside.{is_outside, outside_found, counted_on}
use Rattle.session.proofs.ranges.Ranges.lowest_outside.Goals as goal

pub returns : goal.returns
returns c =
    let second : c.zip.result.b.rest.now ≡ c.args.values.now = c.zip.ensures.second.0 in
    let pairs = YieldsList-from_zip (YieldsList-at c.zip.ensures.first (YieldsList-from_slice c.args.self.now.each c.iter.ensures.rest)) (YieldsList-from_slice c.args.values.now second) in
    let found = position_from_yields_List is_outside c.position.new.self _ c.position.result c.position.ensures.ran pairs (λ x b q k. search (rules, tests)) in
    let mapped : c.map.result ≡ option_map (λ (k : ℕ). k + 1) c.position.result = search rules in
    mapped ∙ (ap (option_map (λ (k : ℕ). k + 1)) found ∙ (counted_on _ _ ∙ sym (outside_found 1 c.args.self.now.each c.args.values.now)))
