use Rattle.std.proofs.Common.{◌≡◌, nat_eq, ◌∙◌, rules, tests}
use Rattle.std.specs.Char.{to_ascii_uppercase}
use Rattle.std.proofs.lemmas.Iterator.{YieldsList-from_slice, YieldsList-from_zip}
use Rattle.std.proofs.lemmas.Iterator.Consumers.{YieldsList-at}
use Rattle.std.proofs.lemmas.Iterator.Search.{all_from_yields_List}
use Rattle.lexer.proofs.Spelling.{spells_zip}
use Rattle.lexer.proofs.keyword.is_keyword.Goals as goal

pub returns-then-s-w : goal.returns-then-s-w
returns-then-s-w c =
    let word : c.zip.result.b.rest.now ≡ c.args.w.now = c.zip.ensures.second.0 in
    let pairs = YieldsList-from_zip (YieldsList-at c.zip.ensures.first (YieldsList-from_slice c.args.s.now c.iter.ensures.rest)) (YieldsList-from_slice c.args.w.now word) in
    all_from_yields_List (λ p. nat_eq (to_ascii_uppercase p.0) p.1) c.all.new.self _ c.all.result c.all.ensures.ran pairs (λ x b q k. search (rules, tests)) ∙ spells_zip c.args.s.now c.args.w.now c.if-s-w.true
