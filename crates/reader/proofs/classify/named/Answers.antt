use Rattle.std.proofs.Common.{◌≡◌, option_map, refl, ap, ◌∙◌, rules}
use Rattle.std.proofs.lemmas.Iterator.{YieldsList-from_slice}
use Rattle.std.proofs.lemmas.Iterator.Search.{find_from_yields_List}
use Rattle.lexer.specs.Keywords.{spells}
use Rattle.reader.specs.Tables.{first_spelled}
use Rattle.reader.proofs.Tables.{first_is}
use Rattle.reader.proofs.classify.named.Goals as goal

pub returns : goal.returns
returns g c =
    let found = find_from_yields_List (λ p. spells c.args.s.now p.0.now) _ _ c.find.result c.find.ensures.ran (YieldsList-from_slice c.iter.result.rest.now refl) (λ x b q k. search rules) in
    let second : c.map.result ≡ option_map (λ x. x.now.1) c.find.result = search rules in
    second ∙ first_is c.args.s.now c.iter.result.rest.now c.find.result found ∙ ap (first_spelled c.args.s.now) c.iter.ensures.rest
