use Rattle.std.proofs.Common.{◌≡◌, true, false, option_map, refl, ap, ◌∙◌, rules}
use Rattle.std.proofs.lemmas.Iterator.{first_from_find, YieldsList-from_slice}
use Rattle.std.specs.Str.{bytes_eq}
use borrow.Author.Tests.{tests}
use Rattle.command.specs.Tables.{first_of}
use Rattle.command.proofs.Table.{first_is}
use Rattle.command.proofs.names.look_up.Goals as goal

pub returns : goal.returns
returns g c =
    let first = first_from_find _ _ _ (λ p. bytes_eq c.args.text.now p.0.now ≡ true) (λ p. bytes_eq c.args.text.now p.0.now ≡ false) c.find.ensures.ran (YieldsList-from_slice c.iter.result.rest.now refl) (λ x q k. search (rules, tests)) (λ x q k. search (rules, tests)) in
    let second : c.map.result ≡ option_map (λ x. x.now.1) c.find.result = search rules in
    second ∙ first_is c.args.text.now c.iter.result.rest.now c.find.result first ∙ ap (first_of c.args.text.now) c.iter.ensures.rest
