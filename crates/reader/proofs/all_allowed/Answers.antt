use Rattle.std.proofs.Common.{◌&&◌, true, ◌∙◌, rules}
use borrow.Author.Tests.{tests}
use Rattle.std.proofs.lemmas.Iterator.{YieldsList-from_slice}
use Rattle.std.proofs.lemmas.Iterator.Consumers.{fold_from_yields_List}
use Rattle.grammar.specs.Answer.{permitted}
use Rattle.reader.proofs.Clear.{fold_all}
use Rattle.reader.proofs.all_allowed.Goals as goal

pub returns : goal.returns
returns c = fold_from_yields_List _ (λ so_far b. so_far && permitted b) true _ c.fold.ensures.ran (YieldsList-from_slice c.args.text.now (search rules)) (λ a x b q k. search (rules, tests)) ∙ fold_all c.args.text.now
