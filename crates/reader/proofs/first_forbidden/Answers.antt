use Rattle.std.proofs.Common.{◌≡◌, true, false, rules}
use borrow.Author.Tests.{tests}
use Rattle.std.proofs.lemmas.Iterator.{IsFirst-from_position, YieldsList-from_slice}
use Rattle.grammar.specs.Answer.{permitted}
use Rattle.reader.proofs.Clear.{all_clear}
use Rattle.reader.proofs.Finish.{first_at}
use Rattle.reader.proofs.first_forbidden.Goals as goal

pub returns-then-all_allowed : goal.returns-then-all_allowed
returns-then-all_allowed c = all_clear c.args.text.now (search rules)

pub returns : goal.returns
returns c = first_at c.args.text.now c.position.result (IsFirst-from_position _ _ c.position.result (λ b. permitted b ≡ false) (λ b. permitted b ≡ true) c.position.ensures.ran (YieldsList-from_slice c.args.text.now (search rules)) (λ x q k. search (rules, tests)) (λ x q k. search (rules, tests)))
