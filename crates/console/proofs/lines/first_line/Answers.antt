-- The first line ends at the first line feed, or with the text.
use Rattle.std.proofs.Common.{◌≡◌, true, false, eqb, Some, None, sym, rules}
use Rattle.std.proofs.lemmas.Bool.{eqb-false}
use Rattle.std.proofs.lemmas.Iterator.{IsFirst-from_position, YieldsList-from_slice}
use borrow.Author.Tests.{tests}
use Rattle.console.proofs.Cuts.{stop_at, line_there, line_last, lines_by_first}
use Rattle.console.proofs.lines.first_line.Goals as goal

pub returns-in-Some : goal.returns-in-Some
returns-in-Some c =
    let first = IsFirst-from_position _ _ (Some c.in-Some.n) (λ b. eqb b 10 ≡ true) (λ b. eqb b 10 ≡ false) c.in-Some.ensures.ran (YieldsList-from_slice c.args.text.now (search rules)) (λ x q k. search (rules, tests)) (λ x q k. search (rules, tests)) in
    let cut = line_there _ _ (stop_at 10 _ (Some c.in-Some.n) first) first.0 in
    record { cut = cut; lines = lines_by_first _ _ _ cut }

pub returns-in-None : goal.returns-in-None
returns-in-None c =
    let first = IsFirst-from_position _ _ None (λ b. eqb b 10 ≡ true) (λ b. eqb b 10 ≡ false) c.in-None.ensures.ran (YieldsList-from_slice c.args.text.now (search rules)) (λ x q k. search (rules, tests)) (λ x q k. search (rules, tests)) in
    let cut = line_last _ (stop_at 10 _ None first) (eqb-false _ _ (sym c.if-is_empty.ensures)) in
    record { cut = cut; lines = lines_by_first _ _ _ cut }
