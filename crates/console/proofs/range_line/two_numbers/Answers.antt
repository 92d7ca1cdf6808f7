use Rattle.std.proofs.Common.{◌≡◌, true, false, eqb, length, Some, None, unwrap_or, ap, ◌∙◌, w32, SFits, rules}
use Rattle.std.proofs.lemmas.Int.{to_z-of_z}
use Rattle.std.proofs.lemmas.Iterator.{IsFirst-from_position, YieldsList-from_slice}
use borrow.Author.Tests.{tests}
use Rattle.words.specs.Cuts.{until}
use Rattle.console.proofs.Cuts.{stop_at}
use Rattle.console.proofs.PairCut.{no_pair, no_first, pair_cut}
use Rattle.console.proofs.range_line.two_numbers.Goals as goal

pub returns-in_err-blank : goal.returns-in_err-blank
returns-in_err-blank c =
    let at : until 32 c.args.text.now ≡ unwrap_or c.position.result (length c.args.text.now) = stop_at 32 _ _ (IsFirst-from_position _ _ _ (λ b. eqb b 32 ≡ true) (λ b. eqb b 32 ≡ false) c.position.ensures.ran (YieldsList-from_slice c.args.text.now (search rules)) (λ x q k. search (rules, tests)) (λ x q k. search (rules, tests))) in
    c.from_residual.ensures ∙ no_pair _ _ (at ∙ ap (λ r. unwrap_or r (length c.args.text.now)) c.in_err-blank.was)

pub returns-in_err-lo : goal.returns-in_err-lo
returns-in_err-lo c =
    let at : until 32 c.args.text.now ≡ unwrap_or c.position.result (length c.args.text.now) = stop_at 32 _ _ (IsFirst-from_position _ _ _ (λ b. eqb b 32 ≡ true) (λ b. eqb b 32 ≡ false) c.position.ensures.ran (YieldsList-from_slice c.args.text.now (search rules)) (λ x q k. search (rules, tests)) (λ x q k. search (rules, tests))) in
    c.from_residual-in_err-lo.ensures ∙ no_first _ _ c.in_ok-blank.blank (at ∙ ap (λ r. unwrap_or r (length c.args.text.now)) c.in_ok-blank.was) c.in_err-lo.ensures.is

pub returns-in_err-hi : goal.returns-in_err-hi
returns-in_err-hi c =
    let at : until 32 c.args.text.now ≡ unwrap_or c.position.result (length c.args.text.now) = stop_at 32 _ _ (IsFirst-from_position _ _ _ (λ b. eqb b 32 ≡ true) (λ b. eqb b 32 ≡ false) c.position.ensures.ran (YieldsList-from_slice c.args.text.now (search rules)) (λ x q k. search (rules, tests)) (λ x q k. search (rules, tests))) in
    c.from_residual-in_err-hi.ensures ∙ pair_cut _ _ c.in_ok-blank.blank (at ∙ ap (λ r. unwrap_or r (length c.args.text.now)) c.in_ok-blank.was) (Some c.in_ok-lo.lo) None c.in_ok-lo.ensures.is c.in_err-hi.ensures.is

pub returns : goal.returns
returns c =
    let at : until 32 c.args.text.now ≡ unwrap_or c.position.result (length c.args.text.now) = stop_at 32 _ _ (IsFirst-from_position _ _ _ (λ b. eqb b 32 ≡ true) (λ b. eqb b 32 ≡ false) c.position.ensures.ran (YieldsList-from_slice c.args.text.now (search rules)) (λ x q k. search (rules, tests)) (λ x q k. search (rules, tests))) in
    let low : SFits w32 c.in_ok-lo.lo = search rules in
    let high : SFits w32 c.in_ok-hi.hi = search rules in
    simp to_z-of_z (pair_cut c.args.parameter _ c.in_ok-blank.blank (at ∙ ap (λ r. unwrap_or r (length c.args.text.now)) c.in_ok-blank.was) (Some c.in_ok-lo.lo) (Some c.in_ok-hi.hi) c.in_ok-lo.ensures.is c.in_ok-hi.ensures.is)
