use Rattle.std.proofs.Common.{◌≡◌, cond, Some, None, ◌∙◌, w32, SFits, rules}
use Rattle.std.proofs.lemmas.Int.{to_z-of_z}
use Rattle.command.proofs.Counts.{stops, goes_on, whole_if}
use Rattle.command.proofs.numbers.numbers.Goals as goal

pub returns-in_err-number : goal.returns-in_err-number
returns-in_err-number g c =
    let none : c.from_residual.result ≡ None = search rules in
    none ∙ stops _ _ _ _ _ c.loop-value.invariant c.loop-value-test.true c.in_err-number.ensures

pub loop-value-preserved : goal.loop-value-preserved
loop-value-preserved g c =
    let fits : SFits w32 c.in_ok-number.number = search rules in
    simp to_z-of_z (goes_on _ _ _ _ _ c.loop-value.invariant _ _ c.loop-value-test.true c.in_ok-number.ensures)

pub returns : goal.returns
returns g c =
    let given : c.then_some.result ≡ cond c.is_empty.result (Some c.loop-value.value-items) None = search rules in
    given ∙ whole_if _ _ _ _ _ c.loop-value.invariant c.loop-value-test.false _ c.is_empty.ensures
