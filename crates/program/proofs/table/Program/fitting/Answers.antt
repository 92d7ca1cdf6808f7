-- An end fits if it is that of the innermost open block.
use Rattle.std.proofs.Common.{◌≡◌, is_some, None, ap, ◌∙◌, rules}
use Rattle.program.proofs.Lookup.{fits_none, fits_top}
use Rattle.program.proofs.table.Program.fitting.Goals as goal

pub returns-in_err-number-clause-test : goal.returns-in_err-number-clause-test
returns-in_err-number-clause-test c =
    let none : c.from_residual.result ≡ None = search rules in
    ap is_some none ∙ fits_none c.args.self.now _ _ c.in_err-number.ensures

pub returns-clause-test : goal.returns-clause-test
returns-clause-test c =
    let some : is_some c.then_some.result ≡ c.is_ended_by.result = search rules in
    some ∙ c.is_ended_by.ensures ∙ rw c.as_slice.ensures.is (fits_top c.args.self.now _ _ _ c.in_ok-number.ensures)
