-- The block of a number that was found.
use Rattle.std.proofs.Common.{◌≡◌, None, length, ap, ◌∙◌, arith, rules}
use Rattle.model.specs.Blocks.{block_number}
use Rattle.program.specs.Held.{held}
use Rattle.program.proofs.Lookup.{block_total, block_found, block_missing}
use Rattle.program.proofs.table.Program.block.Goals as goal

pub returns-in_err-number : goal.returns-in_err-number
returns-in_err-number c =
    let none : c.from_residual.result ≡ None = search rules in
    let missing : None ≡ block_number (held c.args.self.now) c.args.label = search rules in
    none ∙ block_missing c.args.self.now _ missing

pub offset_bounds-as_slice-number : goal.offset_bounds-as_slice-number
offset_bounds-as_slice-number c = omega (arith, block_total c.args.self.now, ap length c.as_slice.ensures.is, c.in_ok-number.ensures.within)

pub bounds-as_slice-number : goal.bounds-as_slice-number
bounds-as_slice-number c = omega (arith, block_total c.args.self.now, ap length c.as_slice.ensures.is, c.in_ok-number.ensures.within)

pub returns : goal.returns
returns c = rw c.as_slice.ensures.is (block_found c.args.self.now _ _ c.in_ok-number.ensures.is)
