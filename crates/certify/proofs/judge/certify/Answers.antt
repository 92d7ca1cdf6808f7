use Rattle.std.proofs.Common.{◌≤◌, Bor, length, ap, sym, refl, arith}
use Rattle.sweep.specs.Blocks.{states_for}
use Rattle.program.specs.Held.{held}
use Rattle.program.proofs.Written.{passing_lines}
use Rattle.sweep.specs.Sound.{Judges}
use Rattle.certify.specs.Passes.{sweeping}
use Rattle.certify.proofs.Verdicts.{judges_by, verdict_only, promised_by, untouched_by}
use Rattle.certify.proofs.judge.certify.Goals as goal

pub returns : goal.returns
returns g c =
    let l = g.D.Domain.lattice in
    let lines = held c.args.program.now in
    let t = g.T.Travel.envelope c.args.travel.now in
    let allowed = c.args.allowed.now in
    let n = length c.args.store.now in
    let w = sweeping c.settle-pass.new.store c.settle-pass.result in
    let judges : Judges l lines t allowed n w = judges_by l lines t allowed n _ _ _ _ c.settle-pass.ensures (ap (λ (b : Bor g.row.T.Denot). g.T.Travel.envelope b.now) c.new-sides.ensures) c.begin-start.ensures c.clear.ensures in
    let enough : states_for lines ≤ n = omega arith in
    let closes = sym c.if-not-is_closed.ensures.is in
    record {
      verdict = verdict_only l lines t allowed n closes enough w judges c.verdict.result c.verdict.ensures;
      promised = promised_by l t g.met.D.Domain.lawful (g.met.T.Travel.lawful c.args.travel.now).proper lines allowed n w c.verdict.result (c.if-not-is_closed.ensures.closed refl) (passing_lines lines c.args.program.now.written) c.told-allowed enough judges c.verdict.ensures;
      untouched = untouched_by _ _ _ _ c.verdict.ensures;
    }
