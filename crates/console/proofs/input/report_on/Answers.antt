-- The report by the rules is the only one.
use Rattle.std.proofs.Common.{Ok, sym, subst, arith, rules}
use Rattle.travel.specs.Benches.{bench_gantry}
use Rattle.travel.specs.Gantries.{GantryMade}
use Rattle.console.specs.Law.{TheReport}
use Rattle.console.specs.declared.refusal.Refusal.TheVariants.{Input}
use Rattle.console.specs.declared.report.Report.TheVariants.{Refused}
use Rattle.console.proofs.Readings.{long_reading}
use Rattle.console.proofs.Reports.{refused_report, law_judged, is_judged, promised_judged}
use Rattle.console.proofs.Stopped.{stop_reported, enough}
use Rattle.console.proofs.input.report_on.Goals as goal

pub returns-then-input-gt-MAX_INPUT-clause-law : goal.returns-then-input-gt-MAX_INPUT-clause-law
returns-then-input-gt-MAX_INPUT-clause-law c =
    let bs = c.args.input.now in
    subst (λ r. TheReport bs (Refused r)) (sym c.into.ensures) (refused_report bs 0 Input (long_reading bs (omega arith)))

pub report_of-requires-clause-enough : goal.report_of-requires-clause-enough
report_of-requires-clause-enough c =
    let a = c.play_calls-answer.result in
    let stays = c.play_calls-answer.ensures.stays in
    enough c.bench_gantry.result c.args.input.now (omega arith) a.ranges a.lines a.stop (record { ranges = stays.0; comes = stays.1; lawful = c.play_calls-answer.ensures.law })

pub returns-clause-law : goal.returns-clause-law
returns-clause-law c =
    let g = c.bench_gantry.result in
    let bs = c.args.input.now in
    let a = c.play_calls-answer.result in
    let stays = c.play_calls-answer.ensures.stays in
    let made : GantryMade bench_gantry (Ok g) = search rules in
    law_judged bs g made _ (stop_reported g bs (omega arith) a.ranges a.lines a.stop _ (record { ranges = stays.0; comes = stays.1; lawful = c.play_calls-answer.ensures.law }) c.report_of.ensures)

pub returns-clause-is : goal.returns-clause-is
returns-clause-is c =
    let g = c.bench_gantry.result in
    let bs = c.args.input.now in
    let a = c.play_calls-answer.result in
    let stays = c.play_calls-answer.ensures.stays in
    let made : GantryMade bench_gantry (Ok g) = search rules in
    is_judged bs g made _ (stop_reported g bs (omega arith) a.ranges a.lines a.stop _ (record { ranges = stays.0; comes = stays.1; lawful = c.play_calls-answer.ensures.law }) c.report_of.ensures)

pub returns-clause-promised : goal.returns-clause-promised
returns-clause-promised c =
    let g = c.bench_gantry.result in
    let bs = c.args.input.now in
    let a = c.play_calls-answer.result in
    let stays = c.play_calls-answer.ensures.stays in
    let made : GantryMade bench_gantry (Ok g) = search rules in
    promised_judged bs g made _ (stop_reported g bs (omega arith) a.ranges a.lines a.stop _ (record { ranges = stays.0; comes = stays.1; lawful = c.play_calls-answer.ensures.law }) c.report_of.ensures)
