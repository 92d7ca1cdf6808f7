-- The verdict on what was read, on a gantry, and what a certificate promises.
use Rattle.std.specs.Prelude.{◌≡◌, Ok, Err}
use Rattle.model.specs.Environments.{registers}
use Rattle.domain.specs.Lattice.{Lattice, Meaning}
use Rattle.domain.specs.Pairs.{both_mean, pair}
use Rattle.domain.specs.declared.product.Product.{Product}
use Rattle.pointwise.specs.States.{pointwise, state_means}
use Rattle.pointwise.specs.declared.state.Pointwise.{Pointwise}
use Rattle.intervals.specs.Intervals.{intervals}
use Rattle.intervals.specs.declared.interval.Interval.{Interval}
use Rattle.congruences.specs.Numbers.{congruences}
use Rattle.congruences.specs.declared.congruence.Congruence.{Congruence}
use Rattle.travel.specs.Benches.{bench_gantry}
use Rattle.travel.specs.Gantries.{gantry_envelope, GantryMade}
use Rattle.travel.specs.declared.gantry.Gantry.{Gantry}
use Rattle.program.specs.Limits.{max_blocks}
use Rattle.sweep.specs.Sound.{Safe}
use Rattle.certify.specs.Certifies.{TheVerdict}
use Rattle.certify.specs.declared.refusal.CertifyRefusal.TheVariants.{Uncertified as Fails}
use Rattle.console.specs.declared.report.Report.{Report}
use Rattle.console.specs.declared.report.Report.TheVariants.{Certified, Uncertified, Refused}
use Rattle.console.specs.Report.{refused_at}
use Rattle.console.specs.Readings.{Reading, whole, stopped_at}

-- for each register an interval, and for each a congruence class
abbrev pub State : Type 0
State = Product (Pointwise Interval) (Pointwise Congruence)

abbrev pub means : Meaning State
means = both_mean (state_means intervals registers) (state_means congruences registers)

abbrev pub lattice : Lattice means
lattice = pair (pointwise intervals registers) (pointwise congruences registers) registers

-- it is so on each gantry that is made with the ends of the examples; there is one, for travel::bench makes it
abbrev pub OnBench : (Gantry → Type 0) → Type 0
OnBench P = (g : Gantry) → GantryMade bench_gantry (Ok g) → P g

-- what was read whole has this one verdict, with a state lent for each block that a program may have; a refusal stays
abbrev pub Reported : Gantry → Reading → Report → Type 0
Reported g (whole ts xs) (Certified c) = TheVerdict lattice xs (gantry_envelope g) ts max_blocks (Ok c)
Reported g (whole ts xs) (Uncertified f) = TheVerdict lattice xs (gantry_envelope g) ts max_blocks (Err (Fails f))
Reported g (whole ts xs) (Refused e) = ⊥
Reported g (stopped_at n why) r = r ≡ refused_at n why

-- under a certificate every step of every run from home and allowed values is safe
abbrev pub Promises : Gantry → Reading → Report → Type 0
Promises g (whole ts xs) (Certified c) = Safe xs (gantry_envelope g) ts c.hulls
Promises g (whole ts xs) (Uncertified f) = Unit {0}
Promises g (whole ts xs) (Refused e) = Unit {0}
Promises g (stopped_at n why) r = Unit {0}
