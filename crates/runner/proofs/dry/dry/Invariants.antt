use Rattle.std.proofs.Common.{◌≡◌, ◌-◌}
use Rattle.model.specs.Programs.{Closed}
use Rattle.program.specs.Held.{held}
use Rattle.runner.specs.Drying.{dried}
use Rattle.runner.proofs.Dried.{UnderWay}
use Rattle.runner.proofs.dry.dry.Given as goal

abbrev pub invariant-loop-k : goal.invariant-loop-k
invariant-loop-k g l =
    (dried (held l.program) (g.T.Travel.envelope l.travel) l.steps l.initial.run ≡ dried (held l.program) (g.T.Travel.envelope l.travel) (l.steps - l.k) l.run)
    × (Closed (held l.program) → UnderWay (held l.program) (g.T.Travel.envelope l.travel) l.steps (l.steps - l.k) l.initial.run.registers l.run)
