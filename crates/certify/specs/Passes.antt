-- A sweep as the code carries it from line to line: the lent store apart from the rest.
use Rattle.std.specs.Prelude.{List, Option}
use Rattle.model.specs.declared.ending.Cause.{Cause}
use Rattle.sweep.specs.Sweeps.{Flow, Sweep, first, failure}
use Rattle.certify.specs.declared.pass.Pass.{Pass}

abbrev pub flowing : {S : Type 0} → List S → Pass S → Flow S
flowing store p = record { store = store; current = p.current; changed = p.changed }

-- the same pass with another current state
abbrev pub onward : {S : Type 0} → Pass S → S → Pass S
onward p s = record { line = p.line; current = s; changed = p.changed; failing = p.failing; hulls = p.hulls }

-- the same pass after its next line was judged, and failed if there is a cause
abbrev pub judged : {S : Type 0} → Pass S → Option Cause → Pass S
judged p c = record { line = p.line; current = p.current; changed = p.changed; failing = first p.failing (failure p.line c); hulls = p.hulls }

abbrev pub sweeping : {S : Type 0} → List S → Pass S → Sweep S
sweeping store p = record { flow = flowing store p; line = p.line; failing = p.failing; hulls = p.hulls }
