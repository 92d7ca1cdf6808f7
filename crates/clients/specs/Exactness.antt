-- Certify and dry, where one run alone is possible.
use Rattle.std.specs.Prelude.{◌≡◌, ℕ, List, length, ℤ}
use Rattle.calls.specs.Law.{Answer, Standing, OneRun, Agree}

-- a verdict with so many states agrees with a dry run of these values, if that is the one run and has a step for each line
abbrev pub AgreesOnOneRun : Standing → ℕ → List ℤ → ℕ → Answer → Answer → Type 0
AgreesOnOneRun now states vs steps verdict dried = OneRun now vs states → steps ≡ length now.program → Agree verdict dried
