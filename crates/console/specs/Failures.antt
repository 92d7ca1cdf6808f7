-- The text of a failure: the line that fails, and why.
use Rattle.std.specs.Prelude.{ℕ, List, ◌++◌, codes, decimal}
use Rattle.model.specs.declared.ending.Cause.{Cause}
use Rattle.model.specs.declared.ending.Cause.TheVariants.{Arithmetic, Travel}
use Rattle.model.specs.declared.ending.Failure.{Failure}

abbrev pub cause_text : Cause → List ℕ
cause_text Arithmetic = codes "arithmetic"
cause_text (Travel side) = codes "travel " ++ decimal side

-- a line and why it fails
abbrev pub failure_text : Failure → List ℕ
failure_text f = decimal f.line ++ (codes " " ++ cause_text f.cause)
