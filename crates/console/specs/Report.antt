-- The text of a report, and what a refusal tells. Which report an input gets is in Law.
use Rattle.std.specs.Prelude.{ℕ, List, ◌++◌, Some, None, codes, decimal, Option, slice_index_or}
use Rattle.std.specs.Fmt.{signed_decimal}
use Rattle.model.specs.Refusals.{Told, told, nothing, place_in}
use Rattle.model.specs.declared.range.Range.{Range}
use Rattle.program.specs.Numbers.{line_refusal}
use Rattle.certify.specs.Refusals.{certify_refusal}
use Rattle.certify.specs.declared.refusal.CertifyRefusal.TheVariants.{Open as Unclosed}
use Rattle.session.specs.Refusals.{allow_refusal}
use Rattle.console.specs.Failures.{failure_text}
use Rattle.console.specs.declared.refusal.Refusal.{Refusal}
use Rattle.console.specs.declared.refusal.Refusal.TheVariants.{Input, RangeText, Allow, Line, Open}
use Rattle.console.specs.declared.report.Report.{Report}
use Rattle.console.specs.declared.report.Report.TheVariants.{Certified, Uncertified, Refused}

-- ---- refusals
-- an open block is refused as by certify
abbrev pub input_refusal : Refusal → Told
input_refusal Input = told 46 nothing
input_refusal RangeText = told 13 nothing
input_refusal (Allow why) = allow_refusal why
input_refusal (Line why) = line_refusal why
input_refusal Open = certify_refusal Unclosed

abbrev pub or_zero : Option ℕ → ℕ
or_zero (Some n) = n
or_zero None = 0

-- the refusal of a line, 0 where none of the program is refused
abbrev pub refused_at : ℕ → Refusal → Report
refused_at n why = Refused (record { line = n; refusal = why })

-- the place that is printed, 0 where there is none
abbrev pub printed_place : Told → ℕ
printed_place t = or_zero (place_in t.detail)

-- ---- the text, byte by byte; the line feed after it is the printer's
-- the lowest and the highest position of an axis, if any move can be reached
abbrev pub hull_text : Option Range → List ℕ
hull_text None = codes "none"
hull_text (Some x) = signed_decimal x.lo ++ (codes " " ++ signed_decimal x.hi)

-- a line for each axis
abbrev pub hulls_text : List (Option Range) → List ℕ
hulls_text hs =
    codes "\nX " ++ (hull_text (slice_index_or hs 0 None)
    ++ (codes "\nY " ++ (hull_text (slice_index_or hs 1 None)
    ++ (codes "\nZ " ++ (hull_text (slice_index_or hs 2 None)
    ++ (codes "\nU " ++ hull_text (slice_index_or hs 3 None)))))))

-- the number of a line, then what its refusal tells
abbrev pub refused_text : ℕ → Told → List ℕ
refused_text n t = codes "refused " ++ (decimal n ++ (codes " " ++ (decimal t.number ++ (codes " " ++ decimal (printed_place t)))))

abbrev pub report_text : Report → List ℕ
report_text (Certified c) = codes "certified" ++ hulls_text c.hulls
report_text (Uncertified f) = codes "uncertified " ++ failure_text f
report_text (Refused e) = refused_text e.line (input_refusal e.refusal)
