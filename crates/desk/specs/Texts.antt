-- The texts of what answers carry.
use Rattle.std.specs.Prelude.{ℕ, List, ◌++◌, Some, None, codes, decimal, Option, slice_index_or}
use Rattle.std.specs.Fmt.{signed_decimal}
use Rattle.model.specs.declared.ending.Ending.{Ending}
use Rattle.model.specs.declared.ending.Ending.TheVariants.{Ended, Running, Stopped}
use Rattle.model.specs.declared.range.Range.{Range}
use Rattle.model.specs.Axes.{Position}
use Rattle.console.specs.Failures.{failure_text}
use Rattle.model.specs.Refusals.{Detail, nothing, place, parameter, failure, Told}
use Rattle.calls.specs.Law.{Answer, done, certified, went_on, commanded, ended, comes_to, refused}

abbrev pub ending_text : Ending → List ℕ
ending_text Ended = codes "ended"
ending_text Running = codes "running"
ending_text (Stopped f) = codes "stopped " ++ failure_text f

abbrev pub detail_text : Detail → List ℕ
detail_text nothing = codes ""
detail_text (place p) = codes " " ++ decimal p
detail_text (parameter n) = codes " " ++ decimal n
detail_text (failure f) = codes " " ++ failure_text f

abbrev pub position_text : Position → List ℕ
position_text p = signed_decimal p.x ++ (codes " " ++ (signed_decimal p.y ++ (codes " " ++ (signed_decimal p.z ++ (codes " " ++ signed_decimal p.u)))))

-- the least and the greatest number, or that there is none
abbrev pub hull_text : Option Range → List ℕ
hull_text None = codes "none"
hull_text (Some r) = signed_decimal r.lo ++ (codes ".." ++ signed_decimal r.hi)

-- the hulls of X, Y, Z and U
abbrev pub axis_text : List (Option Range) → ℕ → List ℕ
axis_text hs k = hull_text (slice_index_or hs k None)

abbrev pub hulls_text : List (Option Range) → List ℕ
hulls_text hs = axis_text hs 0 ++ (codes " " ++ (axis_text hs 1 ++ (codes " " ++ (axis_text hs 2 ++ (codes " " ++ axis_text hs 3)))))

-- ---- the text of an answer
-- the number of a refusal, and what it carries
abbrev pub refused_text : Told → List ℕ
refused_text t = codes "refused " ++ (decimal t.number ++ detail_text t.detail)

abbrev pub answer_text : Answer → List ℕ
answer_text done = codes "ok"
answer_text (certified hs) = codes "certified " ++ hulls_text hs
answer_text (comes_to o) = ending_text o
answer_text went_on = codes "went on"
answer_text (commanded p) = codes "position " ++ position_text p
answer_text ended = codes "ended"
answer_text (refused t) = refused_text t
