-- The number of each refusal of a session, with what it carries.
use Rattle.model.specs.Refusals.{Told, told, nothing, parameter}
use Rattle.certify.specs.Refusals.{certify_refusal}
use Rattle.certify.specs.declared.refusal.CertifyRefusal.TheVariants.{Open as Unclosed}
use Rattle.session.specs.declared.refusal.AllowRefusal.{AllowRefusal}
use Rattle.session.specs.declared.refusal.AllowRefusal.TheVariants.{Parameter, Range}
use Rattle.session.specs.declared.refusal.DryRefusal.{DryRefusal}
use Rattle.session.specs.declared.refusal.DryRefusal.TheVariants.{Open, Steps, Value}
use Rattle.session.specs.declared.refusal.StartRefusal.{StartRefusal}
use Rattle.session.specs.declared.refusal.StartRefusal.TheVariants.{Uncertified, Outside}
use Rattle.session.specs.declared.refusal.StepRefusal.{StepRefusal}
use Rattle.session.specs.declared.refusal.StepRefusal.TheVariants.{NoRun}

abbrev pub allow_refusal : AllowRefusal → Told
allow_refusal Parameter = told 26 nothing
allow_refusal Range = told 27 nothing

abbrev pub start_refusal : StartRefusal → Told
start_refusal Uncertified = told 41 nothing
start_refusal (Outside n) = told 42 (parameter n)

abbrev pub step_refusal : StepRefusal → Told
step_refusal NoRun = told 43 nothing

-- an open block is refused as by certify
abbrev pub dry_refusal : DryRefusal → Told
dry_refusal Open = certify_refusal Unclosed
dry_refusal Steps = told 44 nothing
dry_refusal Value = told 45 nothing
