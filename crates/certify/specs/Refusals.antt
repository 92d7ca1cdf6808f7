-- The number of each refusal of certify, with what it carries.
use Rattle.model.specs.Refusals.{Told, told, nothing, failure}
use Rattle.certify.specs.declared.refusal.CertifyRefusal.{CertifyRefusal}
use Rattle.certify.specs.declared.refusal.CertifyRefusal.TheVariants.{Open, Store, Uncertified}

abbrev pub certify_refusal : CertifyRefusal → Told
certify_refusal Open = told 31 nothing
certify_refusal Store = told 32 nothing
certify_refusal (Uncertified f) = told 33 (failure f)
