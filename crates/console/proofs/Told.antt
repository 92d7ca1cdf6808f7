-- Each refusal is known by what it tells, so an answer of the law is one answer of the code.
use Rattle.std.proofs.Common.{◌≡◌, ℕ, cond, eqb, ltb, Ok, Err, Result, sym, refl, ap, ◌∙◌}
use Rattle.grammar.specs.Causes.{number_of}
use Rattle.grammar.specs.declared.refusal.Cause.{Cause}
use Rattle.grammar.specs.declared.refusal.Cause.TheVariants.{Length, Byte, Unexpected, Limit, Twice}
use Rattle.model.specs.Refusals.{Detail, place, failure, Told}
use Rattle.program.specs.Numbers.{line_refusal}
use Rattle.program.specs.declared.refusal.LineRefusal.{LineRefusal}
use Rattle.program.specs.declared.refusal.LineRefusal.TheVariants.{Text, Table}
use Rattle.program.specs.declared.refusal.TableRefusal.{TableRefusal}
use Rattle.program.specs.declared.refusal.TableRefusal.TheVariants.{Lines, End, Label, Blocks}
use Rattle.certify.specs.Certifies.{Answer as Verdict}
use Rattle.certify.specs.declared.refusal.CertifyRefusal.{CertifyRefusal}
use Rattle.certify.specs.declared.refusal.CertifyRefusal.TheVariants.{Open, Store, Uncertified}
use Rattle.session.specs.Refusals.{allow_refusal}
use Rattle.session.specs.declared.refusal.AllowRefusal.{AllowRefusal}
use Rattle.session.specs.declared.refusal.AllowRefusal.TheVariants.{Parameter, Range}
use Rattle.calls.specs.Law.{Answer, certified, refused, done_or, by_verdict}

-- ---- done, or refused
module _ {E : Type 0} (tells : E → Told) (back : Told → E) (is_back : (why : E) → back (tells why) ≡ why) where
  abbrev result_in : Answer → Result (Unit {0}) E
  result_in (refused t) = Err (back t)
  result_in a = Ok tt

  there_and_back : (r : Result (Unit {0}) E) → result_in (done_or tells r) ≡ r
  there_and_back (Ok u) = refl
  there_and_back (Err why) = ap Err (is_back why)

  one_result : (r s : Result (Unit {0}) E) → done_or tells r ≡ done_or tells s → r ≡ s
  one_result r s e = sym (there_and_back r) ∙ ap result_in e ∙ there_and_back s

-- ---- of a range
abbrev allow_by : Told → AllowRefusal
allow_by t = cond (ltb t.number 27) Parameter Range

allow_back : (why : AllowRefusal) → allow_by (allow_refusal why) ≡ why
allow_back Parameter = refl
allow_back Range = refl

pub one_allowed : (r s : Result (Unit {0}) AllowRefusal) → done_or allow_refusal r ≡ done_or allow_refusal s → r ≡ s
one_allowed = one_result allow_refusal allow_by allow_back

-- ---- of a line
abbrev cause_by : ℕ → Cause
cause_by n = cond (eqb n 11) Length (cond (eqb n 12) Byte (cond (eqb n 13) Unexpected (cond (eqb n 14) Limit Twice)))

abbrev table_by : ℕ → TableRefusal
table_by n = cond (eqb n 21) Lines (cond (eqb n 22) End (cond (eqb n 23) Label Blocks))

abbrev line_with : ℕ → Detail → LineRefusal
line_with n (place p) = Text (record { cause = cause_by n; place = p })
line_with n d = Table (table_by n)

abbrev line_by : Told → LineRefusal
line_by t = line_with t.number t.detail

cause_back : (c : Cause) → cause_by (number_of c) ≡ c
cause_back Length = refl
cause_back Byte = refl
cause_back Unexpected = refl
cause_back Limit = refl
cause_back Twice = refl

line_back : (why : LineRefusal) → line_by (line_refusal why) ≡ why
line_back (Text e) = ap (λ (c : Cause). Text (record { cause = c; place = e.place })) (cause_back e.cause)
line_back (Table Lines) = refl
line_back (Table End) = refl
line_back (Table Label) = refl
line_back (Table Blocks) = refl

pub one_taken : (r s : Result (Unit {0}) LineRefusal) → done_or line_refusal r ≡ done_or line_refusal s → r ≡ s
one_taken = one_result line_refusal line_by line_back

-- ---- a verdict
abbrev refusal_with : ℕ → Detail → CertifyRefusal
refusal_with n (failure f) = Uncertified f
refusal_with n d = cond (ltb n 32) Open Store

abbrev verdict_in : Answer → Verdict
verdict_in (certified hulls) = Ok (record { hulls = hulls })
verdict_in (refused t) = Err (refusal_with t.number t.detail)
verdict_in a = Err Open

verdict_back : (v : Verdict) → verdict_in (by_verdict v) ≡ v
verdict_back (Ok c) = refl
verdict_back (Err Open) = refl
verdict_back (Err Store) = refl
verdict_back (Err (Uncertified f)) = refl

pub one_verdict : (v w : Verdict) → by_verdict v ≡ by_verdict w → w ≡ v
one_verdict v w e = sym (verdict_back w) ∙ ap verdict_in (sym e) ∙ verdict_back v
