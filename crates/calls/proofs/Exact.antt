-- A verdict that is like the dry run's is answered like it.
use Rattle.std.proofs.Common.{◌≡◌, ℕ, ◌<◌, ◌≤◌, true, List, length, ℤ, Ok, Err, IfOk, Result, sym, refl, ap, ◌∙◌, true≢false, arith}
use Rattle.std.specs.Result.{result_and}
use Rattle.model.specs.Blocks.{closed}
use Rattle.model.specs.Envelopes.{Envelope}
use Rattle.model.specs.Programs.{Closed}
use Rattle.model.specs.Refusals.{Told, failure}
use Rattle.model.specs.Whole.{TheEnding}
use Rattle.model.specs.declared.ending.Ending.{Ending}
use Rattle.model.specs.declared.ending.Ending.TheVariants.{Ended, Stopped}
use Rattle.model.specs.declared.ending.Failure.{Failure}
use Rattle.model.specs.declared.line.Line.{Line}
use Rattle.model.specs.declared.range.Range.{Range}
use Rattle.domain.specs.Lattice.{Lattice, Meaning}
use Rattle.sweep.specs.Blocks.{states_for}
use Rattle.certify.specs.Certifies.{Answer as Verdict, Certifies}
use Rattle.certify.specs.Refusals.{certify_refusal}
use Rattle.certify.specs.declared.refusal.CertifyRefusal.TheVariants.{Open, Store, Uncertified}
use Rattle.runner.specs.Drying.{start}
use Rattle.session.specs.Answers.{dry_answer}
use Rattle.session.specs.Promises.{DryEnds, LikeDry}
use Rattle.session.specs.Refusals.{dry_refusal}
use Rattle.session.specs.declared.refusal.DryRefusal.{DryRefusal}
use Rattle.calls.specs.Events.{by_dry}
use Rattle.calls.specs.Law.{Answer, comes_to, refused, by_verdict, AnswersDry, not_run, is_run, Agree, Standing, AgreesWithDry}

stopped_by : (f g : Failure) → refused (certify_refusal (Uncertified f)) ≡ refused (certify_refusal (Uncertified g)) → comes_to (Stopped f) ≡ comes_to (Stopped g)
stopped_by f g e =
    let told : certify_refusal (Uncertified f) ≡ certify_refusal (Uncertified g) = cc in
    let detail : failure f ≡ failure g = ap (λ (t : Told). t.detail) told in
    let same : f ≡ g = cc in
    ap (λ (h : Failure). comes_to (Stopped h)) same

refused_by : (f g : Failure) → comes_to (Stopped f) ≡ comes_to (Stopped g) → refused (certify_refusal (Uncertified f)) ≡ refused (certify_refusal (Uncertified g))
refused_by f g e = let same : f ≡ g = cc in ap (λ (h : Failure). refused (certify_refusal (Uncertified h))) same

module _ {S : Type 0} {M : Meaning S} (l : Lattice M) (lines : List Line) (travel : Envelope) (allowed : List Range) (n : ℕ) (closes : closed lines ≡ true) (enough : states_for lines ≤ n) where
  same_as : (v : Verdict) (k : ℕ) (vs : List ℤ) → Certifies l lines travel allowed n v → dry_answer lines vs k ≡ Ok tt → DryEnds lines travel k (start travel.home vs) v
      → (dried : Answer) × AnswersDry travel lines vs k dried × Agree (by_verdict v) dried
  same_as (Ok c) k vs r e t = (comes_to Ended, is_run e t, record { well = (λ h. refl, λ h. refl); fails = λ f. (λ h. absurd (cc), λ h. absurd (cc)) })
  same_as (Err Open) k vs r e t = absurd (true≢false (sym closes ∙ r))
  same_as (Err Store) k vs r e t = let few : n < states_for lines = r.1 in absurd (omega arith)
  same_as (Err (Uncertified f)) k vs r e t = (
    comes_to (Stopped f),
    is_run e t,
    record {
      well = (λ h. absurd (true≢false (sym h)), λ h. absurd (cc));
      fails = λ g. (λ h. stopped_by f g h, λ h. refused_by f g h);
    },
  )

pub agrees : {S : Type 0} {M : Meaning S} (l : Lattice M) (travel : Envelope) (w : Standing) (n : ℕ) (v : Verdict) → (closed w.program ≡ true → Closed w.program) → Certifies l w.program travel w.allowed n v
    → LikeDry w.program travel w.allowed v → AgreesWithDry travel w n (by_verdict v)
agrees l travel w n v closed_lines k like vs one =
    let dried = like vs one.straight one.values (closed_lines one.closes) in
    same_as l w.program travel w.allowed n one.closes one.enough v (length w.program) vs k dried.0 dried.1

-- ---- a dry run has an answer, and one only
module _ (travel : Envelope) (lines : List Line) (vs : List ℤ) (k : ℕ) where
  pub dries : (r : Result Ending DryRefusal) → result_and r (Ok tt) ≡ dry_answer lines vs k → IfOk r (TheEnding lines travel k 0 (start travel.home vs)) → AnswersDry travel lines vs k (by_dry r)
  dries (Ok o) says ending = is_run (sym says) ending
  dries (Err e) says ending = not_run (sym says)

  both_ways : {P : Type 0} {x : DryRefusal} → dry_answer lines vs k ≡ Err x → dry_answer lines vs k ≡ Ok tt → P
  both_ways {x = x} e f = let z : ◌≡◌ {A = Result (Unit {0}) DryRefusal} (Err x) (Ok tt) = sym e ∙ f in absurd (cc)

  pub dries_one : {a b : Answer} → AnswersDry travel lines vs k a → AnswersDry travel lines vs k b → a ≡ b
  dries_one (not_run {why = x} e) (not_run {why = y} f) =
      let z : ◌≡◌ {A = Result (Unit {0}) DryRefusal} (Err x) (Err y) = sym e ∙ f in
      let same : x ≡ y = cc in
      ap (λ (w : DryRefusal). refused (dry_refusal w)) same
  dries_one (not_run e) (is_run f u) = both_ways e f
  dries_one (is_run e t) (not_run f) = both_ways f e
  dries_one (is_run {end = a} e t) (is_run f u) = ap comes_to (u.only a t.is)
