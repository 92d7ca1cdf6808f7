-- A start is accepted exactly where a certificate stands and no value lies outside its range.
use Rattle.std.proofs.Common.{◌≡◌, ℕ, suc, ◌<◌, Bool, true, cond, List, [], ◌∷◌, length, get_or, ℤ, pos, Some, None, Option, Result, sym, refl, ap, ◌∙◌, true≢false, arith}
use Rattle.model.specs.declared.range.Range.{Range}
use Rattle.model.specs.Environments.{Lies, full, parameters}
use Rattle.session.specs.Answers.{outside_from, by_outside, start_answer}
use Rattle.session.specs.Refusals.{start_refusal}
use Rattle.session.specs.declared.refusal.StartRefusal.{StartRefusal}
use Rattle.session.specs.Promises.{Hulls}
use Rattle.session.proofs.Outside.{none_outside}
use Rattle.calls.specs.Law.{done_or, accepted, Standing, AllLie, AnswersStart}
use Rattle.model.proofs.Numbers.{in_lies}

inside_none : (n : ℕ) (rs : List Range) (vs : List ℤ) → ((k : ℕ) → k < length rs → Lies (get_or vs k (pos 0)) (get_or rs k full)) → outside_from n rs vs ≡ None
inside_none n [] vs h = refl
inside_none n (r ∷ rs) [] h = refl
inside_none n (r ∷ rs) (v ∷ vs) h = ap (λ (t : Bool). cond t (outside_from (suc n) rs vs) (Some n)) (in_lies v r (h 0 (omega arith))) ∙ inside_none (suc n) rs vs (λ k i. h (suc k) (omega arith))

accepted_inside : (o : Option ℕ) → accepted (done_or start_refusal (by_outside o)) ≡ true → o ≡ None
accepted_inside None h = refl
accepted_inside (Some n) h = absurd (true≢false (sym h))

module _ (rs : List Range) (vs : List ℤ) (six-ranges : length rs ≡ parameters) (six-values : length vs ≡ parameters) where
  accepted_start : (c : Option Hulls) → accepted (done_or start_refusal (start_answer c rs vs)) ≡ true → (hs : Hulls) × (c ≡ Some hs) × AllLie vs rs
  accepted_start None h = absurd (true≢false (sym h))
  accepted_start (Some hs) h = (hs, refl, λ k i. none_outside 1 rs vs (accepted_inside (outside_from 1 rs vs) h) k (omega arith) (omega arith))

  start_accepted : (c : Option Hulls) → (hs : Hulls) × (c ≡ Some hs) × AllLie vs rs → accepted (done_or start_refusal (start_answer c rs vs)) ≡ true
  start_accepted None h = absurd (let e : None ≡ Some h.0 = h.1 in cc)
  start_accepted (Some hs) h = ap (λ (o : Option ℕ). accepted (done_or start_refusal (by_outside o))) (inside_none 1 rs vs (λ k i. h.2 k (omega arith)))

pub starts_by : (w : Standing) (vs : List ℤ) (s : Result (Unit {0}) StartRefusal) → length w.allowed ≡ parameters → length vs ≡ parameters → s ≡ start_answer w.certificate w.allowed vs → AnswersStart w vs (done_or start_refusal s)
starts_by w vs s six-ranges six-values e = record {
  by_rule = ap (done_or start_refusal) e;
  when = (
    λ h. accepted_start w.allowed vs six-ranges six-values w.certificate (sym (ap (λ (t : Result (Unit {0}) StartRefusal). accepted (done_or start_refusal t)) e) ∙ h),
    λ h. ap (λ (t : Result (Unit {0}) StartRefusal). accepted (done_or start_refusal t)) e ∙ start_accepted w.allowed vs six-ranges six-values w.certificate h,
  );
}
