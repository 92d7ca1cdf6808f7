-- What is reported is the report by the rules, and the only one.
use Rattle.std.proofs.Common.{◌≡◌, ℕ, List, [], ◌∷◌, Ok, Err, sym, refl, ap, ◌∙◌, subst, subst₂}
use Rattle.model.specs.Envelopes.{Envelope}
use Rattle.model.specs.declared.axes.Ends.{Ends}
use Rattle.model.specs.declared.ending.Failure.{Failure}
use Rattle.model.specs.declared.line.Axis.TheVariants.{X, Y, Z, U}
use Rattle.model.specs.declared.line.Line.{Line}
use Rattle.model.specs.declared.range.Range.{Range}
use Rattle.travel.specs.Benches.{bench_gantry}
use Rattle.travel.specs.Gantries.{at_most, at_least, gantry_envelope, GantryMade}
use Rattle.travel.specs.Travels.{Between}
use Rattle.travel.specs.declared.gantry.Gantry.{Gantry}
use Rattle.program.specs.Limits.{max_blocks}
use Rattle.sweep.specs.Sound.{Safe}
use Rattle.sweep.specs.Sweeps.{Verdict, certified, uncertified}
use Rattle.certify.specs.Certifies.{Answer, Judged, TheVerdict}
use Rattle.certify.specs.declared.refusal.Certificate.{Certificate}
use Rattle.certify.specs.declared.refusal.CertifyRefusal.TheVariants.{Uncertified as Fails}
use Rattle.console.specs.declared.refusal.Refusal.{Refusal}
use Rattle.console.specs.declared.report.Report.{Report}
use Rattle.console.specs.declared.report.Report.TheVariants.{Certified, Uncertified, Refused}
use Rattle.console.specs.Readings.{Reading, whole, stopped_at, reading_of}
use Rattle.console.specs.Report.{refused_at}
use Rattle.console.specs.Verdicts.{lattice, OnBench, Reported, Promises}
use Rattle.console.specs.Law.{Reads, Reports, by_refusal, by_certificate, by_failure, TheReport}
use Rattle.console.proofs.Readings.{is_reading, one_reading}
use Rattle.console.proofs.Reported.{Judgement}

-- ---- gantries with the same ends
abbrev envelope_at : Ends → Envelope
envelope_at e = record {
  region = λ p. Between e.lower p e.upper;
  sides = at_most X e.upper.x ∷ at_least X e.lower.x ∷ at_most Y e.upper.y ∷ at_least Y e.lower.y ∷ at_most Z e.upper.z ∷ at_least Z e.lower.z ∷ at_most U e.upper.u ∷ at_least U e.lower.u ∷ [];
  home = e.home;
}

module _ (g h : Gantry) (e : g.ends ≡ h.ends) where
  same_envelope : gantry_envelope g ≡ gantry_envelope h
  same_envelope = ap envelope_at e

  pub reported_too : (x : Reading) (r : Report) → Reported g x r → Reported h x r
  reported_too (whole ts xs) (Certified c) k = subst (λ (v : Envelope). TheVerdict lattice xs v ts max_blocks (Ok c)) same_envelope k
  reported_too (whole ts xs) (Uncertified f) k = subst (λ (v : Envelope). TheVerdict lattice xs v ts max_blocks (Err (Fails f))) same_envelope k
  reported_too (whole ts xs) (Refused why) k = k
  reported_too (stopped_at n why) r k = k

  pub promises_too : (x : Reading) (r : Report) → Promises g x r → Promises h x r
  promises_too (whole ts xs) (Certified c) k = subst (λ (v : Envelope). Safe xs v ts c.hulls) same_envelope k
  promises_too (whole ts xs) (Uncertified f) k = k
  promises_too (whole ts xs) (Refused why) k = k
  promises_too (stopped_at n why) r k = k

-- ---- one report
module _ (bs : List ℕ) where
  apart : {P : Type 0} (ts : List Range) (xs : List Line) (n : ℕ) (why : Refusal) → whole ts xs ≡ stopped_at n why → P
  apart ts xs n why e = absurd (cc)

  pub refused_report : (n : ℕ) (why : Refusal) → stopped_at n why ≡ reading_of bs → TheReport bs (refused_at n why)
  refused_report n why e = record { is = by_refusal n why (subst (Reads bs) (sym e) (is_reading bs)); only = only }
    where
      only : (u : Report) → Reports bs u → u ≡ refused_at n why
      only u (by_refusal m other r) = let s : stopped_at m other ≡ stopped_at n why = one_reading bs (stopped_at m other) r ∙ sym e in cc
      only u (by_certificate ts xs g c r made j) = apart ts xs n why (one_reading bs (whole ts xs) r ∙ sym e)
      only u (by_failure ts xs g f r made j) = apart ts xs n why (one_reading bs (whole ts xs) r ∙ sym e)

  module _ (g : Gantry) (made : g.ends ≡ bench_gantry) (ts : List Range) (xs : List Line) (e : whole ts xs ≡ reading_of bs) where
    reads : Reads bs (whole ts xs)
    reads = subst (Reads bs) (sym e) (is_reading bs)

    -- the other judgement is of the same program on the same envelope
    judged_here : (h : Gantry) → h.ends ≡ bench_gantry → (us : List Range) (ys : List Line) (w : Verdict) → Reads bs (whole us ys) → Judged lattice ys (gantry_envelope h) us max_blocks w
        → Judged lattice xs (gantry_envelope g) ts max_blocks w
    judged_here h other us ys w r j =
        let s : whole us ys ≡ whole ts xs = one_reading bs (whole us ys) r ∙ sym e in
        let ranges : us ≡ ts = cc in
        let lines : ys ≡ xs = cc in
        let here = subst₂ (λ (qs : List Range) (zs : List Line). Judged lattice zs (gantry_envelope h) qs max_blocks w) ranges lines j in
        subst (λ (v : Envelope). Judged lattice xs v ts max_blocks w) (same_envelope h g (other ∙ sym made)) here

    certified_report : (c : Certificate) → TheVerdict lattice xs (gantry_envelope g) ts max_blocks (Ok c) → TheReport bs (Certified c)
    certified_report c t = record { is = by_certificate ts xs g c reads (refl, made) t.is; only = only }
      where
        only : (u : Report) → Reports bs u → u ≡ Certified c
        only u (by_refusal n why r) = apart ts xs n why (e ∙ sym (one_reading bs (stopped_at n why) r))
        only u (by_certificate us ys h d r other j) = let s : ◌≡◌ {A = Answer} (Ok d) (Ok c) = t.only (Ok d) (judged_here h (other.1) us ys (certified d.hulls) r j) in cc
        only u (by_failure us ys h f r other j) = let s : ◌≡◌ {A = Answer} (Err (Fails f)) (Ok c) = t.only (Err (Fails f)) (judged_here h (other.1) us ys (uncertified f) r j) in absurd (cc)

    uncertified_report : (f : Failure) → TheVerdict lattice xs (gantry_envelope g) ts max_blocks (Err (Fails f)) → TheReport bs (Uncertified f)
    uncertified_report f t = record { is = by_failure ts xs g f reads (refl, made) t.is; only = only }
      where
        only : (u : Report) → Reports bs u → u ≡ Uncertified f
        only u (by_refusal n why r) = apart ts xs n why (e ∙ sym (one_reading bs (stopped_at n why) r))
        only u (by_certificate us ys h d r other j) = let s : ◌≡◌ {A = Answer} (Ok d) (Err (Fails f)) = t.only (Ok d) (judged_here h (other.1) us ys (certified d.hulls) r j) in absurd (cc)
        only u (by_failure us ys h k r other j) = let s : ◌≡◌ {A = Answer} (Err (Fails k)) (Err (Fails f)) = t.only (Err (Fails k)) (judged_here h (other.1) us ys (uncertified k) r j) in cc

  pub the_report : (g : Gantry) → g.ends ≡ bench_gantry → (x : Reading) (r : Report) → x ≡ reading_of bs → Reported g x r → TheReport bs r
  the_report g made (whole ts xs) (Certified c) e t = certified_report g made ts xs e c t
  the_report g made (whole ts xs) (Uncertified f) e t = uncertified_report g made ts xs e f t
  the_report g made (whole ts xs) (Refused why) e t = absurd t
  the_report g made (stopped_at n why) r e t = subst (TheReport bs) (sym t) (refused_report n why e)

-- ---- from what is judged of the answers
module _ (bs : List ℕ) (g : Gantry) (made : GantryMade bench_gantry (Ok g)) (r : Report) (j : Judgement g (reading_of bs) r) where
  pub law_judged : TheReport bs r
  law_judged = the_report bs g (made.1) (reading_of bs) r refl j.reported

  pub is_judged : OnBench (λ h. Reported h (reading_of bs) r)
  is_judged h there = reported_too g h (made.1 ∙ sym there.1) (reading_of bs) r j.reported

  pub promised_judged : OnBench (λ h. Promises h (reading_of bs) r)
  promised_judged h there = promises_too g h (made.1 ∙ sym there.1) (reading_of bs) r j.promised
