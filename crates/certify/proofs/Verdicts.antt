-- The verdict of the sweep that judges is the one answer; so is each refusal where it is due.
use Rattle.std.proofs.Common.{◌≡◌, ℕ, ◌<◌, ◌≤◌, true, false, List, length, Ok, Err, refl, sym, ap, ◌∙◌, subst, subst₂, arith, replicate}
use Rattle.std.proofs.lemmas.Bool.{both_ways}
use Rattle.model.specs.declared.line.Line.{Line}
use Rattle.model.specs.declared.range.Range.{Range}
use Rattle.model.specs.Envelopes.{Envelope}
use Rattle.model.specs.Blocks.{closed}
use Rattle.std.specs.List.{AllByRecursion}
use Rattle.model.specs.Environments.{parameters, registers}
use Rattle.model.specs.Programs.{Closed}
use Rattle.model.specs.Sides.{Proper}
use Rattle.model.specs.Written.{WrittenLine}
use Rattle.domain.specs.Lattice.{Lattice, Lawful, Meaning}
use Rattle.sweep.proofs.Certified.{certified_sound}
use Rattle.sweep.proofs.Covered.{comes_from}
use Rattle.sweep.proofs.Falls.{one_answer}
use Rattle.sweep.specs.Blocks.{blocks, states_for}
use Rattle.sweep.specs.Sound.{Judges}
use Rattle.sweep.specs.Starts.{start}
use Rattle.sweep.specs.Sweeps.{Sweep, Settles, Verdict, certified, uncertified, verdict}
use Rattle.certify.specs.Certifies.{Answer, answered, Judged, Certifies, TheVerdict, Promised, Untouched}
use Rattle.certify.specs.declared.refusal.CertifyRefusal.TheVariants.{Open, Store, Uncertified}

module _ {S : Type 0} {M : Meaning S} (l : Lattice M) (lines : List Line) (t : Envelope) (allowed : List Range) (n : ℕ) where
  -- an open block is refused, and nothing else fits
  pub open_only : closed lines ≡ false → TheVerdict l lines t allowed n (Err Open)
  open_only h = record { is = h; only = only }
    where
      only : (u : Answer) → Certifies l lines t allowed n u → u ≡ Err Open
      only (Ok c) k = absurd (both_ways (closed lines) h k.closes)
      only (Err Open) k = refl
      only (Err Store) k = absurd (both_ways (closed lines) h k.0)
      only (Err (Uncertified f)) k = absurd (both_ways (closed lines) h k.closes)

  -- so is a store that is too small
  pub store_only : closed lines ≡ true → n < states_for lines → TheVerdict l lines t allowed n (Err Store)
  store_only h s = record { is = (h, s); only = only }
    where
      only : (u : Answer) → Certifies l lines t allowed n u → u ≡ Err Store
      only (Ok c) k = let e = k.enough in absurd (omega arith)
      only (Err Open) k = absurd (both_ways (closed lines) k h)
      only (Err Store) k = refl
      only (Err (Uncertified f)) k = let e = k.enough in absurd (omega arith)

  -- the sweeps that settle, from the state and the store that certify begins with, judge
  pub judges_by : (u : Envelope) (b : S) (s : List S) (w : Sweep S) → Settles l (blocks lines) u lines b s w → u ≡ t → b ≡ start l t allowed → s ≡ replicate n l.none → Judges l lines t allowed n w
  judges_by u b s w k f e g =
      subst (λ (v : Envelope). Settles l (blocks lines) v lines (start l t allowed) (replicate n l.none) w) f
      (subst₂ (λ (x : S) (y : List S). Settles l (blocks lines) u lines x y w) e g k)

  module _ (closes : closed lines ≡ true) (enough : states_for lines ≤ n) (w : Sweep S) (judges : Judges l lines t allowed n w) where
    same : (v : Verdict) → Judged l lines t allowed n v → verdict w ≡ v
    same v k =
        let e : k.sweep ≡ w = one_answer l t (blocks lines) lines (start l t allowed) _ k.sweep w k.judges judges in
        ap verdict (sym e) ∙ k.is

    judged_is : (v : Verdict) → verdict w ≡ v → Certifies l lines t allowed n (answered v)
    judged_is (certified hs) e = record { closes = closes; enough = enough; sweep = w; judges = judges; is = e }
    judged_is (uncertified f) e = record { closes = closes; enough = enough; sweep = w; judges = judges; is = e }

    -- the sweep that judges gives its verdict, and nothing else fits
    pub verdict_only : (r : Answer) → r ≡ answered (verdict w) → TheVerdict l lines t allowed n r
    verdict_only r e = record {
      is = subst (Certifies l lines t allowed n) (sym e) (judged_is (verdict w) refl);
      only = λ u k. only u k ∙ sym e;
    }
      where
        only : (u : Answer) → Certifies l lines t allowed n u → u ≡ answered (verdict w)
        only (Ok c) k = sym (ap answered (same (certified c.hulls) k))
        only (Err Open) k = absurd (both_ways (closed lines) k closes)
        only (Err Store) k = let s = k.1 in absurd (omega arith)
        only (Err (Uncertified f)) k = sym (ap answered (same (uncertified f) k))

-- what is answered for a verdict is safe under a certificate
pub promised_by : {S : Type 0} {M : Meaning S} (l : Lattice M) (t : Envelope) → Lawful registers l → AllByRecursion Proper t.sides → (lines : List Line) (allowed : List Range) (n : ℕ) (w : Sweep S) (r : Answer) →
    Closed lines → AllByRecursion WrittenLine lines → length allowed ≡ parameters → states_for lines ≤ n → Judges l lines t allowed n w → r ≡ answered (verdict w) → Promised lines t allowed r
promised_by {S} l t p proper lines allowed n w r shut written six enough judges e = subst (Promised lines t allowed) (sym e) (by (verdict w) refl)
  where
    by : (v : Verdict) → verdict w ≡ v → Promised lines t allowed (answered v)
    by (certified hs) k =
        let from = comes_from l t lines allowed n w enough judges in
        certified_sound l t p proper lines allowed from.0 hs shut written six from.3 (ap verdict (sym from.1) ∙ k)
    by (uncertified f) k = tt

-- of a verdict it is left open what the store ends as
pub untouched_by : {S : Type 0} (v : Verdict) (r : Answer) (before after : List S) → r ≡ answered v → Untouched r before after
untouched_by {S} v r before after e = subst (λ (u : Answer). Untouched u before after) (sym e) (by v)
  where
    by : (v : Verdict) → Untouched (answered v) before after
    by (certified hs) = tt
    by (uncertified f) = tt
