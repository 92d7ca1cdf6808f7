-- Two lists of calls, one after the other.
use Rattle.std.proofs.Common.{◌≡◌, List, [], ◌∷◌, ◌++◌, sym, refl, ◌∙◌, subst₂}
use Rattle.model.specs.Axes.{Position}
use Rattle.session.specs.Memory.{Memory}
use Rattle.model.specs.Envelopes.{Envelope}
use Rattle.calls.specs.Law.{Event, event}
use Rattle.calls.specs.Playing.{after, AllKept, afters}

kept_append : (travel : Envelope) (m : Memory) (es fs : List Event) → AllKept travel m es → AllKept travel (afters travel.home m es) fs → AllKept travel m (es ++ fs)
kept_append travel m [] fs a b = b
kept_append travel m (event c a ∷ es) fs p q = (p.0, kept_append travel (after travel.home m c a) es fs p.1 q)

afters_append : (home : Position) (m : Memory) (es fs : List Event) → afters home m (es ++ fs) ≡ afters home (afters home m es) fs
afters_append home m [] fs = refl
afters_append home m (event c a ∷ es) fs = afters_append home (after home m c a) es fs

module _ {X : Type 0} (of : X → Envelope) where
  -- played on travel t with memory m, the events leave travel u with memory n
  pub record Played (t u : X) (m n : Memory) (es : List Event) : Type 0 where
    pub kept : AllKept (of t) m es
    pub left : n ≡ afters (of t).home m es
    pub travel : u ≡ t

  pub played_both : (t u v : X) (m n k : Memory) (es fs : List Event) → Played t u m n es → Played u v n k fs → Played t v m k (es ++ fs)
  played_both t u v m n k es fs p q = record {
    kept = kept_append (of t) m es fs p.kept (subst₂ (λ (j : Memory) (w : X). AllKept (of w) j fs) p.left p.travel q.kept);
    left = subst₂ (λ (j : Memory) (w : X). k ≡ afters (of w).home j fs) p.left p.travel q.left ∙ sym (afters_append (of t).home m es fs);
    travel = q.travel ∙ p.travel;
  }
