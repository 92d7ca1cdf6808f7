-- What is safe never stops a dry run.
use Rattle.std.proofs.Common.{◌≡◌, ℕ, suc, Bool, cond, List, [], ◌∷◌, Some, None, Option, sym, refl, ap, ◌∙◌}
use Rattle.std.specs.List.{AllByRecursion}
use Rattle.model.specs.Axes.{Position}
use Rattle.model.specs.declared.range.Range.{Range}
use Rattle.model.specs.declared.side.Side.{Side}
use Rattle.model.specs.Envelopes.{Envelope}
use Rattle.model.specs.declared.ending.Ending.{Ending}
use Rattle.model.specs.declared.line.Line.{Line}
use Rattle.model.specs.Environments.{Env, position, registers}
use Rattle.model.specs.Sides.{Proper, kept, AllHold, lowest}
use Rattle.model.specs.Reached.{Reached, begins, goes_on, commanded}
use Rattle.model.specs.Whole.{LeadsTo, here, on, inside, Dry, ended, running, faulted, left}
use Rattle.model.proofs.Standing.{none_some}
use Rattle.domain.specs.Lattice.{Lattice, Meaning, Lawful}
use Rattle.model.proofs.Numbers.{le_true}
use Rattle.sweep.specs.Sound.{Safe, NotStopped, NeverStops}
use Rattle.sweep.proofs.Certified.{certified_sound}

-- where all sides hold none is the lowest broken
kept_lowest : (p : Position) (n : ℕ) (ds : List Side) → AllHold p ds → lowest (kept p) n ds ≡ None
kept_lowest p n [] h = refl
kept_lowest p n (d ∷ ds) h = ap (λ (t : Bool). cond t (lowest (kept p) (suc n) ds) (Some n)) (le_true _ _ h.0) ∙ kept_lowest p (suc n) ds h.1

reached_on : {lines : List Line} {t : Envelope} {allowed : List Range} {m i j : ℕ} {e f : Env} → Reached lines t.home allowed i e → LeadsTo lines t m i e j f →
    Reached lines t.home allowed j f
reached_on r here = r
reached_on r (on st d) = reached_on (goes_on r st) d
reached_on r (inside st b d) = reached_on (commanded r st) d

module _ {lines : List Line} {t : Envelope} {allowed : List Range} (hulls : List (Option Range)) (safe : Safe lines t allowed hulls) where
  unstopped : {k i : ℕ} {e : Env} {o : Ending} → Reached lines t.home allowed i e → Dry lines t k i e o → NotStopped o
  unstopped r (ended h d k) = tt
  unstopped r (running d k) = tt
  unstopped r (faulted h d st) = safe _ _ _ (reached_on r d) st
  unstopped r (left {g = g} h d st b) = none_some (sym (kept_lowest (position g) 0 t.sides (safe _ _ _ (reached_on r d) st).0) ∙ b)

pub never_stops : {S : Type 0} {M : Meaning S} (l : Lattice M) (t : Envelope) → Lawful registers l → AllByRecursion Proper t.sides → NeverStops l t
never_stops l t p proper lines allowed store hulls k e o closed written six unchanged says b d =
    unstopped hulls (certified_sound l t p proper lines allowed store hulls closed written six unchanged says) (begins b) d
