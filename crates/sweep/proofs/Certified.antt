-- The theorem: what an unchanged sweep certifies is safe.
use Rattle.std.proofs.Common.{◌≡◌, ℕ, List, Some, None, Option, refl, subst, arith}
use Rattle.std.specs.List.{AllByRecursion}
use Rattle.model.specs.declared.ending.Failure.{Failure}
use Rattle.model.specs.declared.range.Range.{Range}
use Rattle.model.specs.Envelopes.{Envelope}
use Rattle.model.specs.Environments.{registers}
use Rattle.model.specs.Sides.{Proper}
use Rattle.domain.specs.Lattice.{Lattice, Meaning, Lawful}
use Rattle.sweep.specs.Sweeps.{certified, uncertified, verdict_of}
use Rattle.sweep.specs.Sound.{Fine, Sound}
use Rattle.sweep.proofs.Values.{start_holds}
use Rattle.sweep.proofs.Legal.{reached_legal}
use Rattle.sweep.proofs.Soundness.{reached_holds, step_fine}

uncertain : (f : Failure) (hs : List (Option Range)) → uncertified f ≡ certified hs → ⊥
uncertain f hs e = let z : ◌≡◌ {A = ℕ} 0 1 = cc in omega arith

no_failing : (o : Option Failure) (hs gs : List (Option Range)) → verdict_of o hs ≡ certified gs → o ≡ None
no_failing None hs gs e = refl
no_failing (Some f) hs gs e = absurd (uncertain f gs e)

its_hulls : (o : Option Failure) (hs gs : List (Option Range)) → verdict_of o hs ≡ certified gs → hs ≡ gs
its_hulls None hs gs e = cc
its_hulls (Some f) hs gs e = absurd (uncertain f gs e)

pub certified_sound : {S : Type 0} {M : Meaning S} (l : Lattice M) (t : Envelope) → Lawful registers l → AllByRecursion Proper t.sides → Sound l t
certified_sound l t p proper lines allowed store hulls closed written six unchanged says i e o r st =
    let held = reached_holds l p t lines _ store closed written unchanged (λ f b. start_holds l p t allowed f six b) r in
    subst (λ (hs : List (Option Range)). Fine t hs o) (its_hulls _ _ hulls says)
    (step_fine l p t lines _ store closed written unchanged (no_failing _ _ hulls says) proper (reached_legal r) held st)
