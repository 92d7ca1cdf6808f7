-- The hulls hold every range that went into them.
use Rattle.std.proofs.Common.{◌≡◌, ℕ, zero, suc, ◌+◌, ◌<◌, ◌≤◌, true, false, List, [], ◌∷◌, length, get_or, ℤ, Some, None, Option, sym, refl, ap, ◌∙◌, subst, true≢false, arith}
use lib.Signed.{lt_z}
use Rattle.std.proofs.lemmas.Int.{ints, clamps}
use Rattle.std.proofs.lemmas.Bool.{cond_both}
use Rattle.model.specs.declared.range.Range.{Range}
use Rattle.model.specs.declared.line.Line.{Line}
use Rattle.model.specs.declared.line.Line.TheVariants.{Plain, Setting, Move, While, If, EndIf, EndWhile}
use Rattle.model.specs.Environments.{Env, at, Lies, LegalOf, full, registers}
use Rattle.domain.specs.Lattice.{Lattice, Meaning, Lawful}
use Rattle.sweep.specs.Sweeps.{hull, hull_of, hull_with, hulls_with, hulls_step}
use Rattle.sweep.specs.Sound.{LiesSome}

lies_not : (n : ℤ) (x : Range) → Lies n x → lt_z x.hi x.lo ≡ true → ⊥
lies_not n x h e = let a = h.low in let b = h.high in let f : lt_z x.hi x.lo ≡ false = grind (arith, ints) in true≢false (sym e ∙ f)

hull_left : (n : ℤ) (x y : Range) → Lies n x → Lies n (hull x y)
hull_left n x y h = let a = h.low in let b = h.high in record { low = omega (arith, ints, clamps); high = omega (arith, ints, clamps) }

hull_right : (n : ℤ) (x y : Range) → Lies n y → Lies n (hull x y)
hull_right n x y h = let a = h.low in let b = h.high in record { low = omega (arith, ints, clamps); high = omega (arith, ints, clamps) }

left_of : (n : ℤ) (h : Option Range) (y : Range) → LiesSome n h → LiesSome n (hull_of h y)
left_of n None y k = absurd k
left_of n (Some x) y k = hull_left n x y k

with_left : (n : ℤ) (h : Option Range) (y : Range) → LiesSome n h → LiesSome n (hull_with h y)
with_left n h y k = cond_both (lt_z y.hi y.lo) h (hull_of h y) (LiesSome n) (λ _. k) (λ _. left_of n h y k)

right_of : (n : ℤ) (h : Option Range) (y : Range) → Lies n y → LiesSome n (hull_of h y)
right_of n None y k = k
right_of n (Some x) y k = hull_right n x y k

with_right : (n : ℤ) (h : Option Range) (y : Range) → Lies n y → LiesSome n (hull_with h y)
with_right n h y k = cond_both (lt_z y.hi y.lo) h (hull_of h y) (LiesSome n) (λ e. absurd (lies_not n y k e)) (λ _. right_of n h y k)

module _ {S : Type 0} {M : Meaning S} (l : Lattice M) where
  hulls_keep : (r k : ℕ) (s : S) (hs : List (Option Range)) (n : ℤ) → LiesSome n (get_or hs k None) → LiesSome n (get_or (hulls_with l r s hs) k None)
  hulls_keep r k s [] n h = h
  hulls_keep r zero s (x ∷ hs) n h = with_left n x (l.range s r full) h
  hulls_keep r (suc k) s (x ∷ hs) n h = hulls_keep (suc r) k s hs n h

  pub step_keeps : (s : S) (hs : List (Option Range)) (x : Line) (k : ℕ) (n : ℤ) → LiesSome n (get_or hs k None) → LiesSome n (get_or (hulls_step l s hs x) k None)
  step_keeps s hs Plain k n h = h
  step_keeps s hs (Setting p v) k n h = h
  step_keeps s hs (Move g x y z u) k n h = hulls_keep 0 k s hs n h
  step_keeps s hs (While m c) k n h = h
  step_keeps s hs (If m c) k n h = h
  step_keeps s hs (EndIf m) k n h = h
  step_keeps s hs (EndWhile m) k n h = h

  hulls_long : (r : ℕ) (s : S) (hs : List (Option Range)) → length (hulls_with l r s hs) ≡ length hs
  hulls_long r s [] = refl
  hulls_long r s (x ∷ hs) = ap suc (hulls_long (suc r) s hs)

  pub step_long : (s : S) (hs : List (Option Range)) (x : Line) → length (hulls_step l s hs x) ≡ length hs
  step_long s hs Plain = refl
  step_long s hs (Setting p v) = refl
  step_long s hs (Move g x y z u) = hulls_long 0 s hs
  step_long s hs (While m c) = refl
  step_long s hs (If m c) = refl
  step_long s hs (EndIf m) = refl
  step_long s hs (EndWhile m) = refl

  pub hulls_hold : Lawful registers l → (r k : ℕ) (s : S) (hs : List (Option Range)) (e : Env) → r + length hs ≤ registers → k < length hs → LegalOf registers e → M s e →
      LiesSome (at e (r + k)) (get_or (hulls_with l r s hs) k None)
  hulls_hold p r k s [] e h j w m = absurd (omega arith)
  hulls_hold p r zero s (x ∷ hs) e h j w m =
      let z : r + 0 ≡ r = omega arith in
      subst (λ (o : ℕ). LiesSome (at e o) (hull_with x (l.range s r full))) (sym z) (with_right _ x _ (p.range_holds s r full e (omega arith) w m (w.fits r)))
  hulls_hold p r (suc k) s (x ∷ hs) e h j w m =
      let z : suc r + k ≡ r + suc k = omega arith in
      subst (λ (o : ℕ). LiesSome (at e o) (get_or (hulls_with l (suc r) s hs) k None)) z (hulls_hold p (suc r) k s hs e (omega arith) (omega arith) w m)
