-- States that follow one environment, or none, through values, sides and the start.
use Rattle.std.proofs.Common.{◌≡◌, ℕ, suc, ◌+◌, ◌≤◌, Bool, true, cond, ◌&&◌, List, [], ◌∷◌, ◌++◌, map, length, get_or, drop, set, ℤ, pos, Some, None, Option, sym, refl, ap, ◌∙◌, subst, ap₂, arith, length-drop}
use Rattle.std.proofs.lemmas.Bool.{and_parts}
use Rattle.std.proofs.lemmas.List.{take_all}
use Rattle.std.specs.List.{AllByRecursion}
use Rattle.model.specs.declared.range.Range.{Range}
use Rattle.model.specs.declared.side.Side.{Side}
use Rattle.model.specs.Axes.{Position}
use Rattle.model.specs.Envelopes.{Envelope}
use Rattle.model.specs.Environments.{Env, at, LegalOf, registers, axes, parameters, position}
use Rattle.model.specs.Values.{expression_of, result, all_fine, Values}
use Rattle.model.specs.Written.{WrittenValues}
use Rattle.model.specs.Sides.{Proper, kept, lowest}
use Rattle.model.specs.Runs.{put}
use Rattle.model.proofs.Numbers.{faultless_fit}
use Rattle.model.proofs.Parameters.{Agree, result_agree, agree_set, fine_agree}
use Rattle.domain.specs.Lattice.{Lattice, Meaning, single}
use Rattle.domain.specs.Tracking.{Sharpens, begin, pin, Tracking}
use Rattle.domain.specs.Environments.{legal_set}
use Rattle.sweep.specs.Starts.{home_ranges, narrowed, start}
use Rattle.sweep.specs.Sweeps.{set_all, all_sure}
use Rattle.sweep.specs.Exact.{values_of}
use Rattle.sweep.proofs.Values.{written_expression}

-- two tests that agree on the proper sides refuse the same one first
lowest_same : (s t : Side → Bool) (n : ℕ) (ds : List Side) → AllByRecursion Proper ds → ((d : Side) → Proper d → s d ≡ t d) → lowest s n ds ≡ lowest t n ds
lowest_same s t n [] proper h = refl
lowest_same s t n (d ∷ ds) proper h = ap₂ (λ (b : Bool) (o : Option ℕ). cond b o (Some n)) (h d proper.0) (lowest_same s t (suc n) ds proper.1 h)

-- a test that passes every side refuses none
lowest_none : (s : Side → Bool) (n : ℕ) (ds : List Side) → ((d : Side) → s d ≡ true) → lowest s n ds ≡ None
lowest_none s n [] h = refl
lowest_none s n (d ∷ ds) h = ap (λ (b : Bool). cond b (lowest s (suc n) ds) (Some n)) (h d) ∙ lowest_none s (suc n) ds h

-- the parameters are what follows the axes
values_last : (e : Env) → length e ≡ registers → values_of e ≡ drop axes e
values_last e h = let k = length-drop axes e in take_all parameters (drop axes e) (omega arith)

-- an environment's single ranges, axes first
singles : (e : Env) → length e ≡ registers → home_ranges (position e) ++ map single (drop axes e) ≡ map single e
singles [] h = absurd (omega arith)
singles (a ∷ []) h = absurd (omega arith)
singles (a ∷ (b ∷ [])) h = absurd (omega arith)
singles (a ∷ (b ∷ (c ∷ []))) h = absurd (omega arith)
singles (a ∷ (b ∷ (c ∷ (d ∷ e)))) h = refl

-- narrowing the rest of the registers to their own values
module _ {S : Type 0} {M : Meaning S} (l : Lattice M) (e : Env) where
  pinned : (n : ℕ) (rest : List ℤ) (s : S) → n + length rest ≡ registers → ((k : ℕ) → get_or rest k (pos 0) ≡ at e (n + k)) → Sharpens registers l e n s →
      Sharpens registers l e registers (narrowed l n (map single rest) s)
  pinned n [] s h a k = let q : n ≡ registers = omega arith in subst (λ (m : ℕ). Sharpens registers l e m s) q k
  pinned n (z ∷ rest) s h a k =
      let q : n + 0 ≡ n = omega arith in
      let same : z ≡ at e n = a 0 ∙ ap (at e) q in
      let P : ℤ → Type 0 = λ y. Sharpens registers l e (suc n) (l.narrow s n (single y)) in
      pinned (suc n) rest _ (omega arith) (λ j. let o : n + suc j ≡ suc n + j = omega arith in a (suc j) ∙ ap (at e) o) (subst P (sym same) (pin (omega arith) k))

module _ {S : Type 0} {M : Meaning S} (l : Lattice M) (tracks : S → Option Env → Type 0) (q : Tracking registers l tracks) where
  -- the one environment that begins at home with its own values is followed from the start
  pub start_tracks : (t : Envelope) (e : Env) → LegalOf registers e → position e ≡ t.home → tracks (start l t (map single (values_of e))) (Some e)
  start_tracks t e w at_home =
      let long = w.whole in
      let sharp = pinned l e 0 e l.any (omega arith) (λ k. let o : k ≡ 0 + k = omega arith in ap (at e) o) begin in
      let all : home_ranges t.home ++ map single (values_of e) ≡ map single e =
      ap₂ (λ (p : Position) (ns : List ℤ). home_ranges p ++ map single ns) (sym at_home) (values_last e long) ∙ singles e long in
      subst (λ (xs : List Range). tracks (narrowed l 0 xs l.any) (Some e)) (sym all) (q.start _ e w sharp)

  pub sure_is_fine : (s : S) (vs : Values) (e : Env) → WrittenValues vs → LegalOf registers e → tracks s (Some e) → all_sure l s vs ≡ all_fine e vs
  sure_is_fine s [] e w k h = refl
  sure_is_fine s (None ∷ vs) e w k h = sure_is_fine s vs e w k h
  sure_is_fine s (Some v ∷ vs) e w k h = ap₂ ◌&&◌ (q.sure_value s (expression_of v) e (written_expression v w.0) k h) (sure_is_fine s vs e w.1 k h)

  pub sure_at_none : (s : S) (vs : Values) → tracks s None → all_sure l s vs ≡ true
  sure_at_none s [] h = refl
  sure_at_none s (None ∷ vs) h = sure_at_none s vs h
  sure_at_none s (Some v ∷ vs) h = ap₂ ◌&&◌ (q.sure_none s (expression_of v) h) (sure_at_none s vs h)

  pub set_all_tracks : (old : Env) (r : ℕ) (vs : Values) (e : Env) (s : S) → r + length vs ≤ axes → Agree e old → WrittenValues vs → all_fine old vs ≡ true → LegalOf registers e →
      tracks s (Some e) → tracks (set_all l r vs s) (Some (put old r vs e))
  set_all_tracks old r [] e s k a v f w h = h
  set_all_tracks old r (None ∷ vs) e s k a v f w h = set_all_tracks old (suc r) vs e s (omega arith) a v f w h
  set_all_tracks old r (Some x ∷ vs) e s k a v f w h =
      let g = and_parts _ _ f in
      let m = q.set_value s r (expression_of x) e (omega arith) (written_expression x v.0) w h (fine_agree e old x a g.0) in
      let P : ℤ → Type 0 = λ n. tracks (l.set s r (expression_of x)) (Some (set e r n)) in
      set_all_tracks old (suc r) vs (set e r (result old x)) (l.set s r (expression_of x)) (omega arith) (agree_set e old r _ (omega arith) a) v.1 g.1
      (legal_set registers e r _ w (omega arith) (faultless_fit old (expression_of x) g.0)) (subst P (result_agree e old x a) m)

  pub set_all_none : (r : ℕ) (vs : Values) (s : S) → r + length vs ≤ axes → tracks s None → tracks (set_all l r vs s) None
  set_all_none r [] s k h = h
  set_all_none r (None ∷ vs) s k h = set_all_none (suc r) vs s (omega arith) h
  set_all_none r (Some v ∷ vs) s k h = set_all_none (suc r) vs (l.set s r (expression_of v)) (omega arith) (q.set_none s r (expression_of v) (omega arith) h)

  pub shows_is_kept : (s : S) (ds : List Side) (e : Env) → AllByRecursion Proper ds → LegalOf registers e → tracks s (Some e) → lowest (l.shows s) 0 ds ≡ lowest (kept (position e)) 0 ds
  shows_is_kept s ds e proper w h = lowest_same (l.shows s) (kept (position e)) 0 ds proper (λ d g. q.shows_value s d e g w h)

  pub shows_at_none : (s : S) (ds : List Side) → tracks s None → lowest (l.shows s) 0 ds ≡ None
  shows_at_none s ds h = lowest_none (l.shows s) 0 ds (λ d. q.shows_none s d h)
