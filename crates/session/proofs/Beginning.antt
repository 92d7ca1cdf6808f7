-- Runs begin at home with the values that are given, where these are within the limit.
use Rattle.std.proofs.Common.{◌≡◌, ℕ, zero, suc, ◌+◌, ◌<◌, Bool, true, false, ltb, List, [], ◌∷◌, length, get_or, ℤ, pos, None, sym, refl, ap, ◌∙◌, subst, arith}
use Rattle.std.proofs.lemmas.List.{get_or_past}
use Rattle.std.proofs.lemmas.Int.{ints}
use Rattle.std.proofs.lemmas.Bool.Decides.{nat_tests}
use Rattle.std.specs.List.{list_all}
use Rattle.model.specs.declared.range.Range.{Range}
use Rattle.model.specs.Axes.{Position}
use Rattle.model.specs.Environments.{Env, Lies, LegalOf, at, axes, full, parameters, registers}
use Rattle.model.specs.Reached.{Begins}
use Rattle.travel.specs.Travels.{Limited}
use Rattle.runner.specs.Drying.{start}
use Rattle.session.specs.Answers.{is_proper, outside_from}
use Rattle.session.proofs.Proper.{proper_fits, each_passes}
use Rattle.session.proofs.Outside.{none_outside}

abbrev pub LimitedAll : Position → Type 0
LimitedAll p = Limited p.x × Limited p.y × Limited p.z × Limited p.u

-- ---- six values
abbrev Six : List ℤ → List ℤ
Six vs = get_or vs 0 (pos 0) ∷ (get_or vs 1 (pos 0) ∷ (get_or vs 2 (pos 0) ∷ (get_or vs 3 (pos 0) ∷ (get_or vs 4 (pos 0) ∷ (get_or vs 5 (pos 0) ∷ [])))))

pub six : (vs : List ℤ) → length vs ≡ parameters → Six vs ≡ vs
six [] h = absurd (omega arith)
six (a ∷ []) h = absurd (omega arith)
six (a ∷ (b ∷ [])) h = absurd (omega arith)
six (a ∷ (b ∷ (c ∷ []))) h = absurd (omega arith)
six (a ∷ (b ∷ (c ∷ (d ∷ [])))) h = absurd (omega arith)
six (a ∷ (b ∷ (c ∷ (d ∷ (e ∷ []))))) h = absurd (omega arith)
six (a ∷ (b ∷ (c ∷ (d ∷ (e ∷ (f ∷ [])))))) h = refl
six (a ∷ (b ∷ (c ∷ (d ∷ (e ∷ (f ∷ (g ∷ vs))))))) h = absurd (omega arith)

-- the axes at home, and then the values
abbrev From : Position → List ℤ → Env
From home vs = home.x ∷ (home.y ∷ (home.z ∷ (home.u ∷ vs)))

start_is : (home : Position) (vs : List ℤ) → length vs ≡ parameters → start home vs ≡ From home vs
start_is home vs h = ap (From home) (six vs h)

-- ---- legal
limited_fits : (n : ℤ) → Limited n → Lies n full
limited_fits n h = record { low = h.0; high = h.1 }

zero_fits : Lies (pos 0) full
zero_fits = record { low = grind (arith, ints); high = grind (arith, ints) }

module _ (home : Position) (vs : List ℤ) (limited : LimitedAll home) (many : length vs ≡ parameters) (fits : (k : ℕ) → k < length vs → Lies (get_or vs k (pos 0)) full) where
  value_fits : (k : ℕ) → Lies (get_or vs k (pos 0)) full
  value_fits k = by (ltb k (length vs)) refl
    where
      by : (t : Bool) → ltb k (length vs) ≡ t → Lies (get_or vs k (pos 0)) full
      by true h = fits k (grind (arith, nat_tests))
      by false h = subst (λ (n : ℤ). Lies n full) (sym (get_or_past vs k (pos 0) (grind (arith, nat_tests)))) zero_fits

  register_fits : (r : ℕ) → Lies (at (From home vs) r) full
  register_fits zero = limited_fits home.x limited.0
  register_fits (suc zero) = limited_fits home.y limited.1
  register_fits (suc (suc zero)) = limited_fits home.z limited.2
  register_fits (suc (suc (suc zero))) = limited_fits home.u limited.3
  register_fits (suc (suc (suc (suc k)))) = value_fits k

  pub start_legal : LegalOf registers (start home vs)
  start_legal = subst (LegalOf registers) (sym (start_is home vs many)) (record { whole = omega arith; fits = register_fits })

-- ---- allowed values
module _ (home : Position) (allowed : List Range) (vs : List ℤ) (limited : LimitedAll home) (six_ranges : length allowed ≡ parameters) (many : length vs ≡ parameters) (proper : list_all is_proper allowed ≡ true)
    (inside : outside_from 1 allowed vs ≡ None) where
  fits : (k : ℕ) → k < length vs → Lies (get_or vs k (pos 0)) full
  fits k l = proper_fits _ (get_or allowed k full) (each_passes is_proper allowed k full proper (omega arith)) (none_outside 1 allowed vs inside k (omega arith) l)

  parameter_at : (k : ℕ) → at (From home vs) (axes + k) ≡ get_or vs k (pos 0)
  parameter_at k = let e : axes + k ≡ suc (suc (suc (suc k))) = omega arith in ap (at (From home vs)) e

  pub start_begins : Begins home allowed (start home vs)
  start_begins = record {
    legal = start_legal home vs limited many fits;
    at_home = refl;
    values = λ k l. subst (λ (n : ℤ). Lies n (get_or allowed k full)) (sym (ap (λ (e : Env). at e (axes + k)) (start_is home vs many) ∙ parameter_at k)) (none_outside 1 allowed vs inside k l (omega arith));
  }
