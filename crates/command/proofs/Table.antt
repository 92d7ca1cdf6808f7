-- The first entry of a table that has the text.
use Rattle.std.proofs.Common.{◌≡◌, ℕ, zero, suc, ◌<◌, true, false, List, [], ◌∷◌, length, Some, None, Option, option_map, MatchOption, Bor, refl, arith}
use Rattle.std.specs.List.{AllWithin, HoldsAt}
use Rattle.std.specs.Str.{bytes_eq}
use Rattle.command.specs.Tables.{first_of}

abbrev pub Entry : Type 0 → Type 0
Entry A = Bor (List ℕ) × A

pub first_is : {A : Type 0} (w : List ℕ) (ps : List (Entry A)) (r : Option (Bor (Entry A))) → MatchOption r (AllWithin (λ p. bytes_eq w p.0.now ≡ false) ps 0 (length ps)) (λ x. (bytes_eq w x.now.0.now ≡ true) × (i : ℕ) × (i < length ps) × HoldsAt (λ y. y ≡ x.now) ps i × AllWithin (λ p. bytes_eq w p.0.now ≡ false) ps 0 i) → option_map (λ x. x.now.1) r ≡ first_of w ps
first_is w [] None h = refl
first_is w [] (Some x) h = absurd (let lt = h.2 in omega arith)
first_is w (p ∷ ps) None h = rw (h 0 p (omega arith) (omega arith)) (first_is w ps None (λ k d lo hi. h (suc k) d (omega arith) (omega arith)))
first_is w (p ∷ ps) (Some x) (y, zero, lt, here, none) = rw (here p, y) refl
first_is w (p ∷ ps) (Some x) (y, suc i, lt, here, none) = rw (none 0 p (omega arith) (omega arith)) (first_is w ps (Some x) (y, i, omega arith, (λ d. here d), (λ k d lo hi. none (suc k) d (omega arith) (omega arith))))
