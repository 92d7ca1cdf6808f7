-- The lowest value outside its range is the first that is met through ranges and values side by side; where there is none, each lies in its own.
use Rattle.std.proofs.Common.{◌≡◌, ℕ, zero, suc, ◌+◌, ◌<◌, Bool, true, false, cond, not, ltb, List, [], ◌∷◌, length, get_or, ℤ, pos, Some, None, Option, zip, option_map, refl, ap, ◌∙◌, arith}
use Rattle.std.specs.List.{position_or_len}
use Rattle.std.proofs.lemmas.Bool.Decides.{nat_tests}
use Rattle.model.specs.declared.range.Range.{Range}
use Rattle.model.specs.Environments.{Lies, lies, full}
use Rattle.session.specs.Answers.{outside_from}
use Rattle.model.proofs.Numbers.{lies_in}

abbrev pub is_outside : Range × ℤ → Bool
is_outside q = not (lies q.1 q.0)

-- a place before the end, counted from n
abbrev pub counted : ℕ → ℕ → ℕ → Option ℕ
counted n i end = cond (ltb i end) (Some (i + n)) None

one_on : (n i end : ℕ) → counted (suc n) i end ≡ counted n (1 + i) (suc end)
one_on n i end = by (ltb i end) refl
  where
    by : (t : Bool) → ltb i end ≡ t → cond t (Some (i + suc n)) None ≡ counted n (1 + i) (suc end)
    by true h = let e : ltb (1 + i) (suc end) ≡ true = grind (arith, nat_tests) in rw e (ap Some (omega arith))
    by false h = let e : ltb (1 + i) (suc end) ≡ false = grind (arith, nat_tests) in rw e refl

pub outside_found : (n : ℕ) (rs : List Range) (vs : List ℤ) → outside_from n rs vs ≡ counted n (position_or_len is_outside (zip rs vs)) (length (zip rs vs))
outside_found n [] vs = refl
outside_found n (r ∷ rs) [] = refl
outside_found n (r ∷ rs) (v ∷ vs) = by (lies v r) (outside_found (suc n) rs vs)
  where
    by : (t : Bool) → outside_from (suc n) rs vs ≡ counted (suc n) (position_or_len is_outside (zip rs vs)) (length (zip rs vs)) → cond t (outside_from (suc n) rs vs) (Some n) ≡ counted n (cond (not (not t)) (1 + position_or_len is_outside (zip rs vs)) 0) (suc (length (zip rs vs)))
    by true rest = rest ∙ one_on n (position_or_len is_outside (zip rs vs)) (length (zip rs vs))
    by false rest = let e : ltb 0 (suc (length (zip rs vs))) ≡ true = grind (arith, nat_tests) in rw e (ap Some (omega arith))

-- the code counts from 0, and then adds 1
pub counted_on : (i end : ℕ) → option_map (λ (k : ℕ). k + 1) (cond (ltb i end) (Some i) None) ≡ counted 1 i end
counted_on i end = by (ltb i end)
  where
    by : (t : Bool) → option_map (λ (k : ℕ). k + 1) (cond t (Some i) None) ≡ cond t (Some (i + 1)) None
    by true = refl
    by false = refl

abbrev pub EachInside : List Range → List ℤ → Type 0
EachInside rs vs = (k : ℕ) → k < length rs → k < length vs → Lies (get_or vs k (pos 0)) (get_or rs k full)

pub none_outside : (n : ℕ) (rs : List Range) (vs : List ℤ) → outside_from n rs vs ≡ None → EachInside rs vs
none_outside n [] vs e k l m = absurd (omega arith)
none_outside n (r ∷ rs) [] e k l m = absurd (omega arith)
none_outside n (r ∷ rs) (v ∷ vs) e k l m = by (lies v r) refl e (λ d. none_outside (suc n) rs vs d) k l m
  where
    by : (t : Bool) → lies v r ≡ t → cond t (outside_from (suc n) rs vs) (Some n) ≡ None → (outside_from (suc n) rs vs ≡ None → EachInside rs vs) → (k : ℕ) → k < suc (length rs) → k < suc (length vs) → Lies (get_or (v ∷ vs) k (pos 0)) (get_or (r ∷ rs) k full)
    by true h e rest zero l m = lies_in v r h
    by true h e rest (suc k) l m = rest e k (omega arith) (omega arith)
    by false h e rest k l m = cc
