-- A text cut at its first line feed.
use Rattle.std.proofs.Common.{◌≡◌, ℕ, suc, ◌+◌, ◌-◌, ◌<◌, ◌≤◌, Bool, true, false, cond, eqb, List, [], ◌∷◌, length, take, drop, Option, MatchOption, unwrap_or, sym, refl, subst, add-one, arith, length-append}
use Rattle.std.proofs.lemmas.Bool.{eqb-true}
use Rattle.std.proofs.lemmas.Iterator.{index_from_first}
use Rattle.std.proofs.lemmas.List.{take_rest}
use Rattle.std.specs.List.{AllWithin, HoldsAt}
use Rattle.words.specs.Cuts.{until}
use Rattle.console.specs.Lines.{lines_of, FirstLine, fed, unfed}
use Rattle.console.proofs.LineFeeds.{one_line, last_only}

-- a byte that is no line feed in front
in_front : (b : ℕ) (bs l rest : List ℕ) → eqb b 10 ≡ false → FirstLine bs l rest → FirstLine (b ∷ bs) (b ∷ l) rest
in_front b bs l rest e (fed m r h) = fed (b ∷ m) r (e, h)
in_front b bs l rest e (unfed c cs h) = unfed b (c ∷ cs) (e, h)

-- the line feed is there
fed_at : (bs : List ℕ) → until 10 bs < length bs → FirstLine bs (take (until 10 bs) bs) (drop (until 10 bs + 1) bs)
fed_at [] h = absurd (omega arith)
fed_at (b ∷ bs) h = go (eqb b 10) refl (fed_at bs) h
  where
    go : (t : Bool) → eqb b 10 ≡ t → (until 10 bs < length bs → FirstLine bs (take (until 10 bs) bs) (drop (until 10 bs + 1) bs)) → cond t 0 (until 10 bs + 1) < length (b ∷ bs) → FirstLine (b ∷ bs) (take (cond t 0 (until 10 bs + 1)) (b ∷ bs)) (drop (cond t 0 (until 10 bs + 1) + 1) (b ∷ bs))
    go true e more q = subst (λ c. FirstLine (c ∷ bs) [] bs) (sym (eqb-true b 10 e)) (fed [] bs tt)
    go false e more q = rw (add-one (until 10 bs), add-one (suc (until 10 bs))) (in_front b bs (take (until 10 bs) bs) (drop (suc (until 10 bs)) bs) e (subst (λ k. FirstLine bs (take (until 10 bs) bs) (drop k bs)) (add-one (until 10 bs)) (more (omega arith))))

-- it is not
unfed_at : (b : ℕ) (bs : List ℕ) → length (b ∷ bs) ≤ until 10 (b ∷ bs) → FirstLine (b ∷ bs) (b ∷ bs) []
unfed_at b [] h = go (eqb b 10) refl h
  where
    go : (t : Bool) → eqb b 10 ≡ t → 1 ≤ cond t 0 1 → FirstLine (b ∷ []) (b ∷ []) []
    go true e q = absurd (omega arith)
    go false e q = unfed b [] (e, tt)
unfed_at b (a ∷ bs) h = go (eqb b 10) refl (unfed_at a bs) h
  where
    go : (t : Bool) → eqb b 10 ≡ t → (length (a ∷ bs) ≤ until 10 (a ∷ bs) → FirstLine (a ∷ bs) (a ∷ bs) []) → length (b ∷ a ∷ bs) ≤ cond t 0 (until 10 (a ∷ bs) + 1) → FirstLine (b ∷ a ∷ bs) (b ∷ a ∷ bs) []
    go true e more q = absurd (omega arith)
    go false e more q = in_front b (a ∷ bs) (a ∷ bs) [] e (more (omega arith))

-- what a first line says of all lines
pub lines_by_first : (bs l rest : List ℕ) → FirstLine bs l rest → (lines_of bs ≡ l ∷ lines_of rest) × (length rest < length bs)
lines_by_first bs l rest (fed m r h) = (sym (one_line m r h), rw length-append (omega arith))
lines_by_first bs l rest (unfed b cs h) = (sym (last_only b cs h), omega arith)

-- where a search finds the byte, or that there is none
pub stop_at : (stop : ℕ) (bs : List ℕ) (r : Option ℕ) → MatchOption r (AllWithin (λ b. eqb b stop ≡ false) bs 0 (length bs)) (λ i. (i < length bs) × HoldsAt (λ b. eqb b stop ≡ true) bs i × AllWithin (λ b. eqb b stop ≡ false) bs 0 i) → until stop bs ≡ unwrap_or r (length bs)
stop_at stop = index_from_first (until stop) (λ b. eqb b stop ≡ true) (λ b. eqb b stop ≡ false) refl (λ b bs e. rw e refl) (λ b bs e. rw e refl)

-- the two ways of `first_line`
pub line_there : (bs : List ℕ) (n : ℕ) → until 10 bs ≡ n → n < length bs → FirstLine bs (take n bs) (take (length bs - (n + 1)) (drop (n + 1) bs))
line_there bs n e h = rw (take_rest bs (n + 1)) (subst (λ k. FirstLine bs (take k bs) (drop (k + 1) bs)) e (fed_at bs (subst (λ k. k < length bs) (sym e) h)))

pub line_last : (bs : List ℕ) → until 10 bs ≡ length bs → (length bs ≡ 0 → ⊥) → FirstLine bs bs []
line_last [] e some = absurd (some refl)
line_last (b ∷ bs) e some = unfed_at b bs (omega (arith, e))
