-- Each text has its lines, and no others.
use Rattle.std.proofs.Common.{◌≡◌, ℕ, Bool, true, false, cond, eqb, List, [], ◌∷◌, ◌++◌, sym, refl, ap, ◌∙◌, subst}
use Rattle.std.proofs.lemmas.Bool.{eqb-true}
use Rattle.console.specs.Lines.{lines_of, NoFeed, LinesAre, none, last, more}
use Rattle.words.specs.Cuts.{before}

one_before : (b : ℕ) (bs : List ℕ) (ls : List (List ℕ)) → eqb b 10 ≡ false → LinesAre bs ls → LinesAre (b ∷ bs) (before b ls)
one_before b bs ls e none = last b [] (e, tt)
one_before b bs ls e (last c cs h) = last b (c ∷ cs) (e, h)
one_before b bs ls e (more l rest ms h m) = more (b ∷ l) rest ms (e, h) m

pub are_lines : (bs : List ℕ) → LinesAre bs (lines_of bs)
are_lines [] = none
are_lines (b ∷ bs) = go (eqb b 10) refl (are_lines bs)
  where
    go : (t : Bool) → eqb b 10 ≡ t → LinesAre bs (lines_of bs) → LinesAre (b ∷ bs) (cond t ([] ∷ lines_of bs) (before b (lines_of bs)))
    go true e m = subst (λ c. LinesAre (c ∷ bs) ([] ∷ lines_of bs)) (sym (eqb-true b 10 e)) (more [] bs (lines_of bs) tt m)
    go false e m = one_before b bs (lines_of bs) e m

pub last_only : (b : ℕ) (bs : List ℕ) → NoFeed (b ∷ bs) → (b ∷ bs) ∷ [] ≡ lines_of (b ∷ bs)
last_only b [] h = rw h.0
last_only b (c ∷ cs) h = rw h.0 (ap (before b) (last_only c cs h.1))

pub one_line : (l rest : List ℕ) → NoFeed l → l ∷ lines_of rest ≡ lines_of (l ++ (10 ∷ rest))
one_line [] rest h = refl
one_line (b ∷ l) rest h = rw h.0 (ap (before b) (one_line l rest h.1))

pub no_others : (bs : List ℕ) (ls : List (List ℕ)) → LinesAre bs ls → ls ≡ lines_of bs
no_others bs ls none = refl
no_others bs ls (last b cs h) = last_only b cs h
no_others bs ls (more l rest ms h m) = ap (λ ns. l ∷ ns) (no_others rest ms m) ∙ one_line l rest h
