-- What is known of a text once some lines in front of it are passed.
use Rattle.std.proofs.Common.{◌≡◌, ℕ, false, eqb, ◌-◌, List, [], ◌∷◌, ◌++◌, length, take, refl, sym, ap, ◌∙◌, subst, arith, length-append}
use Rattle.std.proofs.lemmas.List.{append_assoc, append-nil}
use Rattle.std.proofs.Math.Seq.{take-append_seam}
use lib.Pointwise.{pointwise, bytes_decides}
use Rattle.console.specs.Lines.{lines_of, NoFeed, FirstLine, fed, unfed}
use Rattle.console.proofs.Cuts.{lines_by_first}
use Rattle.console.proofs.LineFeeds.{one_line, last_only}
use Rattle.batch.specs.Inputs.{marker, Unmarked, FirstInput}

-- what is passed of a text where rest is left
abbrev pub seen : List ℕ → List ℕ → List ℕ
seen bs rest = take (length bs - length rest) bs

pub record Passed (bs rest : List ℕ) : Type 0 where
  pub joined : bs ≡ seen bs rest ++ rest
  pub found : (i m : List ℕ) → FirstInput rest i m → FirstInput bs (seen bs rest ++ i) m
  pub missed : Unmarked (lines_of rest) → Unmarked (lines_of bs)

seen_of : (bs xs rest : List ℕ) → bs ≡ xs ++ rest → seen bs rest ≡ xs
seen_of bs xs rest e =
    let n : length bs - length rest ≡ length xs = rw (e, length-append) (omega arith) in
    ap (λ k. take k bs) n ∙ ap (take (length xs)) e ∙ take-append_seam xs rest

pub at_first : (bs : List ℕ) → Passed bs bs
at_first bs =
    let none : seen bs bs ≡ [] = seen_of bs [] bs refl in
    record {
      joined = sym (ap (λ s. s ++ bs) none);
      found = λ i m f. subst (λ s. FirstInput bs (s ++ i) m) (sym none) f;
      missed = λ u. u;
    }

-- a line that is not found equal to the marker is another
pub apart : (l m k : List ℕ) → m ≡ k → false ≡ pointwise eqb l m → l ≡ k → ⊥
apart l m k e f h = absurd (cc (f ∙ (bytes_decides l m).1 (h ∙ sym e)))

-- nothing has no first line
no_line : (bs l r : List ℕ) → bs ≡ [] → FirstLine bs l r → ⊥
no_line bs l r e f =
    let z : length bs ≡ 0 = ap length e in
    absurd (omega (arith, z, (lines_by_first bs l r f).1))

no_input : (i m : List ℕ) → FirstInput [] i m → ⊥
no_input [] m f = no_line f.from_marker marker m (sym f.cut) f.marked
no_input (b ∷ i) m f = let z : 0 ≡ length (b ∷ (i ++ f.from_marker)) = ap length f.cut in absurd (omega (arith, z))

-- a line that is no marker belongs to the input
longer : (l r i m : List ℕ) → NoFeed l → (l ≡ marker → ⊥) → FirstInput r i m → FirstInput (l ++ (10 ∷ r)) (l ++ (10 ∷ i)) m
longer l r i m h other f = record {
  from_marker = f.from_marker;
  cut = ap (λ s. l ++ (10 ∷ s)) f.cut ∙ sym (append_assoc l (10 ∷ i) f.from_marker);
  marked = f.marked;
  lines = sym (one_line l r h) ∙ ap (λ ls. l ∷ ls) f.lines ∙ ap (λ ls. ls ++ lines_of f.from_marker) (one_line l i h);
  unmarked = subst Unmarked (one_line l i h) (other, f.unmarked);
}

pub one_more : (bs rest l more : List ℕ) → Passed bs rest → FirstLine rest l more → (l ≡ marker → ⊥) → Passed bs more
one_more bs _ l more p (fed _ _ h) other =
    let rest = l ++ (10 ∷ more) in
    let joined : bs ≡ (seen bs rest ++ (l ++ (10 ∷ []))) ++ more = p.joined ∙ ap (λ s. seen bs rest ++ s) (sym (append_assoc l (10 ∷ []) more)) ∙ sym (append_assoc (seen bs rest) (l ++ (10 ∷ [])) more) in
    let e = seen_of bs (seen bs rest ++ (l ++ (10 ∷ []))) more joined in
    record {
      joined = joined ∙ ap (λ s. s ++ more) (sym e);
      found = λ i m f. subst (λ s. FirstInput bs s m) (ap (λ s. seen bs rest ++ s) (sym (append_assoc l (10 ∷ []) i)) ∙ sym (append_assoc (seen bs rest) (l ++ (10 ∷ [])) i) ∙ ap (λ s. s ++ i) (sym e)) (p.found (l ++ (10 ∷ i)) m (longer l more i m h other f));
      missed = λ u. p.missed (subst Unmarked (one_line l more h) (other, u));
    }
one_more bs _ _ _ p (unfed b cs h) other =
    let joined = p.joined in
    let e = seen_of bs bs [] (sym (append-nil bs)) in
    record {
      joined = sym (append-nil bs) ∙ ap (λ s. s ++ []) (sym e);
      found = λ i m f. absurd (no_input i m f);
      missed = λ u. p.missed (subst Unmarked (last_only b cs h) (other, u));
    }

-- the marker ends the input
pub ends : (bs rest l more : List ℕ) → Passed bs rest → FirstLine rest l more → l ≡ marker → FirstInput bs (seen bs rest) more
ends bs rest l more p f e = subst (λ s. FirstInput bs s more) (append-nil (seen bs rest)) (p.found [] more (record {
  from_marker = rest;
  cut = refl;
  marked = subst (λ k. FirstLine rest k more) e f;
  lines = refl;
  unmarked = tt;
}))

-- where nothing is left no line was the marker
pub none_left : (bs rest : List ℕ) → Passed bs rest → rest ≡ [] → Unmarked (lines_of bs)
none_left bs rest p e = p.missed (subst (λ s. Unmarked (lines_of s)) (sym e) tt)
