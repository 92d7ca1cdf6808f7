-- The label of a block has a number of its own, below the number of blocks.
use Rattle.std.proofs.Common.{◌≡◌, ℕ, zero, suc, ◌+◌, ◌<◌, Bool, true, false, cond, eqb, ◌⊎◌, List, [], ◌∷◌, length, get_or, Some, refl, ap, ◌∙◌, inl, inr, arith}
use Rattle.std.proofs.lemmas.Bool.{eqb-true, eqb-false}
use Rattle.model.specs.declared.block.Role.{Role}
use Rattle.model.specs.declared.block.Role.TheVariants.{Opens, Ends, Neither}
use Rattle.model.specs.declared.line.Line.{Line}
use Rattle.model.specs.Blocks.{role_of, label_before, labels, place_from}
use Rattle.model.specs.Programs.{Stands, opening}
use Rattle.model.proofs.Standing.{stands_earlier, some_one, none_some}

abbrev pub Among : ℕ → List ℕ → Type 0
Among l [] = ⊥
Among l (m ∷ ms) = (m ≡ l) ⊎ Among l ms

-- the place of a label, counted from n, and that the label is there
pub record Placed (n : ℕ) (ls : List ℕ) (l : ℕ) : Type 0 where
  pub ahead : ℕ
  pub found : place_from n ls l ≡ Some (n + ahead)
  pub inner : ahead < length ls
  pub is : get_or ls ahead 0 ≡ l

placed_by : (n m l : ℕ) (ms : List ℕ) (t : Bool) → eqb m l ≡ t → (m ≡ l) ⊎ Among l ms → (Among l ms → Placed (n + 1) ms l) → Placed n (m ∷ ms) l
placed_by n m l ms true e h more = record {
  ahead = 0;
  found = ap (λ (b : Bool). cond b (Some n) (place_from (n + 1) ms l)) e ∙ ap Some (omega arith);
  inner = omega arith;
  is = eqb-true m l e;
}
placed_by n m l ms false e (inl q) more = absurd (eqb-false m l e q)
placed_by n m l ms false e (inr q) more =
    let p = more q in
    let i = p.inner in
    record {
      ahead = suc p.ahead;
      found = ap (λ (b : Bool). cond b (Some n) (place_from (n + 1) ms l)) e ∙ (p.found ∙ ap Some (omega arith));
      inner = omega arith;
      is = p.is;
    }

pub placed : (n : ℕ) (ls : List ℕ) (l : ℕ) → Among l ls → Placed n ls l
placed n [] l h = absurd h
placed n (m ∷ ms) l h = placed_by n m l ms (eqb m l) refl h (placed (n + 1) ms l)

among_later : (r : Role) (l : ℕ) (ls : List ℕ) → Among l ls → Among l (label_before r ls)
among_later (Opens k m c) l ls h = inr h
among_later (Ends k m) l ls h = h
among_later Neither l ls h = h

among_first : (r : Role) (l : ℕ) (ls : List ℕ) → opening r ≡ Some l → Among l (label_before r ls)
among_first (Opens k m c) l ls e = inl (some_one e)
among_first (Ends k m) l ls e = absurd (none_some e)
among_first Neither l ls e = absurd (none_some e)

-- a line that opens a block has its label among the labels
pub opens_among : (lines : List Line) (i l : ℕ) (x : Line) → Stands lines i x → opening (role_of x) ≡ Some l → Among l (labels lines)
opens_among [] i l x st h = absurd (let k = st.inner in omega arith)
opens_among (y ∷ ys) zero l x st h = among_first (role_of y) l (labels ys) (ap (λ (z : Line). opening (role_of z)) st.is ∙ h)
opens_among (y ∷ ys) (suc i) l x st h = among_later (role_of y) l (labels ys) (opens_among ys i l x (stands_earlier st) h)
