-- In a closed program the block of a label, and its end, are found at the lines that bear the label.
use Rattle.std.proofs.Common.{◌≡◌, ℕ, zero, suc, ◌+◌, Bool, true, false, cond, eqb, List, [], ◌∷◌, Some, None, Option, refl, ap, ◌∙◌, arith}
use Rattle.std.proofs.lemmas.Bool.{eq-eqb, eqb-true}
use Rattle.model.specs.declared.expression.Condition.{Condition}
use Rattle.model.specs.declared.block.BlockKind.{BlockKind}
use Rattle.model.specs.declared.block.Role.{Role}
use Rattle.model.specs.declared.block.Role.TheVariants.{Opens, Ends, Neither}
use Rattle.model.specs.declared.block.Block.{Block}
use Rattle.model.specs.declared.line.Line.{Line}
use Rattle.model.specs.Blocks.{role_of, ends, line_from, end_line, opened_at, block_from, block_of}
use Rattle.model.specs.Programs.{Stands, opening, Once, Closed}
use Rattle.model.proofs.Standing.{stands_later, stands_earlier, once_rest}
use Rattle.model.proofs.Nesting.{ender}
use Rattle.model.proofs.Ends.{ends_once}
use Rattle.std.specs.Option.{option_or}

abbrev pub made : BlockKind → ℕ → Condition → ℕ → Option ℕ → Block
made k l c n e = record { kind = k; label = l; condition = c; first = n; end = e }

-- ---- the line that opens the block
other_by : (l n : ℕ) (e : Option ℕ) (r : Role) → (opening r ≡ Some l → ⊥) → opened_at l n e r ≡ None
other_by l n e (Opens k m c) h = go (eqb m l) refl
  where
    go : (t : Bool) → eqb m l ≡ t → cond t (Some (made k m c n e)) None ≡ None
    go true q = absurd (h (ap Some (eqb-true m l q)))
    go false q = refl
other_by l n e (Ends k m) h = refl
other_by l n e Neither h = refl

here : (l n : ℕ) (e : Option ℕ) (k : BlockKind) (c : Condition) → opened_at l n e (Opens k l c) ≡ Some (made k l c n e)
here l n e k c = ap (λ (t : Bool). cond t (Some (made k l c n e)) None) (eq-eqb l l refl)

found_from : (xs : List Line) (n i l : ℕ) (e : Option ℕ) (x : Line) (k : BlockKind) (c : Condition) → Once xs → Stands xs i x → role_of x ≡ Opens k l c → block_from l n e xs ≡ Some (made k l c (n + i) e)
found_from [] n i l e x k c o st r = absurd (let h = st.inner in omega arith)
found_from (y ∷ ys) n zero l e x k c o st r =
    ap (λ (b : Role). option_or (opened_at l n e b) (block_from l (n + 1) e ys)) (ap role_of st.is ∙ r) ∙ (ap (λ (b : Option Block). option_or b (block_from l (n + 1) e ys)) (here l n e k c) ∙ ap (λ (m : ℕ). Some (made k l c m e)) (omega arith))
found_from (y ∷ ys) n (suc i) l e x k c o st r =
    let other = λ (q : opening (role_of y) ≡ Some l). let z = o 0 (suc i) l y x (record { inner = omega arith; is = refl }) st q (ap opening r) in absurd {A = ⊥} (omega arith) in
    ap (λ (b : Option Block). option_or b (block_from l (n + 1) e ys)) (other_by l n e (role_of y) other)
    ∙ (found_from ys (n + 1) i l e x k c (once_rest y ys o) (stands_earlier st) r ∙ ap (λ (m : ℕ). Some (made k l c m e)) (omega arith))

pub block_found : (xs : List Line) (i l : ℕ) (x : Line) (k : BlockKind) (c : Condition) → Once xs → Stands xs i x → role_of x ≡ Opens k l c → block_of xs l ≡ Some (made k l c (suc i) (end_line xs l))
block_found xs i l x k c o st r = found_from xs 1 i l (end_line xs l) x k c o st r ∙ ap (λ (m : ℕ). Some (made k l c m (end_line xs l))) (omega arith)

-- ---- the line that ends it
-- the first line from n on whose role passes the test
abbrev First : (Role → Bool) → ℕ → List Line → Type 0
First p n xs = (m : ℕ) × (x : Line) × (line_from p n xs ≡ Some (n + m)) × Stands xs m x × (p (role_of x) ≡ true)

first_by : (p : Role → Bool) (n : ℕ) (y : Line) (ys : List Line) (t : Bool) → p (role_of y) ≡ t → (t ≡ false → First p (n + 1) ys) → First p n (y ∷ ys)
first_by p n y ys true e more = (0, y, ap (λ (b : Bool). cond b (Some n) (line_from p (n + 1) ys)) e ∙ ap Some (omega arith), record { inner = omega arith; is = refl }, e)
first_by p n y ys false e more =
    let f = more refl in
    (suc f.0, f.1, ap (λ (b : Bool). cond b (Some n) (line_from p (n + 1) ys)) e ∙ (f.2 ∙ ap Some (omega arith)), stands_later f.3, f.4)

first_from : (p : Role → Bool) (n : ℕ) (xs : List Line) (i : ℕ) (x : Line) → Stands xs i x → p (role_of x) ≡ true → First p n xs
first_from p n [] i x st h = absurd (let k = st.inner in omega arith)
first_from p n (y ∷ ys) zero x st h = first_by p n y ys true (ap (λ (z : Line). p (role_of z)) st.is ∙ h) (λ q. let z : ◌≡◌ {A = ℕ} 0 1 = cc in absurd (omega arith))
first_from p n (y ∷ ys) (suc i) x st h = first_by p n y ys (p (role_of y)) refl (λ q. first_from p (n + 1) ys i x (stands_earlier st) h)

ends_by : (l : ℕ) (r : Role) → ends l r ≡ true → (k : BlockKind) × (ender r ≡ Some (k, l))
ends_by l (Opens k m c) e = let z : ◌≡◌ {A = ℕ} 0 1 = cc in absurd (omega arith)
ends_by l (Ends k m) e = (k, ap (λ (n : ℕ). Some (k, n)) (eqb-true m l e))
ends_by l Neither e = let z : ◌≡◌ {A = ℕ} 0 1 = cc in absurd (omega arith)

pub end_found : (xs : List Line) (j l : ℕ) (x : Line) (k : BlockKind) → Closed xs → Stands xs j x → role_of x ≡ Ends k l → end_line xs l ≡ Some (suc j)
end_found xs j l x k c st r =
    let f = first_from (ends l) 1 xs j x st (ap (ends l) r ∙ eq-eqb l l refl) in
    let b = ends_by l (role_of f.1) f.4 in
    let same = ends_once xs f.0 j f.1 x (b.0, l) (k, l) c f.3 st b.1 (ap ender r) refl in
    f.2 ∙ ap Some (omega arith)
