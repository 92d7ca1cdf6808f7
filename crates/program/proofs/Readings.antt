-- One line more: what each reading of the lines becomes.
use Rattle.std.proofs.Common.{◌≡◌, ℕ, ◌+◌, Bool, true, false, cond, eqb, List, [], ◌∷◌, ◌++◌, length, Some, None, Option, sym, refl, ap, ◌∙◌, arith}
use Rattle.std.proofs.lemmas.Bool.{eq-eqb}
use Rattle.std.specs.Option.{option_or, option_map}
use Rattle.model.specs.declared.expression.Condition.{Condition}
use Rattle.model.specs.declared.line.Line.{Line}
use Rattle.model.specs.declared.block.BlockKind.{BlockKind}
use Rattle.model.specs.declared.block.Role.{Role}
use Rattle.model.specs.declared.block.Role.TheVariants.{Opens, Ends, Neither}
use Rattle.model.specs.declared.block.Block.{Block}
use Rattle.model.proofs.Found.{made}
use Rattle.model.specs.Blocks.{role_of, Stack, past, open_after, label_before, labels, place_from, block_number, line_from, ends, end_line, opened_at, block_from, block_of}
use Rattle.program.proofs.Places.{missing_both}
use Rattle.std.specs.Option.{option_or}

pub open_more : (s : Stack) (xs : List Line) (x : Line) → open_after s (xs ++ (x ∷ [])) ≡ past (open_after s xs) (role_of x)
open_more s [] x = refl
open_more s (y ∷ ys) x = open_more (past s (role_of y)) ys x

label_before_more : (r : Role) (ls ms : List ℕ) → label_before r (ls ++ ms) ≡ label_before r ls ++ ms
label_before_more (Opens k l c) ls ms = refl
label_before_more (Ends k l) ls ms = refl
label_before_more Neither ls ms = refl

pub labels_more : (xs : List Line) (x : Line) → labels (xs ++ (x ∷ [])) ≡ labels xs ++ label_before (role_of x) []
labels_more [] x = refl
labels_more (y ∷ ys) x = ap (label_before (role_of y)) (labels_more ys x) ∙ label_before_more (role_of y) (labels ys) (label_before (role_of x) [])

other_none : {X : Type 0} (o : Option X) → option_or o None ≡ o
other_none None = refl
other_none (Some x) = refl

module _ (p : Role → Bool) where
  line_more : (n : ℕ) (xs : List Line) (x : Line) → line_from p n (xs ++ (x ∷ [])) ≡ option_or (line_from p n xs) (cond (p (role_of x)) (Some (n + length xs)) None)
  line_more n [] x = ap (λ k. cond (p (role_of x)) (Some k) None) (omega arith)
  line_more n (y ∷ ys) x =
      ap (cond (p (role_of y)) (Some n)) (line_more (n + 1) ys x ∙ ap (λ k. option_or (line_from p (n + 1) ys) (cond (p (role_of x)) (Some k) None)) (omega arith))
      ∙ first_of (p (role_of y)) (line_from p (n + 1) ys) (cond (p (role_of x)) (Some (n + length (y ∷ ys))) None)
    where
      first_of : (b : Bool) (o q : Option ℕ) → cond b (Some n) (option_or o q) ≡ option_or (cond b (Some n) o) q
      first_of true o q = refl
      first_of false o q = refl

  pub line_kept : (n : ℕ) (xs : List Line) (x : Line) → p (role_of x) ≡ false → line_from p n (xs ++ (x ∷ [])) ≡ line_from p n xs
  line_kept n xs x miss = line_more n xs x ∙ rw miss (other_none (line_from p n xs))

  line_new : (n : ℕ) (xs : List Line) (x : Line) → line_from p n xs ≡ None → p (role_of x) ≡ true → line_from p n (xs ++ (x ∷ [])) ≡ Some (n + length xs)
  line_new n xs x none hit = line_more n xs x ∙ rw (hit, none)

block_more : (l n : ℕ) (e : Option ℕ) (xs : List Line) (x : Line) → block_from l n e (xs ++ (x ∷ [])) ≡ option_or (block_from l n e xs) (opened_at l (n + length xs) e (role_of x))
block_more l n e [] x = ap (λ k. option_or (opened_at l k e (role_of x)) None) (omega arith) ∙ other_none (opened_at l (n + 0) e (role_of x))
block_more l n e (y ∷ ys) x =
    ap (option_or (opened_at l n e (role_of y))) (block_more l (n + 1) e ys x ∙ ap (λ k. option_or (block_from l (n + 1) e ys) (opened_at l k e (role_of x))) (omega arith))
    ∙ first_of (opened_at l n e (role_of y)) (block_from l (n + 1) e ys) (opened_at l (n + length (y ∷ ys)) e (role_of x))
  where
    first_of : (a b c : Option Block) → option_or a (option_or b c) ≡ option_or (option_or a b) c
    first_of None b c = refl
    first_of (Some x) b c = refl

-- a label that no line opens has no block
pub no_block_from : (l k n : ℕ) (e : Option ℕ) (xs : List Line) → place_from k (labels xs) l ≡ None → block_from l n e xs ≡ None
no_block_from l k n e [] h = refl
no_block_from l k n e (x ∷ xs) h = by_role (role_of x) h (λ j. no_block_from l j (n + 1) e xs)
  where
    by_role : (r : Role) → place_from k (label_before r (labels xs)) l ≡ None → ((j : ℕ) → place_from j (labels xs) l ≡ None → block_from l (n + 1) e xs ≡ None) → option_or (opened_at l n e r) (block_from l (n + 1) e xs) ≡ None
    by_role (Opens a m c) h more = let q = missing_both k (labels xs) m l h in rw q.0 (more (k + 1) q.1)
    by_role (Ends a m) h more = more k h
    by_role Neither h more = more k h

abbrev pub with_end : Option ℕ → Block → Block
with_end e b = made b.kind b.label b.condition b.first e

-- which line ends a block matters to its end alone
end_given : (l n : ℕ) (e f : Option ℕ) (xs : List Line) → block_from l n f xs ≡ option_map (with_end f) (block_from l n e xs)
end_given l n e f [] = refl
end_given l n e f (x ∷ xs) =
    ap (option_or (opened_at l n f (role_of x))) (end_given l (n + 1) e f xs) ∙ by_role (role_of x)
  where
    by_test : (k : BlockKind) (m : ℕ) (c : Condition) (t : Bool) (o : Option Block) → option_or (cond t (Some (made k m c n f)) None) (option_map (with_end f) o) ≡ option_map (with_end f) (option_or (cond t (Some (made k m c n e)) None) o)
    by_test k m c true o = refl
    by_test k m c false o = refl

    by_role : (r : Role) → option_or (opened_at l n f r) (option_map (with_end f) (block_from l (n + 1) e xs)) ≡ option_map (with_end f) (option_or (opened_at l n e r) (block_from l (n + 1) e xs))
    by_role (Opens k m c) = by_test k m c (eqb m l) (block_from l (n + 1) e xs)
    by_role (Ends k m) = refl
    by_role Neither = refl

-- the end of the block of a label is the line that ends the label
pub end_is : (xs : List Line) (l : ℕ) (b : Block) → block_of xs l ≡ Some b → b.end ≡ end_line xs l
end_is xs l b h =
    let e = end_line xs l in
    let s : Some b ≡ Some (with_end e b) = sym h ∙ end_given l 1 e e xs ∙ ap (option_map (with_end e)) h in
    let same : b ≡ with_end e b = cc in
    ap (λ a. a.end) same

-- the block of a label behind one line more, which does not end it
pub block_kept : (xs : List Line) (x : Line) (l : ℕ) (b : Block) → ends l (role_of x) ≡ false → block_of xs l ≡ Some b → block_of (xs ++ (x ∷ [])) l ≡ Some b
block_kept xs x l b miss h =
    ap (λ e. block_from l 1 e (xs ++ (x ∷ []))) (line_kept (ends l) 1 xs x miss)
    ∙ block_more l 1 (end_line xs l) xs x
    ∙ ap (λ o. option_or o (opened_at l (1 + length xs) (end_line xs l) (role_of x))) h

-- which opens it
pub block_opened : (xs : List Line) (x : Line) (k : BlockKind) (l : ℕ) (c : Condition) → role_of x ≡ Opens k l c → block_number xs l ≡ None → end_line xs l ≡ None → block_of (xs ++ (x ∷ [])) l ≡ Some (made k l c (length xs + 1) None)
block_opened xs x k l c r new none =
    let same : eqb l l ≡ true = eq-eqb l l refl in
    ap (λ e. block_from l 1 e (xs ++ (x ∷ []))) (line_kept (ends l) 1 xs x (rw r) ∙ none)
    ∙ block_more l 1 None xs x
    ∙ ap (λ o. option_or o (opened_at l (1 + length xs) None (role_of x))) (no_block_from l 0 1 None xs new)
    ∙ ap (opened_at l (1 + length xs) None) r
    ∙ rw same (ap (λ n. Some (made k l c n None)) (omega arith))

-- which ends it
pub block_ended : (xs : List Line) (x : Line) (l : ℕ) (b : Block) → ends l (role_of x) ≡ true → b.end ≡ None → block_of xs l ≡ Some b → block_of (xs ++ (x ∷ [])) l ≡ Some (with_end (Some (length xs + 1)) b)
block_ended xs x l b hit none h =
    let e = Some (length xs + 1) in
    ap (λ o. block_from l 1 o (xs ++ (x ∷ []))) (line_new (ends l) 1 xs x (sym (end_is xs l b h) ∙ none) hit ∙ ap Some (omega arith))
    ∙ block_more l 1 e xs x
    ∙ ap (λ o. option_or o (opened_at l (1 + length xs) e (role_of x))) (end_given l 1 (end_line xs l) e xs ∙ ap (option_map (with_end e)) h)
