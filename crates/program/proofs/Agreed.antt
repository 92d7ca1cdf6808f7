-- The blocks that agree with the lines still do with one line more.
use Rattle.std.proofs.Common.{◌≡◌, ℕ, zero, suc, ◌+◌, ◌<◌, true, false, eqb, List, [], ◌∷◌, ◌++◌, map, length, get_or, set, is_some, Some, None, Option, sym, refl, ap, ◌∙◌, subst, append-nil, arith}
use lib.ListN.{length-map, get_or-map}
use lib.Seq.{map-set_same}
use Rattle.std.proofs.lemmas.List.{map_push}
use Rattle.std.proofs.lemmas.Bool.{eq-eqb, ne_eqb, eqb-false}
use Rattle.model.specs.declared.expression.Condition.{Condition}
use Rattle.model.specs.declared.line.Line.{Line}
use Rattle.model.specs.declared.block.BlockKind.{BlockKind}
use Rattle.model.specs.declared.block.Role.TheVariants.{Opens, Ends, Neither}
use Rattle.model.specs.declared.block.Block.{Block}
use Rattle.model.proofs.Found.{made}
use Rattle.model.specs.Blocks.{role_of, Stack, outer, labels, place_from, block_number, ends, block_of}
use Rattle.program.specs.Agree.{no_block, label_of, topped, unended, Each, Agrees, Last}
use Rattle.program.proofs.Places.{missing_both, missing_from, missing_push, missing_pushed, missing_at}
use Rattle.program.proofs.Readings.{open_more, labels_more, line_kept, with_end, block_kept, block_opened, block_ended}
use Rattle.program.proofs.Found.{last_on_top, last_ended}

pub none_yet : Agrees [] []
none_yet = record { stack = refl; names = refl; each = tt; strays = λ l h. refl }

pub is_none : {X : Type 0} (o : Option X) → is_some o ≡ false → o ≡ None
is_none None h = refl
is_none (Some x) h = let z : ◌≡◌ {A = ℕ} 0 1 = cc in absurd (omega arith)

-- a line that ends none of these blocks leaves each as it is
each_kept : (xs : List Line) (x : Line) (bs : List Block) → ((j : ℕ) → j < length bs → ends (get_or bs j no_block).label (role_of x) ≡ false) → Each xs bs → Each (xs ++ (x ∷ [])) bs
each_kept xs x [] miss h = tt
each_kept xs x (b ∷ bs) miss h = (h.0, block_kept xs x b.label b (miss 0 (omega arith)) h.1, each_kept xs x bs (λ j q. miss (suc j) (omega arith)) h.2)

eqb_swap : (m n : ℕ) → eqb m n ≡ false → eqb n m ≡ false
eqb_swap m n e = ne_eqb n m (λ s. eqb-false m n e (sym s))

-- one block more, of a label that none has
each_pushed : (xs : List Line) (bs : List Block) (b : Block) → Each xs bs → place_from 0 (map label_of bs) b.label ≡ None → block_of xs b.label ≡ Some b → Each xs (bs ++ (b ∷ []))
each_pushed xs [] b h new e = (refl, e, tt)
each_pushed xs (a ∷ bs) b h new e =
    let n = missing_both 0 (map label_of bs) a.label b.label new in (
      ap (λ ls. place_from 0 ls a.label) (map_push label_of bs b) ∙ missing_push 0 (map label_of bs) b.label a.label h.0 (eqb_swap a.label b.label n.0),
      h.1,
      each_pushed xs bs b h.2 (missing_from 1 0 (map label_of bs) b.label n.1) e,
    )

-- a label that no block has is unlike each one's
apart : (bs : List Block) (l j : ℕ) → place_from 0 (map label_of bs) l ≡ None → j < length bs → eqb (get_or bs j no_block).label l ≡ false
apart bs l j e h =
    let long = length-map bs label_of in
    subst (λ m. eqb m l ≡ false) (get_or-map label_of bs j no_block) (missing_at 0 (map label_of bs) l j e (omega arith))

labels_same : (bs : List Block) (i n : ℕ) → map label_of (set bs i (with_end (Some n) (get_or bs i no_block))) ≡ map label_of bs
labels_same bs i n = map-set_same label_of bs i _ no_block refl

-- the line ends the block at i
each_ended : (xs : List Line) (x : Line) (k : BlockKind) (bs : List Block) (i : ℕ) → role_of x ≡ Ends k (get_or bs i no_block).label → i < length bs → (get_or bs i no_block).end ≡ None → Each xs bs → Each (xs ++ (x ∷ [])) (set bs i (with_end (Some (length xs + 1)) (get_or bs i no_block)))
each_ended xs x k [] i e lt none h = absurd (omega arith)
each_ended xs x k (b ∷ bs) zero e lt none h =
    let hit : ends b.label (role_of x) ≡ true = rw e (eq-eqb _ _ refl) in
    (h.0, block_ended xs x b.label b hit none h.1, each_kept xs x bs (λ j q. rw e (eqb_swap _ _ (apart bs b.label j h.0 q))) h.2)
each_ended xs x k (b ∷ bs) (suc i) e lt none h =
    let miss : ends b.label (role_of x) ≡ false = rw e (apart bs b.label i h.0 (omega arith)) in (
      ap (λ ls. place_from 0 ls b.label) (labels_same bs i (length xs + 1)) ∙ h.0,
      block_kept xs x b.label b miss h.1,
      each_ended xs x k bs i e (omega arith) none h.2,
    )

-- a line that neither opens nor ends a block
pub one_kept : (xs : List Line) (bs : List Block) (x : Line) → role_of x ≡ Neither → Agrees xs bs → Agrees (xs ++ (x ∷ [])) bs
one_kept xs bs x e a =
    let same : labels (xs ++ (x ∷ [])) ≡ labels xs = labels_more xs x ∙ rw e (append-nil (labels xs)) in
    record {
      stack = a.stack ∙ sym (open_more [] xs x ∙ rw e);
      names = a.names ∙ sym same;
      each = each_kept xs x bs (λ j q. rw e) a.each;
      strays = λ l h. line_kept (ends l) 1 xs x (rw e) ∙ a.strays l (ap (λ ls. place_from 0 ls l) (sym same) ∙ h);
    }

-- a line that opens a block of a new label
pub one_opened : (xs : List Line) (bs : List Block) (x : Line) (k : BlockKind) (l : ℕ) (c : Condition) → role_of x ≡ Opens k l c → block_number xs l ≡ None → Agrees xs bs → Agrees (xs ++ (x ∷ [])) (bs ++ (made k l c (length xs + 1) None ∷ []))
one_opened xs bs x k l c e new a =
    let more : labels (xs ++ (x ∷ [])) ≡ labels xs ++ (l ∷ []) = labels_more xs x ∙ rw e in
    record {
      stack = stack_push [] bs _ ∙ ap (λ s. (k, l) ∷ s) a.stack ∙ sym (open_more [] xs x ∙ rw e);
      names = map_push label_of bs _ ∙ ap (λ ls. ls ++ (l ∷ [])) a.names ∙ sym more;
      each = each_pushed (xs ++ (x ∷ [])) bs _ (each_kept xs x bs (λ j q. rw e) a.each) (ap (λ ls. place_from 0 ls l) a.names ∙ new) (block_opened xs x k l c e new (a.strays l new));
      strays = λ m h. line_kept (ends m) 1 xs x (rw e) ∙ a.strays m (missing_pushed 0 (labels xs) l m (ap (λ ls. place_from 0 ls m) (sym more) ∙ h)).0;
    }
  where
    stack_push : (s : Stack) (cs : List Block) (b : Block) → unended s (cs ++ (b ∷ [])) ≡ topped (unended s cs) b
    stack_push s [] b = refl
    stack_push s (c ∷ cs) b = stack_push (topped s c) cs b

-- a line that ends the innermost open block
pub one_ended : (xs : List Line) (bs : List Block) (x : Line) (k : BlockKind) (i : ℕ) → role_of x ≡ Ends k (get_or bs i no_block).label → Last bs (Some i) → Agrees xs bs → Agrees (xs ++ (x ∷ [])) (set bs i (with_end (Some (length xs + 1)) (get_or bs i no_block)))
one_ended xs bs x k i e last a =
    let same : labels (xs ++ (x ∷ [])) ≡ labels xs = labels_more xs x ∙ rw e (append-nil (labels xs)) in
    record {
      stack = last_ended [] bs i (length xs + 1) last ∙ ap outer (sym (last_on_top [] bs i last) ∙ a.stack) ∙ sym (open_more [] xs x ∙ rw e);
      names = labels_same bs i (length xs + 1) ∙ a.names ∙ sym same;
      each = each_ended xs x k bs i e last.0 (is_none (get_or bs i no_block).end last.1) a.each;
      strays = λ l h.
          let gone : place_from 0 (labels xs) l ≡ None = ap (λ ls. place_from 0 ls l) (sym same) ∙ h in
          line_kept (ends l) 1 xs x (rw e (apart bs l i (ap (λ ls. place_from 0 ls l) a.names ∙ gone) last.0)) ∙ a.strays l gone;
    }
