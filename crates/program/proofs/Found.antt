-- What a search through a list of blocks finds: the block of a label, and the last one that has no end.
use Rattle.std.proofs.Common.{◌≡◌, ℕ, zero, suc, ◌+◌, Bool, true, false, cond, eqb, List, [], ◌∷◌, map, get_or, take, set, is_some, Some, None, Option, sym, refl, ap, ◌∙◌, arith}
use Rattle.std.proofs.lemmas.Bool.{eqb-true}
use Rattle.model.specs.declared.line.Line.{Line}
use Rattle.model.specs.declared.block.Block.{Block}
use Rattle.model.specs.Blocks.{Stack, place_from, block_of}
use Rattle.program.specs.Agree.{no_block, label_of, topped, unended, Each, Last}
use Rattle.program.proofs.Places.{place_within}
use Rattle.program.proofs.Readings.{with_end}

-- the block at the place of a label is the block that the lines have under it
pub each_found : (xs : List Line) (bs : List Block) (n l i : ℕ) → Each xs bs → Some (n + i) ≡ place_from n (map label_of bs) l → Some (get_or bs i no_block) ≡ block_of xs l
each_found xs [] n l i h e = let z : ◌≡◌ {A = ℕ} 0 1 = cc in absurd (omega arith)
each_found xs (b ∷ bs) n l i h e = by_test (eqb b.label l) refl i e (λ j. each_found xs bs (n + 1) l j h.2)
  where
    rest : Option ℕ
    rest = place_from (n + 1) (map label_of bs) l

    by_test : (t : Bool) → eqb b.label l ≡ t → (i : ℕ) → Some (n + i) ≡ cond t (Some n) rest → ((j : ℕ) → Some (n + 1 + j) ≡ rest → Some (get_or bs j no_block) ≡ block_of xs l) → Some (get_or (b ∷ bs) i no_block) ≡ block_of xs l
    by_test true q zero f more = sym h.1 ∙ ap (block_of xs) (eqb-true b.label l q)
    by_test true q (suc j) f more = let s : n + suc j ≡ n = cc in absurd (omega arith)
    by_test false q zero f more = let s = place_within (n + 1) (map label_of bs) l (n + 0) f in absurd (omega arith)
    by_test false q (suc j) f more = more j (ap Some (omega arith) ∙ f)

-- blocks that have their ends leave the stack as it is
pub all_ended : (s : Stack) (bs : List Block) → Last bs None → unended s bs ≡ s
all_ended s [] h = refl
all_ended s (b ∷ bs) h = let t : is_some b.end ≡ true = h 0 (omega arith) in rw t (all_ended s bs (λ k q. h (suc k) (omega arith)))

last_later : (b : Block) (bs : List Block) (i : ℕ) → Last (b ∷ bs) (Some (suc i)) → Last bs (Some i)
last_later b bs i h = (omega arith, h.1, λ k p q. h.2 (suc k) (omega arith) (omega arith))

ended_behind : (b : Block) (bs : List Block) → Last (b ∷ bs) (Some 0) → Last bs None
ended_behind b bs h = λ k q. h.2 (suc k) (omega arith) (omega arith)

-- the last block that has no end is the innermost open one
pub last_on_top : (s : Stack) (bs : List Block) (i : ℕ) → Last bs (Some i) → unended s bs ≡ ((get_or bs i no_block).kind, (get_or bs i no_block).label) ∷ unended s (take i bs)
last_on_top s [] i h = absurd (omega arith)
last_on_top s (b ∷ bs) zero h = let t : is_some b.end ≡ false = h.1 in rw t (all_ended _ bs (ended_behind b bs h))
last_on_top s (b ∷ bs) (suc i) h = last_on_top (topped s b) bs i (last_later b bs i h)

-- and its end leaves those around it
pub last_ended : (s : Stack) (bs : List Block) (i n : ℕ) → Last bs (Some i) → unended s (set bs i (with_end (Some n) (get_or bs i no_block))) ≡ unended s (take i bs)
last_ended s [] i n h = absurd (omega arith)
last_ended s (b ∷ bs) zero n h = all_ended s bs (ended_behind b bs h)
last_ended s (b ∷ bs) (suc i) n h = last_ended (topped s b) bs i n (last_later b bs i h)
