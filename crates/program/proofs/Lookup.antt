-- What a look-up in a table answers is what the held lines say.
use Rattle.std.proofs.Common.{◌≡◌, ℕ, ◌<◌, Bool, false, not, ◌&&◌, eqb, List, [], ◌∷◌, map, length, get_or, take, is_some, Some, None, Option, sym, ap, ◌∙◌, arith}
use mathlib.Core.Bool.{Bool-set}
use mathlib.Core.Logic.{∥∥₁_elim}
use native.Mathlib.Nat.{ℕ_set}
use lib.ListN.{length-map, get_or-map}
use Rattle.model.specs.declared.block.Block.{Block}
use Rattle.model.specs.declared.block.BlockKind.{BlockKind}
use Rattle.model.specs.Blocks.{Stack, open_blocks, is_empty, closed, labels, place_from, block_number, end_line, block_of}
use Rattle.program.specs.declared.table.Program.{Program}
use Rattle.program.specs.Refusals.{same_kind, fits}
use Rattle.program.specs.Agree.{no_block, label_of, unended, Last}
use Rattle.program.specs.Held.{held, held_blocks}
use Rattle.program.proofs.Sets.{number_answer, block_answer}
use Rattle.program.proofs.Places.{placed, unplaced}
use Rattle.program.proofs.Readings.{no_block_from}
use Rattle.program.proofs.Found.{each_found, all_ended, last_on_top}

-- the first of the blocks that has the label, if there is one
abbrev pub First : ℕ → List Block → Option ℕ → Type 0
First l bs None = (k : ℕ) → k < length bs → (get_or bs k no_block).label ≡ l → ⊥
First l bs (Some i) = (i < length bs) × ((get_or bs i no_block).label ≡ l) × ((k : ℕ) → k < i → (get_or bs k no_block).label ≡ l → ⊥)

module _ (p : Program) where
  label_total : length (map label_of (held_blocks p)) ≡ length (held_blocks p)
  label_total = length-map (held_blocks p) label_of

  pub block_total : length (held_blocks p) ≡ length (labels (held p))
  block_total = ∥∥₁_elim p.agrees (ℕ_set _ _) (λ a. sym label_total ∙ ap length a.names)

  label_at : (k : ℕ) → get_or (map label_of (held_blocks p)) k 0 ≡ (get_or (held_blocks p) k no_block).label
  label_at k = get_or-map label_of (held_blocks p) k no_block

  -- the number is that of the first block of the label, or there is none
  pub number_is : (l : ℕ) (r : Option ℕ) → First l (held_blocks p) r → r ≡ block_number (held p) l
  number_is l None none =
      let total = label_total in
      let nowhere = unplaced 0 (map label_of (held_blocks p)) l (λ k h q. none k (omega arith) (sym (label_at k) ∙ q)) in
      ∥∥₁_elim p.agrees (number_answer _ _) (λ a. nowhere ∙ ap (λ ls. place_from 0 ls l) a.names)
  number_is l (Some i) (lt, e, none) =
      let total = label_total in
      let here = placed 0 (map label_of (held_blocks p)) l i (λ k h q. none k h (sym (label_at k) ∙ q)) (omega arith) (label_at i ∙ e) in
      ∥∥₁_elim p.agrees (number_answer _ _) (λ a. ap Some (omega arith) ∙ here ∙ ap (λ ls. place_from 0 ls l) a.names)

  pub block_missing : (l : ℕ) → None ≡ block_number (held p) l → None ≡ block_of (held p) l
  block_missing l e = sym (no_block_from l 0 1 (end_line (held p) l) (held p) (sym e))

  pub block_found : (l i : ℕ) → Some i ≡ block_number (held p) l → Some (get_or (held_blocks p) i no_block) ≡ block_of (held p) l
  block_found l i e = ∥∥₁_elim p.agrees (block_answer _ _) (λ a. each_found (held p) (held_blocks p) 0 l i a.each (ap Some (omega arith) ∙ e ∙ sym (ap (λ ls. place_from 0 ls l) a.names)))

  -- a test of the open blocks, where none is open
  on_none : (f : Stack → Bool) → Last (held_blocks p) None → f [] ≡ f (open_blocks (held p))
  on_none f h = ∥∥₁_elim p.agrees (Bool-set _ _) (λ a. ap f (sym (all_ended [] (held_blocks p) h) ∙ a.stack))

  -- and where one is innermost
  on_top : (f : Stack → Bool) (i : ℕ) → Last (held_blocks p) (Some i) → f (((get_or (held_blocks p) i no_block).kind, (get_or (held_blocks p) i no_block).label) ∷ unended [] (take i (held_blocks p))) ≡ f (open_blocks (held p))
  on_top f i h = ∥∥₁_elim p.agrees (Bool-set _ _) (λ a. ap f (sym (last_on_top [] (held_blocks p) i h) ∙ a.stack))

  pub fits_none : (k : BlockKind) (l : ℕ) → Last (held_blocks p) None → false ≡ fits (open_blocks (held p)) k l
  fits_none k l h = on_none (λ s. fits s k l) h

  pub fits_top : (k : BlockKind) (l i : ℕ) → Last (held_blocks p) (Some i) → (same_kind (get_or (held_blocks p) i no_block).kind k && eqb (get_or (held_blocks p) i no_block).label l) ≡ fits (open_blocks (held p)) k l
  fits_top k l i h = on_top (λ s. fits s k l) i h

  pub closed_if : (r : Option ℕ) → Last (held_blocks p) r → not (is_some r) ≡ closed (held p)
  closed_if None h = on_none is_empty h
  closed_if (Some i) h = on_top is_empty i h
