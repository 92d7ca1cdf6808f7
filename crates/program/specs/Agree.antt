-- A list of blocks says what the lines say: which blocks are open, which labels are had, and what each block is.
use Rattle.std.specs.Prelude.{◌≡◌, ℕ, ◌<◌, Bool, true, false, cond, List, [], ◌∷◌, length, map, pos, is_some, Some, None, Option, slice_index_or}
use Rattle.model.specs.declared.expression.Rel.TheVariants.{Eq}
use Rattle.model.specs.declared.expression.Term.TheVariants.{Number}
use Rattle.model.specs.declared.line.Line.{Line}
use Rattle.model.specs.declared.block.BlockKind.TheVariants.{While}
use Rattle.model.specs.declared.block.Block.{Block}
use Rattle.model.specs.Blocks.{Stack, open_blocks, labels, place_from, block_number, end_line, block_of}

-- what stands past the last block
abbrev pub no_block : Block
no_block = record { kind = While; label = 0; condition = record { rel = Eq; left = Number (pos 0); right = Number (pos 0) }; first = 0; end = None }

abbrev pub label_of : Block → ℕ
label_of b = b.label

-- a stack with a block over it, if the block has no end yet
abbrev pub topped : Stack → Block → Stack
topped s b = cond (is_some b.end) s ((b.kind, b.label) ∷ s)

-- a stack with those of the blocks over it that have no end yet, the last on top
abbrev pub unended : Stack → List Block → Stack
unended s [] = s
unended s (b ∷ bs) = unended (topped s b) bs

-- each block has a label of its own, and is the block that the lines have under it
abbrev pub Each : List Line → List Block → Type 0
Each xs [] = Unit {0}
Each xs (b ∷ bs) = (place_from 0 (map label_of bs) b.label ≡ None) × (block_of xs b.label ≡ Some b) × Each xs bs

-- the blocks are those of the lines, in the order in which they open
pub record Agrees (xs : List Line) (bs : List Block) : Type 0 where
  pub stack : unended [] bs ≡ open_blocks xs
  pub names : map label_of bs ≡ labels xs
  pub each : Each xs bs
  -- no line ends a label that no block has
  pub strays : (l : ℕ) → block_number xs l ≡ None → end_line xs l ≡ None

-- the block at k has its end
abbrev pub has_end : List Block → ℕ → Bool
has_end bs k = is_some (slice_index_or bs k no_block).end

-- the last of the blocks that has no end, if there is one
abbrev pub Last : List Block → Option ℕ → Type 0
Last bs None = (k : ℕ) → k < length bs → has_end bs k ≡ true
Last bs (Some i) = (i < length bs) × (has_end bs i ≡ false) × ((k : ℕ) → i < k → k < length bs → has_end bs k ≡ true)
