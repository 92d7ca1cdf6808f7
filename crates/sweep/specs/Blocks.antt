-- What a sweep asks of a program's blocks, by label: the number under which a block has its place in the working store,
-- and the condition of the line that opens it.
use Rattle.std.specs.Prelude.{ℕ, List, length, pos, Some, None, Option}
use Rattle.model.specs.declared.expression.Term.TheVariants.{Number}
use Rattle.model.specs.declared.expression.Rel.TheVariants.{Eq}
use Rattle.model.specs.declared.expression.Condition.{Condition}
use Rattle.model.specs.declared.block.Block.{Block}
use Rattle.model.specs.declared.line.Line.{Line}
use Rattle.model.specs.Blocks.{block_number, block_of, labels}

-- how many states a program needs: one for each block
abbrev pub states_for : List Line → ℕ
states_for lines = length (labels lines)

pub record Blocks : Type 0 where
  pub place : ℕ → ℕ
  pub condition : ℕ → Condition

-- a condition that every environment meets
abbrev pub always : Condition
always = record { rel = Eq; left = Number (pos 0); right = Number (pos 0) }

-- a label without a block has the first place and the condition `always`
abbrev pub place_of : Option ℕ → ℕ
place_of None = 0
place_of (Some n) = n

abbrev pub condition_of : Option Block → Condition
condition_of None = always
condition_of (Some b) = b.condition

-- the blocks of a program; in a closed program every label that a line bears has one
abbrev pub blocks : List Line → Blocks
blocks lines = record { place = λ l. place_of (block_number lines l); condition = λ l. condition_of (block_of lines l) }
