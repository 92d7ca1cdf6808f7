-- Programs as rows of nested blocks: which line stands where, and when a program is closed.
use Rattle.std.specs.Prelude.{◌≡◌, ℕ, ◌<◌, List, [], ◌∷◌, length, Some, None, Option, slice_index_or}
use Rattle.model.specs.declared.block.BlockKind.{BlockKind}
use Rattle.model.specs.declared.block.Role.{Role}
use Rattle.model.specs.declared.block.Role.TheVariants.{Opens, Ends, Neither}
use Rattle.model.specs.declared.line.Line.{Line}
use Rattle.model.specs.declared.line.Line.TheVariants.{Plain}
use Rattle.model.specs.Blocks.{Stack, role_of, past}

-- the line at i, from 0, is x
pub record Stands (lines : List Line) (i : ℕ) (x : Line) : Type 0 where
  pub inner : i < length lines
  pub is : slice_index_or lines i Plain ≡ x

-- the label of the block that a line opens
abbrev pub opening : Role → Option ℕ
opening (Opens k l c) = Some l
opening (Ends k l) = None
opening Neither = None

-- no two lines open a block of one label
abbrev pub Once : List Line → Type 0
Once lines = (i k l : ℕ) (x y : Line) → Stands lines i x → Stands lines k y → opening (role_of x) ≡ Some l → opening (role_of y) ≡ Some l → i ≡ k

-- the innermost open block
abbrev pub Innermost : BlockKind × ℕ → Stack → Type 0
Innermost b [] = ⊥
Innermost b (o ∷ os) = o ≡ b

-- an end line ends the innermost open block, which has its kind and label
abbrev pub Fits : Stack → Role → Type 0
Fits os (Opens k l c) = Unit {0}
Fits os (Ends k l) = Innermost (k, l) os
Fits os Neither = Unit {0}

-- lines that lead from these open blocks to those
abbrev pub Leads : Stack → List Line → Stack → Type 0
Leads os [] us = os ≡ us
Leads os (x ∷ xs) us = Fits os (role_of x) × Leads (past os (role_of x)) xs us

-- each block has its end, and no label is used twice
pub record Closed (lines : List Line) : Type 0 where
  pub nested : Leads [] lines []
  pub once : Once lines
