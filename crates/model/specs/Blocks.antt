-- The blocks of a program, read off its lines alone: which are open, which labels they have had, and where the
-- block of a label begins and ends. Lines are numbered from 1, blocks from 0 in the order in which they open.
use Rattle.std.specs.Prelude.{ℕ, ◌+◌, Bool, true, false, cond, List, [], ◌∷◌, Some, None, Option, ◌==◌}
use Rattle.model.specs.declared.line.Line.{Line}
use Rattle.model.specs.declared.line.Line.TheVariants.{Plain, Setting, Move, While, If, EndIf, EndWhile}
use Rattle.model.specs.declared.block.BlockKind.{BlockKind}
use Rattle.model.specs.declared.block.BlockKind.TheVariants.{While as WhileBlock, If as IfBlock}
use Rattle.model.specs.declared.block.Role.{Role}
use Rattle.model.specs.declared.block.Role.TheVariants.{Opens, Ends, Neither}
use Rattle.model.specs.declared.block.Block.{Block}
use Rattle.std.specs.Option.{option_or}

-- WHILE and IF open a block, ENDWHILE and ENDIF end one of their kind
abbrev pub role_of : Line → Role
role_of Plain = Neither
role_of (Setting p v) = Neither
role_of (Move g x y z u) = Neither
role_of (While l c) = Opens WhileBlock l c
role_of (If l c) = Opens IfBlock l c
role_of (EndIf l) = Ends IfBlock l
role_of (EndWhile l) = Ends WhileBlock l

-- open blocks by kind and label, innermost first
abbrev pub Stack : Type 0
Stack = List (BlockKind × ℕ)

abbrev pub outer : Stack → Stack
outer [] = []
outer (x ∷ s) = s

abbrev pub past : Stack → Role → Stack
past s (Opens k l c) = (k, l) ∷ s
past s (Ends k l) = outer s
past s Neither = s

abbrev pub open_after : Stack → List Line → Stack
open_after s [] = s
open_after s (x ∷ xs) = open_after (past s (role_of x)) xs

-- the blocks that are open behind the lines
abbrev pub open_blocks : List Line → Stack
open_blocks xs = open_after [] xs

abbrev pub is_empty : Stack → Bool
is_empty [] = true
is_empty (x ∷ s) = false

-- no block is open
abbrev pub closed : List Line → Bool
closed xs = is_empty (open_blocks xs)

-- the labels of the blocks, in the order in which they open
abbrev pub label_before : Role → List ℕ → List ℕ
label_before (Opens k l c) ls = l ∷ ls
label_before (Ends k l) ls = ls
label_before Neither ls = ls

abbrev pub labels : List Line → List ℕ
labels [] = []
labels (x ∷ xs) = label_before (role_of x) (labels xs)

-- the place of a label among others, counted from n
abbrev pub place_from : ℕ → List ℕ → ℕ → Option ℕ
place_from n [] l = None
place_from n (m ∷ ms) l = cond (m == l) (Some n) (place_from (n + 1) ms l)

-- the number of the block that has the label
abbrev pub block_number : List Line → ℕ → Option ℕ
block_number xs l = place_from 0 (labels xs) l

-- the number, counted from n, of the first line whose role passes the test
abbrev pub line_from : (Role → Bool) → ℕ → List Line → Option ℕ
line_from p n [] = None
line_from p n (x ∷ xs) = cond (p (role_of x)) (Some n) (line_from p (n + 1) xs)

abbrev pub ends : ℕ → Role → Bool
ends l (Opens k m c) = false
ends l (Ends k m) = m == l
ends l Neither = false

-- the line that ends the block of the label
abbrev pub end_line : List Line → ℕ → Option ℕ
end_line xs l = line_from (ends l) 1 xs

-- the block that a line opens as line n of a program, if it opens that of the label; its end is at e
abbrev pub opened_at : ℕ → ℕ → Option ℕ → Role → Option Block
opened_at l n e (Opens k m c) = cond (m == l) (Some (record { kind = k; label = m; condition = c; first = n; end = e })) None
opened_at l n e (Ends k m) = None
opened_at l n e Neither = None

abbrev pub block_from : ℕ → ℕ → Option ℕ → List Line → Option Block
block_from l n e [] = None
block_from l n e (x ∷ xs) = option_or (opened_at l n e (role_of x)) (block_from l (n + 1) e xs)

-- the block that has the label: kind, condition and number of the line that opens it, and the line that ends it
abbrev pub block_of : List Line → ℕ → Option Block
block_of xs l = block_from l 1 (end_line xs l) xs
