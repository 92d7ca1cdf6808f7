-- How far ahead an open block is closed, and that an IF comes before its end.
use Rattle.std.proofs.Common.{ℕ, zero, suc, ◌<◌, List, [], ◌∷◌, refl, ap, subst, arith}
use Rattle.model.specs.declared.expression.Condition.{Condition}
use Rattle.model.specs.declared.block.BlockKind.{BlockKind}
use Rattle.model.specs.declared.block.BlockKind.TheVariants.{While as WhileBlock, If as IfBlock}
use Rattle.model.specs.declared.line.Line.{Line}
use Rattle.model.specs.declared.line.Line.TheVariants.{Plain, Setting, Move, While, If, EndIf, EndWhile}
use Rattle.model.specs.Blocks.{Stack, outer}
use Rattle.model.specs.Programs.{Stands, Once, Leads, Closed}
use Rattle.model.proofs.Standing.{stands_later}
use Rattle.model.proofs.Nesting.{opener_opens, Before, outside, inside, opened_before, Depth, outer_depth, same_block}

-- how many lines on the open block at a depth, innermost 0, is closed
abbrev pub closing : ℕ → List Line → ℕ
closing d [] = 0
closing d (Plain ∷ xs) = suc (closing d xs)
closing d (Setting p v ∷ xs) = suc (closing d xs)
closing d (Move g x y z u ∷ xs) = suc (closing d xs)
closing d (While l c ∷ xs) = suc (closing (suc d) xs)
closing d (If l c ∷ xs) = suc (closing (suc d) xs)
closing zero (EndIf l ∷ xs) = 0
closing (suc d) (EndIf l ∷ xs) = suc (closing d xs)
closing zero (EndWhile l ∷ xs) = 0
closing (suc d) (EndWhile l ∷ xs) = suc (closing d xs)

-- the line that ends a block
abbrev pub end_of : BlockKind × ℕ → Line
end_of (WhileBlock, l) = EndWhile l
end_of (IfBlock, l) = EndIf l

-- an open block has its end line there
pub closing_stands : (d : ℕ) (b : BlockKind × ℕ) (os : Stack) (xs : List Line) → Leads os xs [] → Depth d b os → Stands xs (closing d xs) (end_of b)
closing_stands d b os [] n h = absurd (subst (λ (bs : Stack). Depth d b bs) n h)
closing_stands d b os (Plain ∷ xs) n h = stands_later (closing_stands d b os xs n.1 h)
closing_stands d b os (Setting p v ∷ xs) n h = stands_later (closing_stands d b os xs n.1 h)
closing_stands d b os (Move g x y z u ∷ xs) n h = stands_later (closing_stands d b os xs n.1 h)
closing_stands d b os (While m c ∷ xs) n h = stands_later (closing_stands (suc d) b ((WhileBlock, m) ∷ os) xs n.1 h)
closing_stands d b os (If m c ∷ xs) n h = stands_later (closing_stands (suc d) b ((IfBlock, m) ∷ os) xs n.1 h)
closing_stands zero b os (EndIf m ∷ xs) n h = record { inner = omega arith; is = ap end_of (same_block b (IfBlock, m) os h n.0) }
closing_stands (suc d) b os (EndIf m ∷ xs) n h = stands_later (closing_stands d b (outer os) xs n.1 (outer_depth d b os h))
closing_stands zero b os (EndWhile m ∷ xs) n h = record { inner = omega arith; is = ap end_of (same_block b (WhileBlock, m) os h n.0) }
closing_stands (suc d) b os (EndWhile m ∷ xs) n h = stands_later (closing_stands d b (outer os) xs n.1 (outer_depth d b os h))

before_end : (lines : List Line) (i j l : ℕ) (c : Condition) → Once lines → Stands lines i (If l c) → Before [] lines j (IfBlock, l) → i < j
before_end lines i j l c o st (outside h) = absurd h
before_end lines i j l c o st (inside k x h t p) = let e = o i k l (If l c) x st t refl (opener_opens _ (IfBlock, l) p) in omega arith

pub if_before_end : (lines : List Line) (i j l : ℕ) (c : Condition) → Closed lines → Stands lines i (If l c) → Stands lines j (EndIf l) → i < j
if_before_end lines i j l c p st t = before_end lines i j l c p.once st (opened_before [] [] lines j (IfBlock, l) (EndIf l) p.nested t refl)
