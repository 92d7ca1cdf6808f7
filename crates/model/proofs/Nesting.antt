-- In nested lines a block that is opened has its end further on, and one that is ended was opened before.
use Rattle.std.proofs.Common.{◌≡◌, ℕ, zero, suc, ◌<◌, ◌⊎◌, List, [], ◌∷◌, Some, None, Option, sym, refl, ap, ◌∙◌, subst, inl, inr, arith}
use Rattle.model.specs.declared.block.BlockKind.{BlockKind}
use Rattle.model.specs.declared.block.Role.{Role}
use Rattle.model.specs.declared.block.Role.TheVariants.{Opens, Ends, Neither}
use Rattle.model.specs.declared.line.Line.{Line}
use Rattle.model.specs.Blocks.{Stack, role_of, outer, past}
use Rattle.model.specs.Programs.{Stands, opening, Innermost, Fits, Leads}
use Rattle.model.proofs.Standing.{stands_later, stands_earlier, some_one, none_some}

-- the block that a line opens, and the block that it ends
abbrev pub opener : Role → Option (BlockKind × ℕ)
opener (Opens k l c) = Some (k, l)
opener (Ends k l) = None
opener Neither = None

abbrev pub ender : Role → Option (BlockKind × ℕ)
ender (Opens k l c) = None
ender (Ends k l) = Some (k, l)
ender Neither = None

pub opener_opens : (r : Role) (b : BlockKind × ℕ) → opener r ≡ Some b → opening r ≡ Some b.1
opener_opens (Opens k l c) b e = ap (λ (o : BlockKind × ℕ). Some o.1) (some_one e)
opener_opens (Ends k l) b e = absurd (none_some e)
opener_opens Neither b e = absurd (none_some e)

pub ends_innermost : (os : Stack) (r : Role) (b : BlockKind × ℕ) → Fits os r → ender r ≡ Some b → Innermost b os
ends_innermost os (Opens k l c) b n e = absurd (none_some e)
ends_innermost os (Ends k l) b n e = subst (λ (o : BlockKind × ℕ). Innermost o os) (some_one e) n
ends_innermost os Neither b n e = absurd (none_some e)

abbrev pub OpenBlock : BlockKind × ℕ → Stack → Type 0
OpenBlock b [] = ⊥
OpenBlock b (o ∷ os) = (o ≡ b) ⊎ OpenBlock b os

pub innermost_open : (b : BlockKind × ℕ) (os : Stack) → Innermost b os → OpenBlock b os
innermost_open b [] h = h
innermost_open b (o ∷ os) h = inl h

in_outer : (os : Stack) (b : BlockKind × ℕ) → OpenBlock b (outer os) → OpenBlock b os
in_outer [] b h = h
in_outer (o ∷ os) b h = inr h

-- open past a line: open before it, or opened by it
pub open_past : (os : Stack) (r : Role) (b : BlockKind × ℕ) → OpenBlock b (past os r) → OpenBlock b os ⊎ (opener r ≡ Some b)
open_past os (Opens k l c) b (inl e) = inr (ap Some e)
open_past os (Opens k l c) b (inr h) = inl h
open_past os (Ends k l) b h = inl (in_outer os b h)
open_past os Neither b h = inl h

-- the block that a line ends is open at first, or a line before opens it
pub data Before (os : Stack) (lines : List Line) (j : ℕ) (b : BlockKind × ℕ) : Type 0 where
  outside : OpenBlock b os → Before os lines j b
  inside : (i : ℕ) (x : Line) → i < j → Stands lines i x → opener (role_of x) ≡ Some b → Before os lines j b

later_by : (os : Stack) (y : Line) (ys : List Line) (j : ℕ) (b : BlockKind × ℕ) → OpenBlock b os ⊎ (opener (role_of y) ≡ Some b) → Before os (y ∷ ys) (suc j) b
later_by os y ys j b (inl h) = outside h
later_by os y ys j b (inr e) = inside 0 y (omega arith) (record { inner = omega arith; is = refl }) e

later : (os : Stack) (y : Line) (ys : List Line) (j : ℕ) (b : BlockKind × ℕ) → Before (past os (role_of y)) ys j b → Before os (y ∷ ys) (suc j) b
later os y ys j b (outside h) = later_by os y ys j b (open_past os (role_of y) b h)
later os y ys j b (inside i x k st h) = inside (suc i) x (omega arith) (stands_later st) h

pub opened_before : (os us : Stack) (lines : List Line) (j : ℕ) (b : BlockKind × ℕ) (x : Line) → Leads os lines us → Stands lines j x → ender (role_of x) ≡ Some b → Before os lines j b
opened_before os us [] j b x n st e = absurd (let k = st.inner in omega arith)
opened_before os us (y ∷ ys) zero b x n st e = outside (innermost_open b os (ends_innermost os (role_of y) b n.0 (ap (λ (z : Line). ender (role_of z)) st.is ∙ e)))
opened_before os us (y ∷ ys) (suc j) b x n st e = later os y ys j b (opened_before (past os (role_of y)) us ys j b x n.1 (stands_earlier st) e)

-- ---- the end of an open block
-- some line ends the block
abbrev pub EndedIn : List Line → BlockKind × ℕ → Type 0
EndedIn xs b = (j : ℕ) × (x : Line) × Stands xs j x × (ender (role_of x) ≡ Some b)

ended_later : (y : Line) (ys : List Line) (b : BlockKind × ℕ) → EndedIn ys b → EndedIn (y ∷ ys) b
ended_later y ys b (j, x, st, e) = (suc j, x, stands_later st, e)

-- the open block at a depth, the innermost at 0
abbrev pub Depth : ℕ → BlockKind × ℕ → Stack → Type 0
Depth d b [] = ⊥
Depth zero b (o ∷ os) = o ≡ b
Depth (suc d) b (o ∷ os) = Depth d b os

pub outer_depth : (d : ℕ) (b : BlockKind × ℕ) (os : Stack) → Depth (suc d) b os → Depth d b (outer os)
outer_depth d b [] h = absurd h
outer_depth d b (o ∷ os) h = h

pub same_block : (b o : BlockKind × ℕ) (os : Stack) → Depth zero b os → Innermost o os → o ≡ b
same_block b o [] h k = absurd h
same_block b o (q ∷ os) h k = sym k ∙ h

abbrev EndsAll : List Line → BlockKind × ℕ → Type 0
EndsAll xs b = (d : ℕ) (os : Stack) → Leads os xs [] → Depth d b os → EndedIn xs b

at_end : (d : ℕ) (b : BlockKind × ℕ) (os : Stack) (x : Line) (xs : List Line) (k : BlockKind) (l : ℕ) → role_of x ≡ Ends k l → Innermost (k, l) os → Leads (outer os) xs [] → EndsAll xs b → Depth d b os → EndedIn (x ∷ xs) b
at_end zero b os x xs k l e f n more h = (0, x, record { inner = omega arith; is = refl }, ap ender e ∙ ap Some (same_block b (k, l) os h f))
at_end (suc d) b os x xs k l e f n more h = ended_later x xs b (more d (outer os) n (outer_depth d b os h))

by_role : (d : ℕ) (b : BlockKind × ℕ) (os : Stack) (x : Line) (xs : List Line) (r : Role) → role_of x ≡ r → Fits os r → Leads (past os r) xs [] → EndsAll xs b → Depth d b os → EndedIn (x ∷ xs) b
by_role d b os x xs (Opens k l c) e f n more h = ended_later x xs b (more (suc d) ((k, l) ∷ os) n h)
by_role d b os x xs (Ends k l) e f n more h = at_end d b os x xs k l e f n more h
by_role d b os x xs Neither e f n more h = ended_later x xs b (more d os n h)

-- an open block has its end ahead
end_ahead : (b : BlockKind × ℕ) (xs : List Line) → EndsAll xs b
end_ahead b [] d os n h = absurd (subst (λ (bs : Stack). Depth d b bs) n h)
end_ahead b (x ∷ xs) d os n h = by_role d b os x xs (role_of x) refl n.0 n.1 (end_ahead b xs) h

first_depth : (os : Stack) (r : Role) (b : BlockKind × ℕ) → opener r ≡ Some b → Depth 0 b (past os r)
first_depth os (Opens k l c) b e = some_one e
first_depth os (Ends k l) b e = absurd (none_some e)
first_depth os Neither b e = absurd (none_some e)

-- an opening line has its end line
pub end_stands : (os : Stack) (xs : List Line) (i : ℕ) (x : Line) (b : BlockKind × ℕ) → Leads os xs [] → Stands xs i x → opener (role_of x) ≡ Some b → EndedIn xs b
end_stands os [] i x b n st e = absurd (let k = st.inner in omega arith)
end_stands os (y ∷ ys) zero x b n st e =
    ended_later y ys b (end_ahead b ys 0 (past os (role_of y)) n.1 (first_depth os (role_of y) b (ap (λ (z : Line). opener (role_of z)) st.is ∙ e)))
end_stands os (y ∷ ys) (suc i) x b n st e = ended_later y ys b (end_stands (past os (role_of y)) ys i x b n.1 (stands_earlier st) e)
