-- Sweeps come to an end, and to one answer.
use Rattle.std.specs.Prelude.{◌≡◌, ℕ, ◌+◌, ◌*◌, ◌≤◌, List, [], ◌∷◌, length, replicate, slice_index_or}
use Rattle.model.specs.declared.line.Line.{Line}
use Rattle.model.specs.declared.line.Line.TheVariants.{Plain, Setting, Move, While, If, EndIf, EndWhile}
use Rattle.model.specs.Envelopes.{Envelope}
use Rattle.model.specs.Programs.{Closed}
use Rattle.domain.specs.Lattice.{Lattice, Meaning}
use Rattle.sweep.specs.Blocks.{Blocks, blocks, states_for}
use Rattle.sweep.specs.Sweeps.{Sweep, Settles, changes}

-- how many loops there are
abbrev pub loop_one : Line → ℕ
loop_one Plain = 0
loop_one (Setting p v) = 0
loop_one (Move g x y z u) = 0
loop_one (While m c) = 1
loop_one (If m c) = 0
loop_one (EndIf m) = 0
loop_one (EndWhile m) = 0

abbrev pub loops : List Line → ℕ
loops [] = 0
loops (x ∷ xs) = loop_one x + loops xs

-- the rank of the state that a WHILE finds in the store
abbrev pub loop_rank : {S : Type 0} {M : Meaning S} → Lattice M → Blocks → List S → Line → ℕ
loop_rank l bs s Plain = 0
loop_rank l bs s (Setting p v) = 0
loop_rank l bs s (Move g x y z u) = 0
loop_rank l bs s (While m c) = l.rank (slice_index_or s (bs.place m) l.none)
loop_rank l bs s (If m c) = 0
loop_rank l bs s (EndIf m) = 0
loop_rank l bs s (EndWhile m) = 0

-- what falls with each sweep that changes a loop; states that branches store do not count
abbrev pub loop_ranks : {S : Type 0} {M : Meaning S} → Lattice M → Blocks → List S → List Line → ℕ
loop_ranks l bs s [] = 0
loop_ranks l bs s (x ∷ xs) = loop_rank l bs s x + loop_ranks l bs s xs

-- from a store with a place for each block sweeps settle, and no more of them change a loop than the loops' states rank together
abbrev pub Ends : {S : Type 0} {M : Meaning S} → Lattice M → Envelope → Type 0
Ends {S} l t = (lines : List Line) (begin : S) (s : List S) → Closed lines → states_for lines ≤ length s →
    (w : Sweep S) × (d : Settles l (blocks lines) t lines begin s w) × (changes l d ≤ loop_ranks l (blocks lines) s lines)

-- in a store of none, from which certify begins, that is the rank of none for each loop
abbrev pub Counted : {S : Type 0} {M : Meaning S} → Lattice M → Type 0
Counted {S} l = (bs : Blocks) (lines : List Line) (n : ℕ) → loop_ranks l bs (replicate n l.none) lines ≡ loops lines * l.rank l.none

-- from one store and one first state sweeps come to one answer
abbrev pub OneAnswer : {S : Type 0} {M : Meaning S} → Lattice M → Envelope → Type 0
OneAnswer {S} l t = (bs : Blocks) (lines : List Line) (begin : S) (s : List S) (w v : Sweep S) →
    Settles l bs t lines begin s w → Settles l bs t lines begin s v → w ≡ v
