-- A program that takes one more line still has no more blocks than the table holds.
use Rattle.std.proofs.Common.{◌≡◌, ℕ, ◌+◌, ◌≤◌, Bool, true, false, cond, leb, List, [], ◌∷◌, ◌++◌, length, is_some, Ok, Err, Result, refl, arith}
use Rattle.std.proofs.lemmas.Bool.Decides.{nat_tests}
use Rattle.grammar.specs.Answer.{answer}
use Rattle.grammar.specs.declared.refusal.Refusal.{Refusal}
use Rattle.model.specs.Blocks.{Stack, labels, label_before, open_blocks, place_from, role_of}
use Rattle.model.specs.declared.block.Role.{Role}
use Rattle.model.specs.declared.block.Role.TheVariants.{Opens, Ends, Neither}
use Rattle.model.specs.declared.line.Line.{Line}
use Rattle.program.specs.Entry.{by_table, by_text, with_answer, line_answer, lines_after}
use Rattle.program.specs.Limits.{max_lines, max_blocks}
use Rattle.program.specs.Refusals.{push_answer, pushed, role_answer}
use Rattle.program.specs.declared.refusal.LineRefusal.TheVariants.{Table}
use Rattle.program.specs.declared.refusal.TableRefusal.{TableRefusal}
use Rattle.program.specs.declared.refusal.TableRefusal.TheVariants.{Lines, Label, Blocks}
use Rattle.sweep.specs.Blocks.{states_for}

before_more : (r : Role) (ls : List ℕ) → length (label_before r ls) ≡ length (label_before r []) + length ls
before_more (Opens k l c) ls = omega arith
before_more (Ends k l) ls = omega arith
before_more Neither ls = omega arith

more_labels : (xs : List Line) (x : Line) → states_for (xs ++ (x ∷ [])) ≡ length (label_before (role_of x) []) + states_for xs
more_labels [] x = omega arith
more_labels (y ∷ ys) x =
    let a = before_more (role_of y) (labels (ys ++ (x ∷ []))) in
    let b = before_more (role_of y) (labels ys) in
    let c = more_labels ys x in
    omega arith

-- a call that is taken is not refused
taken_not : {E : Type 0} {P : Type 0} (u : Unit {0}) (e : E) → Ok u ≡ Err e → P
taken_not u e h = absurd (cc)

room_for : (u : Unit {0}) (s : Stack) (ls : List ℕ) (r : Role) → Ok u ≡ role_answer s ls r → length ls ≤ max_blocks → length (label_before r []) + length ls ≤ max_blocks
room_for u s ls (Opens k l c) e h = go (is_some (place_from 0 ls l)) (leb max_blocks (length ls)) refl e
  where
    go : (a b : Bool) → leb max_blocks (length ls) ≡ b → ◌≡◌ {A = Result (Unit {0}) TableRefusal} (Ok u) (cond a (Err Label) (cond b (Err Blocks) (Ok tt))) → length (label_before (Opens k l c) []) + length ls ≤ max_blocks
    go true b p q = taken_not u Label q
    go false true p q = taken_not u Blocks q
    go false false p q = grind (arith, nat_tests)
room_for u s ls (Ends k l) e h = omega arith
room_for u s ls Neither e h = omega arith

few_pushed : (u : Unit {0}) (xs : List Line) (x : Line) (r : Result (Unit {0}) TableRefusal) → r ≡ push_answer xs x → Ok u ≡ by_table r → states_for xs ≤ max_blocks → states_for (pushed r xs x) ≤ max_blocks
few_pushed u xs x (Err e) p q h = taken_not u (Table e) q
few_pushed u xs x (Ok v) p q h = go (leb max_lines (length xs)) p
  where
    go : (b : Bool) → Ok v ≡ cond b (Err Lines) (role_answer (open_blocks xs) (labels xs) (role_of x)) → states_for (xs ++ (x ∷ [])) ≤ max_blocks
    go true k = taken_not v Lines k
    go false k = let a = room_for v (open_blocks xs) (labels xs) (role_of x) k h in let b = more_labels xs x in omega arith

few_answered : (u : Unit {0}) (xs : List Line) (r : Result Line Refusal) → Ok u ≡ by_text xs r → states_for xs ≤ max_blocks → states_for (with_answer xs r) ≤ max_blocks
few_answered u xs (Ok x) e h = few_pushed u xs x (push_answer xs x) refl e h
few_answered u xs (Err why) e h = h

pub few_after : (u : Unit {0}) (xs : List Line) (s : List ℕ) → Ok u ≡ line_answer xs s → states_for xs ≤ max_blocks → states_for (lines_after xs s) ≤ max_blocks
few_after u xs s e h = go (leb max_lines (length xs)) e
  where
    go : (b : Bool) → Ok u ≡ cond b (Err (Table Lines)) (by_text xs (answer s)) → states_for (cond b xs (with_answer xs (answer s))) ≤ max_blocks
    go true k = h
    go false k = few_answered u xs (answer s) k h
