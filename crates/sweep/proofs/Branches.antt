-- A sweep follows a single environment through IF and ENDIF.
use Rattle.std.proofs.Common.{◌≡◌, ℕ, zero, suc, ◌+◌, ◌≤◌, Bool, true, false, List, [], ◌∷◌, length, Some, None, fold, Option, sym, refl, ap, subst, arith, length-set, get_or-set_same}
use Rattle.model.specs.declared.expression.Condition.{Condition}
use Rattle.model.specs.Envelopes.{Envelope}
use Rattle.model.specs.declared.block.BlockKind.{BlockKind}
use Rattle.model.specs.declared.block.BlockKind.TheVariants.{While as WhileBlock, If as IfBlock}
use Rattle.model.specs.declared.line.Line.{Line}
use Rattle.model.specs.declared.line.Line.TheVariants.{If, EndIf, EndWhile}
use Rattle.model.specs.Environments.{Env, LegalOf, registers}
use Rattle.model.specs.Values.{holds}
use Rattle.model.specs.Opposites.{opposite}
use Rattle.model.specs.Blocks.{Stack}
use Rattle.model.specs.Programs.{Innermost}
use Rattle.model.specs.Whole.{Dry}
use Rattle.model.specs.Runs.{ends, does, skips}
use Rattle.model.proofs.Opposites.{opposite_true, opposite_false}
use Rattle.model.proofs.Closing.{closing, closing_stands}
use Rattle.domain.specs.Lattice.{Lattice, Meaning}
use Rattle.domain.specs.Tracking.{Tracking}
use Rattle.sweep.specs.Blocks.{blocks, states_for}
use Rattle.sweep.specs.Sweeps.{Sweep, line_step}
use Rattle.sweep.proofs.Places.{place_inner}
use Rattle.sweep.proofs.Parts.{Part, first_stands, push_part, pop_part, other_place}
use Rattle.sweep.proofs.Follow.{stop_of, Mode, live, dead, spot, spare, followed, kept_at, Shelf, shelf_kept, Way, Goal, none_failing, went}
use Rattle.sweep.proofs.Straight.{EndsAs, waits}

same_branch : (l m : ℕ) → ◌≡◌ {A = BlockKind × ℕ} (IfBlock, m) (IfBlock, l) → m ≡ l
same_branch l m e = ap (λ (b : BlockKind × ℕ). b.1) e

no_loop : (l m : ℕ) → ◌≡◌ {A = BlockKind × ℕ} (IfBlock, m) (WhileBlock, l) → ⊥
no_loop l m e = let k : IfBlock ≡ WhileBlock = ap (λ (b : BlockKind × ℕ). b.0) e in let z : ◌≡◌ {A = ℕ} 0 1 = cc in omega arith

module _ {S : Type 0} {M : Meaning S} (l : Lattice M) (tracks : S → Option Env → Type 0) (q : Tracking registers l tracks) (lines : List Line) (t : Envelope) where
  module _ (m : ℕ) (c : Condition) (xs : List Line) (go : Goal l tracks lines t xs) where
    abbrev opener : Line
    opener = If m c

    abbrev after : Sweep S → Sweep S
    after w = line_step l (blocks lines) t w opener

    -- the state that the IF stores is there
    stored_follows : (os : Stack) (i : ℕ) (w : Sweep S) (o : Option Env) → states_for lines ≤ length w.flow.store → Part lines os (opener ∷ xs) i →
        tracks (l.keep w.flow.current (opposite c)) o → tracks (kept_at l tracks lines (after w).flow.store m) o
    stored_follows os i w o room part h =
        let p = place_inner lines i m opener (first_stands lines os opener xs i part) refl in
        let P : S → Type 0 = λ x. tracks x o in
        subst P (sym (get_or-set_same w.flow.store ((blocks lines).place m) _ l.none (omega arith))) h

    -- and what others store is untouched
    others_follow : (mode : Mode) (e : Env) (os : Stack) (i : ℕ) (w : Sweep S) → Part lines os (opener ∷ xs) i → Shelf l tracks lines mode e os w.flow.store →
        Shelf l tracks lines mode e os (after w).flow.store
    others_follow mode e os i w part h = shelf_kept l tracks lines mode e os w.flow.store ((blocks lines).place m) _ (λ o k. other_place lines os m o c xs i part k) h

    as_roomy : (w : Sweep S) → states_for lines ≤ length w.flow.store → states_for lines ≤ length (after w).flow.store
    as_roomy w h = let z = length-set w.flow.store ((blocks lines).place m) (l.keep w.flow.current (opposite c)) in omega arith

    if_by : (os : Stack) (i : ℕ) (w : Sweep S) (e : Env) (k : ℕ) → LegalOf registers e → Part lines os (opener ∷ xs) i → Way l tracks lines live e os i w → suc (length xs) ≤ k →
        (b : Bool) → holds e c ≡ b → EndsAs l tracks q lines t k i e xs (after w)
    if_by os i w e k legal part way fuel true f =
        went lines t k i (suc i) e e _ (omega arith) (does (first_stands lines os opener xs i part) f)
        (λ n z. go live ((IfBlock, m) ∷ os) (suc i) (after w) e n legal (push_part lines os m c xs i part)
        (record {
          clear = none_failing _ w.line None way.clear refl;
          line = ap suc way.line;
          current = q.keep_holds _ c e part.written.0 legal way.current f;
          shelf = (stored_follows os i w None way.room part (q.keep_fails _ (opposite c) e part.written.0 legal way.current (opposite_false e c f)), others_follow live e os i w part way.shelf);
          room = as_roomy w way.room;
        })
        (omega arith))
    if_by os i w e k legal part way fuel false f =
        let inner = push_part lines os m c xs i part in
        let end = inner.stands (closing 0 xs) (EndIf m) (closing_stands 0 (IfBlock, m) ((IfBlock, m) ∷ os) xs inner.nested refl) in
        went lines t k i (suc (suc i + closing 0 xs)) e e _ (omega arith) (skips (first_stands lines os opener xs i part) f end)
        (λ n z. go (dead 0) ((IfBlock, m) ∷ os) (suc i) (after w) e n legal inner
        (record {
          clear = none_failing _ w.line None way.clear refl;
          line = ap suc way.line;
          current = q.keep_fails _ c e part.written.0 legal way.current f;
          shelf = (stored_follows os i w (Some e) way.room part (q.keep_holds _ (opposite c) e part.written.0 legal way.current (opposite_true e c f)), others_follow live e os i w part way.shelf);
          room = as_roomy w way.room;
        })
        (omega arith))

    pub past_if : Goal l tracks lines t (opener ∷ xs)
    past_if live os i w e k legal part way fuel = if_by os i w e k legal part way (omega arith) _ refl
    past_if (dead d) os i w e k legal part way fuel =
        waits l tracks q lines t k i (closing (suc d) xs) e _ (go (dead (suc d)) ((IfBlock, m) ∷ os) (suc i) (after w) e k legal (push_part lines os m c xs i part)
        (record {
          clear = none_failing _ w.line None way.clear refl;
          line = ap suc way.line;
          current = q.keep_none _ c way.current;
          shelf = (stored_follows os i w None way.room part (q.keep_none _ (opposite c) way.current), others_follow (dead d) e os i w part way.shelf);
          room = as_roomy w way.room;
        })
        (omega arith))

  module _ (m : ℕ) (xs : List Line) (go : Goal l tracks lines t xs) where
    abbrev closer : Line
    closer = EndIf m

    abbrev joined : Sweep S → Sweep S
    joined w = line_step l (blocks lines) t w closer

    -- the block's stored state, by the label of its end
    of_end : (b : ℕ) (s : List S) (o : Option Env) → ◌≡◌ {A = BlockKind × ℕ} (IfBlock, b) (IfBlock, m) → tracks (kept_at l tracks lines s b) o → tracks (kept_at l tracks lines s m) o
    of_end b s o e h = subst (λ (n : ℕ). tracks (kept_at l tracks lines s n) o) (same_branch m b e) h

    -- past the end in a given mode
    pop : (mode : Mode) (b : BlockKind × ℕ) (os : Stack) (i : ℕ) (w : Sweep S) (e : Env) (k : ℕ) → LegalOf registers e → Part lines (b ∷ os) (closer ∷ xs) i →
        w.failing ≡ None → w.line ≡ suc i → states_for lines ≤ length w.flow.store →
        tracks (l.join (kept_at l tracks lines w.flow.store m) w.flow.current) (followed mode e) → Shelf l tracks lines mode e os w.flow.store →
        length xs ≤ k + spare mode xs → Dry lines t k (spot mode (suc i) xs) e (stop_of (fold (line_step l (blocks lines) t) (joined w) xs).failing)
    pop mode b os i w e k legal part clear line room current shelf fuel =
        go mode os (suc i) (joined w) e k legal (pop_part lines b os m xs i part)
        (record { clear = none_failing _ w.line None clear refl; line = ap suc line; current = current; shelf = shelf; room = room }) fuel

    pub past_endif : Goal l tracks lines t (closer ∷ xs)
    past_endif live [] i w e k legal part way fuel = absurd part.nested.0
    past_endif live ((WhileBlock, b) ∷ os) i w e k legal part way fuel = absurd way.shelf
    past_endif live ((IfBlock, b) ∷ os) i w e k legal part way fuel =
        went lines t k i (suc i) e e _ (omega arith) (ends (first_stands lines ((IfBlock, b) ∷ os) closer xs i part))
        (λ n z. pop live (IfBlock, b) os i w e n legal part way.clear way.line way.room
        (q.join_right _ _ e legal (of_end b w.flow.store None part.nested.0 way.shelf.0) way.current) way.shelf.1 (omega arith))
    past_endif (dead d) [] i w e k legal part way fuel = absurd way.shelf
    past_endif (dead d) ((WhileBlock, b) ∷ os) i w e k legal part way fuel = absurd way.shelf
    past_endif (dead zero) ((IfBlock, b) ∷ os) i w e k legal part way fuel =
        let z : suc i ≡ suc (i + 0) = omega arith in
        subst (λ (j : ℕ). Dry lines t k j e (stop_of (fold (line_step l (blocks lines) t) (joined w) xs).failing)) z
        (pop live (IfBlock, b) os i w e k legal part way.clear way.line way.room
        (q.join_left _ _ e legal (of_end b w.flow.store (Some e) part.nested.0 way.shelf.0) way.current) way.shelf.1 (omega arith))
    past_endif (dead (suc d)) ((IfBlock, b) ∷ os) i w e k legal part way fuel =
        waits l tracks q lines t k i (closing d xs) e _
        (pop (dead d) (IfBlock, b) os i w e k legal part way.clear way.line way.room
        (q.join_none _ _ (of_end b w.flow.store None part.nested.0 way.shelf.0) way.current) way.shelf.1 (omega arith))

    -- without WHILE there is no ENDWHILE
    no_endwhile : (mode : Mode) (e : Env) (os : Stack) (s : List S) → Innermost (WhileBlock, m) os → Shelf l tracks lines mode e os s → ⊥
    no_endwhile mode e [] s h k = h
    no_endwhile live e ((WhileBlock, b) ∷ os) s h k = k
    no_endwhile (dead d) e ((WhileBlock, b) ∷ os) s h k = k
    no_endwhile mode e ((IfBlock, b) ∷ os) s h k = no_loop m b h

    pub past_endwhile : Goal l tracks lines t (EndWhile m ∷ xs)
    past_endwhile mode os i w e k legal part way fuel = absurd (no_endwhile mode e os w.flow.store part.nested.0 way.shelf)
