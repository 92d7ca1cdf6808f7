-- In a closed program each line has exactly one step.
use Rattle.std.proofs.Common.{◌≡◌, ℕ, suc, ◌<◌, Bool, true, false, cond, ◌&&◌, List, [], ◌∷◌, length, get_or, set, Some, Option, sym, refl, ap, ◌∙◌, subst, true≢false, arith}
use Rattle.model.specs.declared.expression.Condition.{Condition}
use Rattle.model.specs.declared.expression.Parameter.{Parameter}
use Rattle.model.specs.declared.expression.Value.{Value}
use Rattle.model.specs.declared.block.BlockKind.{BlockKind}
use Rattle.model.specs.declared.block.BlockKind.TheVariants.{While as WhileBlock, If as IfBlock}
use Rattle.model.specs.declared.line.Motion.{Motion}
use Rattle.model.specs.declared.line.Line.{Line}
use Rattle.model.specs.declared.line.Line.TheVariants.{Plain, Setting, Move, While, If, EndIf, EndWhile}
use Rattle.model.specs.Environments.{Env}
use Rattle.model.specs.Values.{register, result, holds, values, four, fine, all_fine}
use Rattle.model.specs.Blocks.{role_of}
use Rattle.model.specs.Programs.{Stands, Closed}
use Rattle.model.specs.Runs.{put, Outcome, goes, commands, faults, Steps, passes, ends, sets, moves, stops, enters, leaves, back, does, skips}
use Rattle.model.specs.Whole.{OneStep}
use Rattle.model.proofs.Standing.{some_one, none_some}
use Rattle.model.proofs.Nesting.{opener, ender, Before, outside, inside, opened_before, end_stands}
use Rattle.model.proofs.Ends.{ends_once}

-- ---- a block's lines by their kinds
if_while : {l m : ℕ} → ◌≡◌ {A = BlockKind × ℕ} (IfBlock, l) (WhileBlock, m) → ⊥
if_while q = let k : IfBlock ≡ WhileBlock = ap (λ (b : BlockKind × ℕ). b.0) q in let z : ◌≡◌ {A = ℕ} 0 1 = cc in omega arith

while_if : {l m : ℕ} → ◌≡◌ {A = BlockKind × ℕ} (WhileBlock, l) (IfBlock, m) → ⊥
while_if q = let k : WhileBlock ≡ IfBlock = ap (λ (b : BlockKind × ℕ). b.0) q in let z : ◌≡◌ {A = ℕ} 0 1 = cc in omega arith

same_label : {k : BlockKind} {l m : ℕ} → ◌≡◌ {A = BlockKind × ℕ} (k, l) (k, m) → l ≡ m
same_label q = ap (λ (b : BlockKind × ℕ). b.1) q

pub ends_while : (x : Line) (l : ℕ) → ender (role_of x) ≡ Some (WhileBlock, l) → x ≡ EndWhile l
ends_while Plain l e = absurd (none_some e)
ends_while (Setting p v) l e = absurd (none_some e)
ends_while (Move g x y z u) l e = absurd (none_some e)
ends_while (While m c) l e = absurd (none_some e)
ends_while (If m c) l e = absurd (none_some e)
ends_while (EndIf m) l e = absurd (if_while (some_one e))
ends_while (EndWhile m) l e = ap EndWhile (same_label (some_one e))

pub ends_if : (x : Line) (l : ℕ) → ender (role_of x) ≡ Some (IfBlock, l) → x ≡ EndIf l
ends_if Plain l e = absurd (none_some e)
ends_if (Setting p v) l e = absurd (none_some e)
ends_if (Move g x y z u) l e = absurd (none_some e)
ends_if (While m c) l e = absurd (none_some e)
ends_if (If m c) l e = absurd (none_some e)
ends_if (EndIf m) l e = ap EndIf (same_label (some_one e))
ends_if (EndWhile m) l e = absurd (while_if (some_one e))

pub opens_while : (x : Line) (l : ℕ) → opener (role_of x) ≡ Some (WhileBlock, l) → (c : Condition) × (x ≡ While l c)
opens_while Plain l e = absurd (none_some e)
opens_while (Setting p v) l e = absurd (none_some e)
opens_while (Move g x y z u) l e = absurd (none_some e)
opens_while (While m c) l e = (c, ap (λ (n : ℕ). While n c) (same_label (some_one e)))
opens_while (If m c) l e = absurd (if_while (some_one e))
opens_while (EndIf m) l e = absurd (none_some e)
opens_while (EndWhile m) l e = absurd (none_some e)

module _ (lines : List Line) (closed : Closed lines) where
  pub while_end : (i l : ℕ) (c : Condition) → Stands lines i (While l c) → (j : ℕ) × Stands lines j (EndWhile l)
  while_end i l c st =
      let r = end_stands [] lines i (While l c) (WhileBlock, l) closed.nested st refl in
      (r.0, subst (Stands lines r.0) (ends_while r.1 l r.3) r.2)

  pub if_end : (i l : ℕ) (c : Condition) → Stands lines i (If l c) → (j : ℕ) × Stands lines j (EndIf l)
  if_end i l c st =
      let r = end_stands [] lines i (If l c) (IfBlock, l) closed.nested st refl in
      (r.0, subst (Stands lines r.0) (ends_if r.1 l r.3) r.2)

  began : (j l : ℕ) → Before [] lines j (WhileBlock, l) → (i : ℕ) × (c : Condition) × Stands lines i (While l c)
  began j l (outside h) = absurd h
  began j l (inside i x k st h) = let w = opens_while x l h in (i, w.0, subst (Stands lines i) w.1 st)

  pub end_while : (j l : ℕ) → Stands lines j (EndWhile l) → (i : ℕ) × (c : Condition) × Stands lines i (While l c)
  end_while j l st = began j l (opened_before [] [] lines j (WhileBlock, l) (EndWhile l) closed.nested st refl)

-- ---- one step
-- of one value, all are fine where it is
abbrev pub all_fine_one : Bool → Bool
all_fine_one t = t && true

module _ (lines : List Line) (i : ℕ) (e : Env) where
  -- a block line goes on at the next line, or behind its end line
  record Turns (c : Condition) (end : Line) (o : Outcome) : Type 0 where
    on : holds e c ≡ true → o ≡ goes (suc i) e
    off : holds e c ≡ false → (j : ℕ) × Stands lines j end × (o ≡ goes (suc j) e)

  -- what a step comes to, by the line
  abbrev Does : Line → Outcome → Type 0
  Does Plain o = o ≡ goes (suc i) e
  Does (Setting p v) o = o ≡ cond (fine e v) (goes (suc i) (set e (register p) (result e v))) faults
  Does (Move g x y z u) o = o ≡ cond (all_fine e (four x y z u)) (commands (suc i) (put e 0 (four x y z u) e)) faults
  Does (While l c) o = Turns c (EndWhile l) o
  Does (If l c) o = Turns c (EndIf l) o
  Does (EndIf l) o = o ≡ goes (suc i) e
  Does (EndWhile l) o = (j : ℕ) × (c : Condition) × Stands lines j (While l c) × (o ≡ goes j e)

  at_line : (x : Line) (o : Outcome) → Stands lines i x → Does x o → Does (get_or lines i Plain) o
  at_line x o st h = subst (λ (y : Line). Does y o) (sym st.is) h

  turn_on : (c : Condition) (x : Line) → holds e c ≡ true → Turns c x (goes (suc i) e)
  turn_on c x h = record { on = λ k. refl; off = λ k. absurd (true≢false (sym h ∙ k)) }

  turn_off : (c : Condition) (x : Line) (j : ℕ) → holds e c ≡ false → Stands lines j x → Turns c x (goes (suc j) e)
  turn_off c x j h st = record { on = λ k. absurd (true≢false (sym k ∙ h)); off = λ k. (j, st, refl) }

  one_fine : (v : Value) → all_fine e (Some v ∷ []) ≡ false → fine e v ≡ false
  one_fine v f = elim (fine e v) as (λ (t : Bool). all_fine_one t ≡ false → t ≡ false) [ true ↦ λ g. g | false ↦ λ g. refl ] f

  stop_does : (x : Line) → all_fine e (values x) ≡ false → Does x faults
  stop_does Plain f = absurd (true≢false f)
  stop_does (Setting p v) f = sym (ap (λ (t : Bool). cond t (goes (suc i) (set e (register p) (result e v))) faults) (one_fine v f))
  stop_does (Move g x y z u) f = sym (ap (λ (t : Bool). cond t (commands (suc i) (put e 0 (four x y z u) e)) faults) f)
  stop_does (While l c) f = absurd (true≢false f)
  stop_does (If l c) f = absurd (true≢false f)
  stop_does (EndIf l) f = absurd (true≢false f)
  stop_does (EndWhile l) f = absurd (true≢false f)

  steps_does : {o : Outcome} → Steps lines i e o → Does (get_or lines i Plain) o
  steps_does (passes st) = at_line Plain _ st refl
  steps_does (ends {l = l} st) = at_line (EndIf l) _ st refl
  steps_does (sets {p = p} {v = v} st f) = at_line (Setting p v) _ st (sym (ap (λ (t : Bool). cond t (goes (suc i) (set e (register p) (result e v))) faults) f))
  steps_does (moves {g = g} {x = x} {y = y} {z = z} {u = u} st f) =
      at_line (Move g x y z u) _ st (sym (ap (λ (t : Bool). cond t (commands (suc i) (put e 0 (four x y z u) e)) faults) f))
  steps_does (stops {x = x} st f) = at_line x _ st (stop_does x f)
  steps_does (enters {l = l} {c = c} st h) = at_line (While l c) _ st (turn_on c (EndWhile l) h)
  steps_does (leaves {l = l} {j = j} {c = c} st h t) = at_line (While l c) _ st (turn_off c (EndWhile l) j h t)
  steps_does (back {l = l} {j = j} {c = c} st t) = at_line (EndWhile l) _ st (j, c, t, refl)
  steps_does (does {l = l} {c = c} st h) = at_line (If l c) _ st (turn_on c (EndIf l) h)
  steps_does (skips {l = l} {j = j} {c = c} st h t) = at_line (If l c) _ st (turn_off c (EndIf l) j h t)

  turns_one : (c : Condition) (x : Line) (o u : Outcome) → ((j k : ℕ) → Stands lines j x → Stands lines k x → j ≡ k) → (t : Bool) → holds e c ≡ t → Turns c x o → Turns c x u → o ≡ u
  turns_one c x o u one true h a b = a.on h ∙ sym (b.on h)
  turns_one c x o u one false h a b =
      let p = a.off h in
      let q = b.off h in
      p.2 ∙ (ap (λ (j : ℕ). goes (suc j) e) (one p.0 q.0 p.1 q.1) ∙ sym q.2)

  module _ (closed : Closed lines) where
    does_one : (x : Line) (o u : Outcome) → Does x o → Does x u → o ≡ u
    does_one Plain o u a b = a ∙ sym b
    does_one (Setting p v) o u a b = a ∙ sym b
    does_one (Move g x y z v) o u a b = a ∙ sym b
    does_one (While l c) o u a b = turns_one c (EndWhile l) o u (λ j k s t. ends_once lines j k (EndWhile l) (EndWhile l) (WhileBlock, l) (WhileBlock, l) closed s t refl refl refl) _ refl a b
    does_one (If l c) o u a b = turns_one c (EndIf l) o u (λ j k s t. ends_once lines j k (EndIf l) (EndIf l) (IfBlock, l) (IfBlock, l) closed s t refl refl refl) _ refl a b
    does_one (EndIf l) o u a b = a ∙ sym b
    does_one (EndWhile l) o u a b =
        a.3 ∙ (ap (λ (j : ℕ). goes j e) (closed.once a.0 b.0 l (While l a.1) (While l b.1) a.2 b.2 refl refl) ∙ sym b.3)

    set_runs : (p : Parameter) (v : Value) → Stands lines i (Setting p v) → (t : Bool) → fine e v ≡ t → (o : Outcome) × Steps lines i e o
    set_runs p v st true f = (_, sets st f)
    set_runs p v st false f = (_, stops st (ap all_fine_one f))

    move_runs : (g : Motion) (x y z u : Option Value) → Stands lines i (Move g x y z u) → (t : Bool) → all_fine e (four x y z u) ≡ t → (o : Outcome) × Steps lines i e o
    move_runs g x y z u st true f = (_, moves st f)
    move_runs g x y z u st false f = (_, stops st f)

    while_runs : (l : ℕ) (c : Condition) → Stands lines i (While l c) → (t : Bool) → holds e c ≡ t → (o : Outcome) × Steps lines i e o
    while_runs l c st true h = (_, enters st h)
    while_runs l c st false h = (_, leaves st h (while_end lines closed i l c st).1)

    if_runs : (l : ℕ) (c : Condition) → Stands lines i (If l c) → (t : Bool) → holds e c ≡ t → (o : Outcome) × Steps lines i e o
    if_runs l c st true h = (_, does st h)
    if_runs l c st false h = (_, skips st h (if_end lines closed i l c st).1)

    runs : (x : Line) → Stands lines i x → (o : Outcome) × Steps lines i e o
    runs Plain st = (_, passes st)
    runs (Setting p v) st = set_runs p v st _ refl
    runs (Move g x y z u) st = move_runs g x y z u st _ refl
    runs (While l c) st = while_runs l c st _ refl
    runs (If l c) st = if_runs l c st _ refl
    runs (EndIf l) st = (_, ends st)
    runs (EndWhile l) st = (_, back st (end_while lines closed i l st).2)

pub one_step : (lines : List Line) → Closed lines → OneStep lines
one_step lines c = record {
  some = λ i e h. runs lines i e c (get_or lines i Plain) (record { inner = h; is = refl });
  only = λ i e o u a b. does_one lines i e c (get_or lines i Plain) o u (steps_does lines i e a) (steps_does lines i e b);
}

-- a step is made at a line
pub steps_inner : {lines : List Line} {i : ℕ} {e : Env} {o : Outcome} → Steps lines i e o → i < length lines
steps_inner (passes st) = st.inner
steps_inner (ends st) = st.inner
steps_inner (sets st f) = st.inner
steps_inner (moves st f) = st.inner
steps_inner (stops st f) = st.inner
steps_inner (enters st h) = st.inner
steps_inner (leaves st h t) = st.inner
steps_inner (back st t) = st.inner
steps_inner (does st h) = st.inner
steps_inner (skips st h t) = st.inner
