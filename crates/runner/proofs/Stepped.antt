-- A step of the code is a step of the plain run, in a closed program.
use Rattle.std.proofs.Common.{◌≡◌, ℕ, suc, ◌+◌, ◌<◌, ◌≤◌, Bool, true, false, cond, ◌&&◌, ltb, List, length, get_or, set, ℤ, Some, None, Option, Result, sym, refl, ap, ◌∙◌, subst, arith}
use Rattle.std.proofs.lemmas.Bool.Decides.{nat_tests}
use Rattle.model.specs.declared.block.Block.{Block}
use Rattle.model.specs.declared.block.BlockKind.TheVariants.{While as WhileBlock, If as IfBlock}
use Rattle.model.specs.declared.expression.Condition.{Condition}
use Rattle.model.specs.declared.expression.Parameter.{Parameter}
use Rattle.model.specs.declared.expression.Value.{Value}
use Rattle.model.specs.declared.line.Motion.{Motion}
use Rattle.model.specs.declared.line.Line.{Line}
use Rattle.model.specs.declared.line.Line.TheVariants.{Plain, Setting, Move, While, If, EndIf, EndWhile}
use Rattle.model.specs.Blocks.{block_of}
use Rattle.model.specs.Environments.{Env}
use Rattle.model.specs.Values.{register, result, holds, fine, fine_one, four, all_fine}
use Rattle.model.specs.Programs.{Stands, Closed}
use Rattle.model.specs.Runs.{put_one, put, goes, commands, Steps, passes, ends, sets, moves, stops, enters, leaves, back, does, skips}
use Rattle.model.proofs.Stepping.{while_end, if_end, end_while}
use Rattle.model.proofs.Found.{block_found, end_found}
use Rattle.runner.specs.declared.run.Stepped.{Stepped}
use Rattle.runner.specs.declared.run.Stepped.TheVariants.{WentOn, Fault}
use Rattle.runner.specs.declared.run.NoRun.{NoRun}
use Rattle.runner.specs.declared.run.Run.{Run}
use Rattle.runner.specs.Steps.{worked, set_if, by_end, behind, first, Went, gone, went, given, commanded, over, by_place, step_of}
use Rattle.runner.specs.Plain.{LeadsOn, From, PlainStep}

abbrev Leads : List Line → ℕ → Env → Went Stepped → Type 0
Leads lines i e w = LeadsOn lines i e w.answer w.run

module _ (lines : List Line) (closed : Closed lines) (i : ℕ) (e : Env) where
  on : (j : ℕ) (f : Env) → Steps lines i e (goes (suc j) f) → Leads lines i e (went WentOn (j + 1) f)
  on j f st = let n : suc j ≡ j + 1 = omega arith in (j + 1, refl, subst (λ (m : ℕ). Steps lines i e (goes m f)) n st)

  -- ---- settings
  set_leads : (p : Parameter) (v : Value) (t : Bool) → fine e v ≡ t → Stands lines i (Setting p v) → Leads lines i e (given i e (cond t (Some (result e v)) None) (λ (x : ℤ). went WentOn (i + 1) (set e (register p) x)))
  set_leads p v true f st = on i _ (sets st f)
  set_leads p v false f st = (refl, stops st (ap (λ (t : Bool). t && true) f))

  -- ---- moves
  -- a value that is worked out does not fault, and is what the move puts; one that is not, faults
  abbrev Works : Option Value → Option (Option ℤ) → Type 0
  Works v None = fine_one e v ≡ false
  Works v (Some a) = (fine_one e v ≡ true) × ((r : ℕ) (f : Env) → set_if f r a ≡ put_one e r v f)

  value_works : (v : Value) (t : Bool) → fine e v ≡ t → Works (Some v) (elim (cond t (Some (result e v)) None) [ None ↦ None | Some x ↦ Some (Some x) ])
  value_works v true f = (f, λ r g. refl)
  value_works v false f = f

  works : (v : Option Value) → Works v (worked e v)
  works None = (refl, λ r f. refl)
  works (Some v) = value_works v (fine e v) refl

  abbrev Sum : Bool → Bool → Bool → Bool → Bool
  Sum a b c d = a && (b && (c && (d && true)))

  fault_1 : (a b c d : Bool) → a ≡ false → Sum a b c d ≡ false
  fault_1 a b c d h = ap (λ (t : Bool). Sum t b c d) h

  fault_2 : (a b c d : Bool) → b ≡ false → Sum a b c d ≡ false
  fault_2 true b c d h = ap (λ (t : Bool). t && (c && (d && true))) h
  fault_2 false b c d h = refl

  fault_3 : (a b c d : Bool) → c ≡ false → Sum a b c d ≡ false
  fault_3 true true c d h = ap (λ (t : Bool). t && (d && true)) h
  fault_3 true false c d h = refl
  fault_3 false b c d h = refl

  fault_4 : (a b c d : Bool) → d ≡ false → Sum a b c d ≡ false
  fault_4 true true true d h = ap (λ (t : Bool). t && true) h
  fault_4 true true false d h = refl
  fault_4 true false c d h = refl
  fault_4 false b c d h = refl

  module _ (g : Motion) (x y z u : Option Value) (st : Stands lines i (Move g x y z u)) where
    faulty : all_fine e (four x y z u) ≡ false → Leads lines i e (went Fault i e)
    faulty h = (refl, stops st h)

    all_put : (a b c d : Option ℤ) → Works x (Some a) → Works y (Some b) → Works z (Some c) → Works u (Some d) → Leads lines i e (commanded (i + 1) (set_if (set_if (set_if (set_if e 0 a) 1 b) 2 c) 3 d))
    all_put a b c d p q r s =
        let same : set_if (set_if (set_if (set_if e 0 a) 1 b) 2 c) 3 d ≡ put e 0 (four x y z u) e =
        ap (λ (f : Env). set_if (set_if (set_if f 1 b) 2 c) 3 d) (p.1 0 e) ∙ (ap (λ (f : Env). set_if (set_if f 2 c) 3 d) (q.1 1 _) ∙ (ap (λ (f : Env). set_if f 3 d) (r.1 2 _) ∙ s.1 3 _)) in
        let fine-all : all_fine e (four x y z u) ≡ true = λ k. Sum (p.0 k) (q.0 k) (r.0 k) (s.0 k) in
        let n : suc i ≡ i + 1 = omega arith in
        subst (λ (f : Env). Leads lines i e (commanded (i + 1) f)) (sym same) (i + 1, refl, subst (λ (m : ℕ). Steps lines i e (commands m (put e 0 (four x y z u) e))) n (moves st fine-all), refl)

    by_u : (a b c : Option ℤ) (d : Option (Option ℤ)) → Works x (Some a) → Works y (Some b) → Works z (Some c) → Works u d → Leads lines i e (given i e d (λ (d : Option ℤ). commanded (i + 1) (set_if (set_if (set_if (set_if e 0 a) 1 b) 2 c) 3 d)))
    by_u a b c None p q r s = faulty (fault_4 (fine_one e x) (fine_one e y) (fine_one e z) (fine_one e u) s)
    by_u a b c (Some d) p q r s = all_put a b c d p q r s

    by_z : (a b : Option ℤ) (c : Option (Option ℤ)) → Works x (Some a) → Works y (Some b) → Works z c → Leads lines i e (given i e c (λ (c : Option ℤ). given i e (worked e u) (λ (d : Option ℤ). commanded (i + 1) (set_if (set_if (set_if (set_if e 0 a) 1 b) 2 c) 3 d))))
    by_z a b None p q r = faulty (fault_3 (fine_one e x) (fine_one e y) (fine_one e z) (fine_one e u) r)
    by_z a b (Some c) p q r = by_u a b c (worked e u) p q r (works u)

    by_y : (a : Option ℤ) (b : Option (Option ℤ)) → Works x (Some a) → Works y b → Leads lines i e (given i e b (λ (b : Option ℤ). given i e (worked e z) (λ (c : Option ℤ). given i e (worked e u) (λ (d : Option ℤ). commanded (i + 1) (set_if (set_if (set_if (set_if e 0 a) 1 b) 2 c) 3 d)))))
    by_y a None p q = faulty (fault_2 (fine_one e x) (fine_one e y) (fine_one e z) (fine_one e u) q)
    by_y a (Some b) p q = by_z a b (worked e z) p q (works z)

    by_x : (a : Option (Option ℤ)) → Works x a → Leads lines i e (given i e a (λ (a : Option ℤ). given i e (worked e y) (λ (b : Option ℤ). given i e (worked e z) (λ (c : Option ℤ). given i e (worked e u) (λ (d : Option ℤ). commanded (i + 1) (set_if (set_if (set_if (set_if e 0 a) 1 b) 2 c) 3 d))))))
    by_x None p = faulty (fault_1 (fine_one e x) (fine_one e y) (fine_one e z) (fine_one e u) p)
    by_x (Some a) p = by_y a (worked e y) p (works y)

  -- ---- block lines
  -- behind a block is the line after its end line
  behind_is : (j l : ℕ) (b : Block) (o : Option Block) → o ≡ Some b → b.end ≡ Some (suc j) → behind (length lines) o ≡ j + 1
  behind_is j l b o p q = ap (behind (length lines)) p ∙ (ap (by_end (length lines)) q ∙ omega arith)

  turn : (j l : ℕ) (c : Condition) (t : Bool) (n : ℕ) → n ≡ j + 1 → (t ≡ true → Steps lines i e (goes (suc i) e)) → (t ≡ false → Steps lines i e (goes (suc j) e)) → Leads lines i e (went WentOn (cond t (i + 1) n) e)
  turn j l c true n q a b = on i e (a refl)
  turn j l c false n q a b = subst (λ (m : ℕ). Leads lines i e (went WentOn m e)) (sym q) (on j e (b refl))

  while_leads : (l : ℕ) (c : Condition) → Stands lines i (While l c) → Leads lines i e (went WentOn (cond (holds e c) (i + 1) (behind (length lines) (block_of lines l))) e)
  while_leads l c st =
      let w = while_end lines closed i l c st in
      let f = block_found lines i l (While l c) WhileBlock c closed.once st refl in
      let z = behind_is w.0 l _ (block_of lines l) f (end_found lines w.0 l (EndWhile l) WhileBlock closed w.1 refl) in
      turn w.0 l c (holds e c) _ z (λ h. enters st h) (λ h. leaves st h w.1)

  if_leads : (l : ℕ) (c : Condition) → Stands lines i (If l c) → Leads lines i e (went WentOn (cond (holds e c) (i + 1) (behind (length lines) (block_of lines l))) e)
  if_leads l c st =
      let w = if_end lines closed i l c st in
      let f = block_found lines i l (If l c) IfBlock c closed.once st refl in
      let z = behind_is w.0 l _ (block_of lines l) f (end_found lines w.0 l (EndIf l) IfBlock closed w.1 refl) in
      turn w.0 l c (holds e c) _ z (λ h. does st h) (λ h. skips st h w.1)

  back_leads : (l : ℕ) → Stands lines i (EndWhile l) → Leads lines i e (went WentOn (first (length lines) (block_of lines l)) e)
  back_leads l st =
      let w = end_while lines closed i l st in
      let f = block_found lines w.0 l (While l w.1) WhileBlock w.1 closed.once w.2 refl in
      let n : first (length lines) (block_of lines l) ≡ w.0 = ap (first (length lines)) f ∙ omega arith in
      subst (λ (m : ℕ). Leads lines i e (went WentOn m e)) (sym n) (w.0, refl, back st w.2)

  line_leads : (x : Line) → Stands lines i x → Leads lines i e (over lines i e (Some x))
  line_leads Plain st = on i e (passes st)
  line_leads (Setting p v) st = set_leads p v (fine e v) refl st
  line_leads (Move g x y z u) st = by_x g x y z u st (worked e x) (works x)
  line_leads (While l c) st = while_leads l c st
  line_leads (If l c) st = if_leads l c st
  line_leads (EndIf l) st = on i e (ends st)
  line_leads (EndWhile l) st = back_leads l st

  at_leads : (t : Bool) → ltb i (length lines) ≡ t → Leads lines i e (over lines i e (cond t (Some (get_or lines i Plain)) None))
  at_leads true h = line_leads (get_or lines i Plain) (record { inner = let k : i < length lines = grind (arith, nat_tests) in k; is = refl })
  at_leads false h = (refl, let k : length lines ≤ i = grind (arith, nat_tests) in k)

by_run : (lines : List Line) (r : Run) (o : Option ℕ) → Closed lines → let w = by_place lines r o in From lines r o w.answer w.run
by_run lines r None c = refl
by_run lines r (Some i) c = at_leads lines c i r.registers (ltb i (length lines)) refl

pub plain_step : (lines : List Line) (r : Run) (s : Result Stepped NoRun) (t : Run) → gone t s ≡ step_of lines r → Closed lines → PlainStep lines r s t
plain_step lines r s t e c = subst (λ (w : Went (Result Stepped NoRun)). PlainStep lines r w.answer w.run) (sym e) (by_run lines r r.at c)
