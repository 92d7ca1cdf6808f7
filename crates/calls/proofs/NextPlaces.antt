-- In a closed program a step leads a run to one place.
use Rattle.std.proofs.Common.{◌≡◌, ℕ, ◌≤◌, List, length, refl, arith}
use Rattle.model.specs.declared.line.Line.{Line}
use Rattle.model.specs.Environments.{Env}
use Rattle.model.specs.Programs.{Closed}
use Rattle.model.specs.Runs.{goes, commands, Outcome, Steps}
use Rattle.model.proofs.Stepping.{one_step, steps_inner}
use Rattle.calls.specs.Law.{Answer, NextPlace, by_going, by_command, at_end}

abbrev Place : ℕ → Env → ℕ → Env → Type 0
Place j f k g = (j ≡ k) × (f ≡ g)

not_past : {P : Type 0} {lines : List Line} {i : ℕ} {e : Env} {o : Outcome} → Steps lines i e o → length lines ≤ i → P
not_past st h = let k = steps_inner st in absurd (omega arith)

goes_one : {j k : ℕ} {f g : Env} → goes j f ≡ goes k g → Place j f k g
goes_one e = (cc, cc)

commands_one : {j k : ℕ} {f g : Env} → commands j f ≡ commands k g → Place j f k g
commands_one e = (cc, cc)

apart : {P : Type 0} {j k : ℕ} {f g : Env} → goes j f ≡ commands k g → P
apart e = absurd (cc)

apart_too : {P : Type 0} {j k : ℕ} {f g : Env} → commands j f ≡ goes k g → P
apart_too e = absurd (cc)

pub one_place : {lines : List Line} {i j k : ℕ} {e f g : Env} {a b : Answer} → Closed lines → NextPlace lines i e a j f → NextPlace lines i e b k g → Place j f k g
one_place {lines = lines} c (by_going s) (by_going t) = goes_one ((one_step lines c).only _ _ _ _ s t)
one_place {lines = lines} c (by_going s) (by_command t) = apart ((one_step lines c).only _ _ _ _ s t)
one_place c (by_going s) (at_end h) = not_past s h
one_place {lines = lines} c (by_command s) (by_going t) = apart_too ((one_step lines c).only _ _ _ _ s t)
one_place {lines = lines} c (by_command s) (by_command t) = commands_one ((one_step lines c).only _ _ _ _ s t)
one_place c (by_command s) (at_end h) = not_past s h
one_place c (at_end h) (by_going t) = not_past t h
one_place c (at_end h) (by_command t) = not_past t h
one_place c (at_end h) (at_end k) = (refl, refl)
