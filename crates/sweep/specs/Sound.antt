-- What a certificate promises of every run, and what an unchanged sweep knows of every line that a run reaches.
use Rattle.std.specs.Prelude.{◌≡◌, ℕ, ◌<◌, ◌≤◌, false, List, length, take, replicate, ℤ, Some, None, Option, slice_index_or}
use Rattle.std.specs.List.{AllByRecursion}
use Rattle.model.specs.declared.expression.Condition.{Condition}
use Rattle.model.specs.declared.range.Range.{Range}
use Rattle.model.specs.declared.ending.Ending.{Ending}
use Rattle.model.specs.declared.ending.Ending.TheVariants.{Ended, Running, Stopped}
use Rattle.model.specs.declared.line.Line.{Line}
use Rattle.model.specs.declared.line.Line.TheVariants.{Plain, Setting, Move, While, If, EndIf, EndWhile}
use Rattle.model.specs.Envelopes.{Envelope}
use Rattle.model.specs.Environments.{Env, Lies, at, axes, parameters, position}
use Rattle.model.specs.Sides.{AllHold}
use Rattle.model.specs.Written.{WrittenLine}
use Rattle.model.specs.Programs.{Stands, Closed}
use Rattle.model.specs.Runs.{Outcome, goes, commands, faults, Steps}
use Rattle.model.specs.Reached.{Begins, Reached}
use Rattle.model.specs.Whole.{Dry}
use Rattle.domain.specs.Lattice.{Lattice, Meaning}
use Rattle.sweep.specs.Blocks.{blocks, states_for}
use Rattle.sweep.specs.Starts.{start}
use Rattle.sweep.specs.Sweeps.{Sweep, sweep, Settles, verdict, certified}

-- a number lies in a range that is there
abbrev pub LiesSome : ℤ → Option Range → Type 0
LiesSome n None = ⊥
LiesSome n (Some x) = Lies n x

-- a step does not fault, and what it commands satisfies all sides and lies in the hulls
abbrev pub Fine : Envelope → List (Option Range) → Outcome → Type 0
Fine t hulls (goes i e) = Unit {0}
Fine t hulls (commands i e) = AllHold (position e) t.sides × ((r : ℕ) → r < axes → LiesSome (at e r) (slice_index_or hulls r None))
Fine t hulls faults = ⊥

-- so does every step that a run comes to, from home and allowed values
abbrev pub Safe : List Line → Envelope → List Range → List (Option Range) → Type 0
Safe lines t allowed hulls = (i : ℕ) (e : Env) (o : Outcome) → Reached lines t.home allowed i e → Steps lines i e o → Fine t hulls o

-- the sweep that judges a program, from a working store of n states
abbrev pub Judges : {S : Type 0} {M : Meaning S} → Lattice M → List Line → Envelope → List Range → ℕ → Sweep S → Type 0
Judges l lines t allowed n w = Settles l (blocks lines) t lines (start l t allowed) (replicate n l.none) w

module _ {S : Type 0} {M : Meaning S} (l : Lattice M) (lines : List Line) (t : Envelope) (begin : S) where
  -- the sweep from the store is unchanged
  pub record Unchanged (store : List S) : Type 0 where
    pub room : states_for lines ≤ length store
    pub quiet : (sweep l (blocks lines) t lines begin store).flow.changed ≡ false

  -- the sweep over the lines before i
  abbrev pub swept : List S → ℕ → Sweep S
  swept store i = sweep l (blocks lines) t (take i lines) begin store

  -- what the sweep knows before a line: for a WHILE its loop's state, else the current one
  abbrev pub known_by : List S → ℕ → Line → S
  known_by store i Plain = (swept store i).flow.current
  known_by store i (Setting p v) = (swept store i).flow.current
  known_by store i (Move g x y z u) = (swept store i).flow.current
  known_by store i (While m c) = slice_index_or store ((blocks lines).place m) l.none
  known_by store i (If m c) = (swept store i).flow.current
  known_by store i (EndIf m) = (swept store i).flow.current
  known_by store i (EndWhile m) = (swept store i).flow.current

  abbrev pub known : List S → ℕ → S
  known store i = known_by store i (slice_index_or lines i Plain)

-- the sweep that judges is the unchanged one from some store
abbrev pub ComesFrom : {S : Type 0} {M : Meaning S} → Lattice M → Envelope → Type 0
ComesFrom {S} l t = (lines : List Line) (allowed : List Range) (n : ℕ) (w : Sweep S) → states_for lines ≤ n → Judges l lines t allowed n w →
    (store : List S) × (w ≡ sweep l (blocks lines) t lines (start l t allowed) store) × (length store ≡ n) × Unchanged l lines t (start l t allowed) store

-- a program that an unchanged sweep certifies is safe
abbrev pub Sound : {S : Type 0} {M : Meaning S} → Lattice M → Envelope → Type 0
Sound {S} l t = (lines : List Line) (allowed : List Range) (store : List S) (hulls : List (Option Range)) →
    Closed lines → AllByRecursion WrittenLine lines → length allowed ≡ parameters → Unchanged l lines t (start l t allowed) store →
    verdict (sweep l (blocks lines) t lines (start l t allowed) store) ≡ certified hulls → Safe lines t allowed hulls

-- a dry run either goes on or ends
abbrev pub NotStopped : Ending → Type 0
NotStopped Ended = Unit {0}
NotStopped Running = Unit {0}
NotStopped (Stopped f) = ⊥

-- so no dry run from home and allowed values stops, however many its steps
abbrev pub NeverStops : {S : Type 0} {M : Meaning S} → Lattice M → Envelope → Type 0
NeverStops {S} l t = (lines : List Line) (allowed : List Range) (store : List S) (hulls : List (Option Range)) (k : ℕ) (e : Env) (o : Ending) →
    Closed lines → AllByRecursion WrittenLine lines → length allowed ≡ parameters → Unchanged l lines t (start l t allowed) store →
    verdict (sweep l (blocks lines) t lines (start l t allowed) store) ≡ certified hulls → Begins t.home allowed e → Dry lines t k 0 e o → NotStopped o

-- certified or not, what an unchanged sweep knows before a line means every environment that a run brings there
abbrev pub Covers : {S : Type 0} {M : Meaning S} → Lattice M → Envelope → Type 0
Covers {S} {M} l t = (lines : List Line) (allowed : List Range) (store : List S) →
    Closed lines → AllByRecursion WrittenLine lines → length allowed ≡ parameters → Unchanged l lines t (start l t allowed) store →
    (i : ℕ) (e : Env) → Reached lines t.home allowed i e → M (known l lines t (start l t allowed) store i) e

-- and it leaves each loop's state in the working store as it found it
abbrev pub KeepsLoops : {S : Type 0} {M : Meaning S} → Lattice M → Envelope → Type 0
KeepsLoops {S} l t = (lines : List Line) (begin : S) (store : List S) → Closed lines → Unchanged l lines t begin store →
    (i m : ℕ) (c : Condition) → Stands lines i (While m c) →
    slice_index_or (sweep l (blocks lines) t lines begin store).flow.store ((blocks lines).place m) l.none ≡ slice_index_or store ((blocks lines).place m) l.none
