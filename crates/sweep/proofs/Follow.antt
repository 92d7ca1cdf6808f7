-- A sweep follows a single environment: live where the run stands, dead in a branch that the run skips.
use Rattle.std.proofs.Common.{◌≡◌, ℕ, zero, suc, ◌+◌, ◌<◌, ◌≤◌, List, [], ◌∷◌, length, get_or, set, Some, None, fold, Option, sym, refl, ap, ◌∙◌, subst, inl, inr, arith, get_or-set_other}
use Rattle.model.specs.declared.ending.Cause.{Cause}
use Rattle.model.specs.declared.ending.Failure.{Failure}
use Rattle.model.specs.declared.ending.Ending.{Ending}
use Rattle.model.specs.declared.ending.Ending.TheVariants.{Ended, Stopped}
use Rattle.model.specs.Envelopes.{Envelope}
use Rattle.model.specs.declared.block.BlockKind.TheVariants.{While as WhileBlock, If as IfBlock}
use Rattle.model.specs.declared.line.Line.{Line}
use Rattle.model.specs.Environments.{Env, LegalOf, position, registers}
use Rattle.model.specs.Sides.{kept, lowest}
use Rattle.model.specs.Blocks.{Stack}
use Rattle.model.specs.Runs.{goes, commands, Steps}
use Rattle.model.specs.Whole.{Dry}
use Rattle.model.proofs.Dried.{dry_on, dry_inside}
use Rattle.model.proofs.Closing.{closing}
use Rattle.domain.specs.Lattice.{Lattice, Meaning}
use Rattle.sweep.specs.Blocks.{Blocks, blocks, states_for}
use Rattle.sweep.specs.Sweeps.{Sweep, first, failure, line_step}
use Rattle.sweep.proofs.Parts.{OpenLabel, Part}

-- how the run ends, by the first failure of the sweep
abbrev pub stop_of : Option Failure → Ending
stop_of None = Ended
stop_of (Some f) = Stopped f

-- the run stands at the line of the sweep, or past the end of the open block at a depth
pub data Mode : Type 0 where
  live : Mode
  dead : ℕ → Mode

abbrev pub spot : Mode → ℕ → List Line → ℕ
spot live i xs = i
spot (dead d) i xs = suc (i + closing d xs)

-- the lines ahead that the run has left behind already
abbrev pub spare : Mode → List Line → ℕ
spare live xs = 0
spare (dead d) xs = suc (closing d xs)

abbrev pub followed : Mode → Env → Option Env
followed live e = Some e
followed (dead d) e = None

-- a run with steps left makes one
module _ (lines : List Line) (t : Envelope) where
  pub went : (k i j : ℕ) (e f : Env) (o : Ending) → 0 < k → Steps lines i e (goes j f) → ((n : ℕ) → k ≡ suc n → Dry lines t n j f o) → Dry lines t k i e o
  went zero i j e f o h st r = absurd (omega arith)
  went (suc k) i j e f o h st r = dry_on lines t st (r k refl)

  pub went_inside : (k i j : ℕ) (e f : Env) (o : Ending) → 0 < k → Steps lines i e (commands j f) → lowest (kept (position f)) 0 t.sides ≡ None →
      ((n : ℕ) → k ≡ suc n → Dry lines t n j f o) → Dry lines t k i e o
  went_inside zero i j e f o h st b r = absurd (omega arith)
  went_inside (suc k) i j e f o h st b r = dry_inside lines t st b (r k refl)

-- the first failure of a sweep stays
still_none : (f g : Option Failure) → f ≡ None → g ≡ None → first f g ≡ None
still_none f g h k = ap (λ (x : Option Failure). first x g) h ∙ k

pub none_failing : (f : Option Failure) (n : ℕ) (c : Option Cause) → f ≡ None → c ≡ None → first f (failure n c) ≡ None
none_failing f n c h k = still_none f (failure n c) h (ap (failure n) k)

pub some_failing : (f : Option Failure) (n i : ℕ) (c : Option Cause) (d : Cause) → f ≡ None → n ≡ suc i → c ≡ Some d → first f (failure n c) ≡ Some (record { line = suc i; cause = d })
some_failing f n i c d h k m = ap (λ (x : Option Failure). first x (failure n c)) h ∙ (ap (failure n) m ∙ ap (λ (o : ℕ). Some (record { line = o; cause = d })) k)

first_stays : (f g : Option Failure) (h : Failure) → f ≡ Some h → first f g ≡ Some h
first_stays f g h e = ap (λ (x : Option Failure). first x g) e

module _ {S : Type 0} {M : Meaning S} (l : Lattice M) (bs : Blocks) (t : Envelope) where
  pub stays : (xs : List Line) (w : Sweep S) (f : Failure) → w.failing ≡ Some f → (fold (line_step l bs t) w xs).failing ≡ Some f
  stays [] w f h = h
  stays (x ∷ xs) w f h = stays xs (line_step l bs t w x) f (first_stays w.failing _ f h)

module _ {S : Type 0} {M : Meaning S} (l : Lattice M) (tracks : S → Option Env → Type 0) (lines : List Line) where
  abbrev pub kept_at : List S → ℕ → S
  kept_at s m = get_or s ((blocks lines).place m) l.none

  -- what is stored for the open blocks: the run's environment where it skips, else none
  abbrev pub Shelf : Mode → Env → Stack → List S → Type 0
  Shelf live e [] s = Unit {0}
  Shelf (dead d) e [] s = ⊥
  Shelf live e ((WhileBlock, m) ∷ os) s = ⊥
  Shelf (dead d) e ((WhileBlock, m) ∷ os) s = ⊥
  Shelf live e ((IfBlock, m) ∷ os) s = tracks (kept_at s m) None × Shelf live e os s
  Shelf (dead zero) e ((IfBlock, m) ∷ os) s = tracks (kept_at s m) (Some e) × Shelf live e os s
  Shelf (dead (suc d)) e ((IfBlock, m) ∷ os) s = tracks (kept_at s m) None × Shelf (dead d) e os s

  -- where the run skips nothing its environment does not matter
  pub shelf_live : (e f : Env) (os : Stack) (s : List S) → Shelf live e os s → Shelf live f os s
  shelf_live e f [] s h = h
  shelf_live e f ((WhileBlock, m) ∷ os) s h = h
  shelf_live e f ((IfBlock, m) ∷ os) s h = (h.0, shelf_live e f os s h.1)

  -- the state of another place is not touched
  other_kept : (s : List S) (m b : ℕ) (v : S) (o : Option Env) → ((blocks lines).place m ≡ b → ⊥) → tracks (kept_at s m) o → tracks (kept_at (set s b v) m) o
  other_kept s m b v o n h =
      let P : S → Type 0 = λ x. tracks x o in
      subst P (sym (get_or-set_other s b ((blocks lines).place m) v l.none n)) h

  pub shelf_kept : (mode : Mode) (e : Env) (os : Stack) (s : List S) (b : ℕ) (v : S) → ((o : ℕ) → OpenLabel o os → (blocks lines).place o ≡ b → ⊥) →
      Shelf mode e os s → Shelf mode e os (set s b v)
  shelf_kept live e [] s b v n h = tt
  shelf_kept (dead d) e [] s b v n h = h
  shelf_kept live e ((WhileBlock, m) ∷ os) s b v n h = h
  shelf_kept (dead d) e ((WhileBlock, m) ∷ os) s b v n h = h
  shelf_kept live e ((IfBlock, m) ∷ os) s b v n h = (other_kept s m b v None (n m (inl refl)) h.0, shelf_kept live e os s b v (λ o k. n o (inr k)) h.1)
  shelf_kept (dead zero) e ((IfBlock, m) ∷ os) s b v n h = (other_kept s m b v (Some e) (n m (inl refl)) h.0, shelf_kept live e os s b v (λ o k. n o (inr k)) h.1)
  shelf_kept (dead (suc d)) e ((IfBlock, m) ∷ os) s b v n h = (other_kept s m b v None (n m (inl refl)) h.0, shelf_kept (dead d) e os s b v (λ o k. n o (inr k)) h.1)

  -- the sweep before the line i, while no line has failed
  pub record Way (mode : Mode) (e : Env) (os : Stack) (i : ℕ) (w : Sweep S) : Type 0 where
    pub clear : w.failing ≡ None
    pub line : w.line ≡ suc i
    pub current : tracks w.flow.current (followed mode e)
    pub shelf : Shelf mode e os w.flow.store
    pub room : states_for lines ≤ length w.flow.store

  -- from there the sweep ends as the run does
  abbrev pub Goal : Envelope → List Line → Type 0
  Goal t xs = (mode : Mode) (os : Stack) (i : ℕ) (w : Sweep S) (e : Env) (k : ℕ) → LegalOf registers e → Part lines os xs i → Way mode e os i w → length xs ≤ k + spare mode xs →
      Dry lines t k (spot mode i xs) e (stop_of (fold (line_step l (blocks lines) t) w xs).failing)
