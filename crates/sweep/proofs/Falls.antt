-- A sweep never raises the ranks of the loops' states, and lowers them where it counts as changed; so sweeps end.
use Rattle.std.proofs.Common.{◌≡◌, ℕ, zero, suc, ◌<◌, ◌≤◌, Bool, true, false, cond, List, [], ◌∷◌, length, get_or, set, sym, refl, ap, ap₂, ◌+◌, ◌∙◌, subst, true≢false, replicate, ◌*◌, arith, length-set, get_or-set_other, get_or-set_same}
use native.Mathlib.Decide.{ℕ_discrete}
use Rattle.model.specs.declared.expression.Condition.{Condition}
use Rattle.model.specs.Envelopes.{Envelope}
use Rattle.model.specs.declared.line.Line.{Line}
use Rattle.model.specs.declared.line.Line.TheVariants.{Plain, Setting, Move, While, If, EndIf, EndWhile}
use Rattle.model.specs.Opposites.{opposite}
use Rattle.model.specs.Programs.{Stands, Closed}
use Rattle.model.specs.Environments.{registers}
use Rattle.model.proofs.Stepping.{end_while}
use Rattle.model.proofs.Standing.{stands_later}
use Rattle.domain.specs.Lattice.{Lattice, Meaning, Lawful}
use Rattle.sweep.specs.Blocks.{Blocks, blocks, states_for}
use Rattle.sweep.specs.Sweeps.{Flow, Sweep, came, flow_step, sweep, Settles, done, again, changes}
use Rattle.sweep.specs.Ends.{loop_rank, loop_ranks, loop_one, loops, Ends, OneAnswer, Counted}
use Rattle.sweep.proofs.Places.{place_inner, one_opener, if_no_while}
use Rattle.sweep.proofs.Quiet.{stored}
use Rattle.sweep.proofs.Prefix.{pre, at_start, at_end, pre_more}

module _ {S : Type 0} {M : Meaning S} (l : Lattice M) (bs : Blocks) (s t : List S) where
  -- line by line
  ranks_le : (xs : List Line) → ((k : ℕ) (x : Line) → Stands xs k x → loop_rank l bs t x ≤ loop_rank l bs s x) → loop_ranks l bs t xs ≤ loop_ranks l bs s xs
  ranks_le [] h = omega arith
  ranks_le (x ∷ xs) h =
      let a = h 0 x (record { inner = omega arith; is = refl }) in
      let b = ranks_le xs (λ k y st. h (suc k) y (stands_later st)) in
      omega arith

  ranks_lt : (xs : List Line) (i : ℕ) (z : Line) → Stands xs i z → loop_rank l bs t z < loop_rank l bs s z →
      ((k : ℕ) (x : Line) → Stands xs k x → loop_rank l bs t x ≤ loop_rank l bs s x) → loop_ranks l bs t xs < loop_ranks l bs s xs
  ranks_lt [] i z st f h = absurd (let k = st.inner in omega arith)
  ranks_lt (x ∷ xs) zero z st f h =
      let g : loop_rank l bs t x < loop_rank l bs s x = subst (λ (y : Line). loop_rank l bs t y < loop_rank l bs s y) (sym st.is) f in
      let b = ranks_le xs (λ k y sv. h (suc k) y (stands_later sv)) in
      omega arith
  ranks_lt (x ∷ xs) (suc i) z st f h =
      let a = h 0 x (record { inner = omega arith; is = refl }) in
      let b = ranks_lt xs i z (record { inner = let k = st.inner in omega arith; is = st.is }) f (λ k y sv. h (suc k) y (stands_later sv)) in
      omega arith

module _ {S : Type 0} {M : Meaning S} (l : Lattice M) (p : Lawful registers l) (lines : List Line) (closed : Closed lines) (first : ℕ) (size : ℕ) (room : states_for lines ≤ size) where
  abbrev bs : Blocks
  bs = blocks lines

  -- how low the flow's ranks are
  pub record Low (f : Flow S) : Type 0 where
    pub long : length f.store ≡ size
    pub le : loop_ranks l bs f.store lines ≤ first
    pub lt : f.changed ≡ true → loop_ranks l bs f.store lines < first

  while_inner : (k m : ℕ) (c : Condition) → Stands lines k (While m c) → bs.place m < size
  while_inner k m c st = let h = place_inner lines k m (While m c) st refl in omega arith

  -- a lower state in a place of the store
  lower_line : (s : List S) (b : ℕ) (v : S) → length s ≡ size → l.rank v ≤ l.rank (get_or s b l.none) → (k : ℕ) (x : Line) → Stands lines k x → loop_rank l bs (set s b v) x ≤ loop_rank l bs s x
  lower_line s b v n h k Plain st = omega arith
  lower_line s b v n h k (Setting q x) st = omega arith
  lower_line s b v n h k (Move g x y z u) st = omega arith
  lower_line s b v n h k (While m c) st = elim (ℕ_discrete (bs.place m) b) [
    | yes e ↦
        let j = while_inner k m c st in
        let a = ap l.rank (ap (λ (i : ℕ). get_or (set s b v) i l.none) e ∙ get_or-set_same s b v l.none (omega arith)) in
        let d = ap (λ (i : ℕ). l.rank (get_or s i l.none)) e in
        omega arith
    | no e ↦ let a = ap l.rank (get_or-set_other s b (bs.place m) v l.none e) in omega arith
  ]
  lower_line s b v n h k (If m c) st = omega arith
  lower_line s b v n h k (EndIf m) st = omega arith
  lower_line s b v n h k (EndWhile m) st = omega arith

  -- what an IF stores is in no loop's place
  branch_line : (i m : ℕ) (c : Condition) (s : List S) (v : S) → Stands lines i (If m c) → (k : ℕ) (x : Line) → Stands lines k x → loop_rank l bs (set s (bs.place m) v) x ≤ loop_rank l bs s x
  branch_line i m c s v st k Plain t = omega arith
  branch_line i m c s v st k (Setting q x) t = omega arith
  branch_line i m c s v st k (Move g x y z u) t = omega arith
  branch_line i m c s v st k (While o d) t =
      let apart = λ (e : bs.place o ≡ bs.place m).
      let j = one_opener lines k i o m (While o d) (If m c) closed.once t st refl refl e in
      if_no_while (ap (λ (n : ℕ). get_or lines n Plain) j ∙ st.is) t.is in
      let a = ap l.rank (get_or-set_other s (bs.place m) (bs.place o) v l.none apart) in
      omega arith
  branch_line i m c s v st k (If o d) t = omega arith
  branch_line i m c s v st k (EndIf o) t = omega arith
  branch_line i m c s v st k (EndWhile o) t = omega arith

  came_low_by : (k m : ℕ) (c : Condition) (f : Flow S) → Stands lines k (While m c) → Low f → (t : Bool) → l.within f.current (stored l f (bs.place m)) ≡ t →
      Low (cond t
      (record { store = f.store; current = stored l f (bs.place m); changed = f.changed })
      (record { store = set f.store (bs.place m) (l.widen (stored l f (bs.place m)) f.current); current = l.widen (stored l f (bs.place m)) f.current; changed = true }))
  came_low_by k m c f st low true y = record { long = low.long; le = low.le; lt = low.lt }
  came_low_by k m c f st low false y =
      let v = l.widen (stored l f (bs.place m)) f.current in
      let j = while_inner k m c st in
      let long = low.long in
      let le = low.le in
      let same = ap l.rank (get_or-set_same f.store (bs.place m) v l.none (omega arith)) in
      let fell = p.widen_lt (stored l f (bs.place m)) f.current y in
      let drops = ranks_lt l bs f.store (set f.store (bs.place m) v) lines k (While m c) st (omega arith)
      (lower_line f.store (bs.place m) v long (p.widen_le (stored l f (bs.place m)) f.current)) in
      record { long = length-set f.store (bs.place m) v ∙ long; le = omega arith; lt = λ _. omega arith }

  came_low : (k m : ℕ) (c : Condition) (f : Flow S) → Stands lines k (While m c) → Low f → Low (came l (bs.place m) f)
  came_low k m c f st low = came_low_by k m c f st low _ refl

  step_low : (i : ℕ) (x : Line) (f : Flow S) → Stands lines i x → Low f → Low (flow_step l bs f x)
  step_low i Plain f st low = low
  step_low i (Setting q x) f st low = record { long = low.long; le = low.le; lt = low.lt }
  step_low i (Move g x y z u) f st low = record { long = low.long; le = low.le; lt = low.lt }
  step_low i (While m c) f st low = let k = came_low i m c f st low in record { long = k.long; le = k.le; lt = k.lt }
  step_low i (If m c) f st low =
      let le = low.le in
      let k = ranks_le l bs f.store (set f.store (bs.place m) (l.keep f.current (opposite c))) lines (branch_line i m c f.store (l.keep f.current (opposite c)) st) in
      record { long = length-set f.store (bs.place m) _ ∙ low.long; le = omega arith; lt = λ h. let j = low.lt h in omega arith }
  step_low i (EndIf m) f st low = record { long = low.long; le = low.le; lt = low.lt }
  step_low i (EndWhile m) f st low =
      let w = end_while lines closed i m st in
      let k = came_low w.0 m w.1 f w.2 low in
      record { long = k.long; le = k.le; lt = k.lt }

  low_at : (t : Envelope) (begin : S) (s : List S) (i : ℕ) → i ≤ length lines → Low (pre l bs t lines begin s 0).flow → Low (pre l bs t lines begin s i).flow
  low_at t begin s zero h low = low
  low_at t begin s (suc i) h low =
      let k : i < length lines = omega arith in
      let P : Sweep S → Type 0 = λ w. Low w.flow in
      subst P (sym (pre_more l bs t lines begin s i k)) (step_low i (get_or lines i Plain) _ (record { inner = k; is = refl }) (low_at t begin s i (omega arith) low))

module _ {S : Type 0} {M : Meaning S} (l : Lattice M) (p : Lawful registers l) (lines : List Line) (t : Envelope) (begin : S) (closed : Closed lines) where
  sweep_low : (s : List S) (room : states_for lines ≤ length s) → Low l p lines closed (loop_ranks l (blocks lines) s lines) (length s) room (sweep l (blocks lines) t lines begin s).flow
  sweep_low s room =
      let P : Sweep S → Type 0 = λ w. Low l p lines closed (loop_ranks l (blocks lines) s lines) (length s) room w.flow in
      subst P (at_end l (blocks lines) t lines begin s (length lines) (omega arith))
      (low_at l p lines closed (loop_ranks l (blocks lines) s lines) (length s) room t begin s (length lines) (omega arith)
      (subst P (sym (at_start l (blocks lines) t lines begin s)) (record { long = refl; le = omega arith; lt = λ z. absurd (true≢false (sym z)) })))

  -- the measure of repeated sweeps
  pub sweep_falls : (s : List S) → states_for lines ≤ length s → (sweep l (blocks lines) t lines begin s).flow.changed ≡ true →
      loop_ranks l (blocks lines) (sweep l (blocks lines) t lines begin s).flow.store lines < loop_ranks l (blocks lines) s lines
  sweep_falls s room h = (sweep_low s room).lt h

  -- sweeps settle, and no more of them change a loop than the ranks allow
  abbrev SomeEnd : List S → Type 0
  SomeEnd s = (w : Sweep S) × (d : Settles l (blocks lines) t lines begin s w) × (changes l d ≤ loop_ranks l (blocks lines) s lines)

  ends_by : (s : List S) → states_for lines ≤ length s → (b : Bool) → (sweep l (blocks lines) t lines begin s).flow.changed ≡ b →
      ((sweep l (blocks lines) t lines begin s).flow.changed ≡ true → SomeEnd (sweep l (blocks lines) t lines begin s).flow.store) → SomeEnd s
  ends_by s room true h k =
      let z = k h in
      let few = z.2 in
      let fell = sweep_falls s room h in
      (z.0, again h z.1, omega arith)
  ends_by s room false h k = (_, done h, omega arith)

  ends_under : (n : ℕ) (s : List S) → states_for lines ≤ length s → loop_ranks l (blocks lines) s lines < n → SomeEnd s
  ends_under zero s room h = absurd (omega arith)
  ends_under (suc n) s room h =
      ends_by s room _ refl (λ c.
      let fell = sweep_falls s room c in
      let long = (sweep_low s room).long in
      ends_under n (sweep l (blocks lines) t lines begin s).flow.store (omega arith) (omega arith))

at_fresh : {A : Type 0} (n i : ℕ) (x : A) → get_or (replicate n x) i x ≡ x
at_fresh zero i x = refl
at_fresh (suc n) zero x = refl
at_fresh (suc n) (suc i) x = at_fresh n i x

fresh_one : {S : Type 0} {M : Meaning S} (l : Lattice M) (bs : Blocks) (n : ℕ) (x : Line) → loop_rank l bs (replicate n l.none) x ≡ loop_one x * l.rank l.none
fresh_one l bs n Plain = omega arith
fresh_one l bs n (Setting p v) = omega arith
fresh_one l bs n (Move g x y z u) = omega arith
fresh_one l bs n (While m c) = let e = ap l.rank (at_fresh n (bs.place m) l.none) in omega arith
fresh_one l bs n (If m c) = omega arith
fresh_one l bs n (EndIf m) = omega arith
fresh_one l bs n (EndWhile m) = omega arith

pub counted : {S : Type 0} {M : Meaning S} (l : Lattice M) → Counted l
counted l bs [] n = omega arith
counted l bs (x ∷ xs) n =
    let a = fresh_one l bs n x in let b = counted l bs xs n in
    ap₂ (λ (i j : ℕ). i + j) a b ∙ spread (loop_one x) (loops xs) (l.rank l.none)
  where
    spread : (i j r : ℕ) → i * r + j * r ≡ (i + j) * r
    spread i j r = grind (arith)

pub sweeps_end : {S : Type 0} {M : Meaning S} (l : Lattice M) (t : Envelope) → Lawful registers l → Ends l t
sweeps_end l t p lines begin s closed room = ends_under l p lines t begin closed (suc (loop_ranks l (blocks lines) s lines)) s room (omega arith)

module _ {S : Type 0} {M : Meaning S} (l : Lattice M) (bs : Blocks) (t : Envelope) (lines : List Line) (begin : S) where
  from_done : {s : List S} {v : Sweep S} → (sweep l bs t lines begin s).flow.changed ≡ false → Settles l bs t lines begin s v → sweep l bs t lines begin s ≡ v
  from_done h (done k) = refl
  from_done h (again k r) = absurd (true≢false (sym k ∙ h))

  settles_one : {s : List S} {w v : Sweep S} → Settles l bs t lines begin s w → Settles l bs t lines begin s v → w ≡ v
  settles_one (done h) b = from_done h b
  settles_one (again h a) (done k) = absurd (true≢false (sym h ∙ k))
  settles_one (again h a) (again k b) = settles_one a b

pub one_answer : {S : Type 0} {M : Meaning S} (l : Lattice M) (t : Envelope) → OneAnswer l t
one_answer l t bs lines begin s w v a b = settles_one l bs t lines begin a b
