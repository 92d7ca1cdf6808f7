-- The sweep as it stands before each line, and the store at the places of loops and branches.
use Rattle.std.proofs.Common.{◌≡◌, ℕ, zero, suc, ◌+◌, ◌-◌, ◌<◌, ◌≤◌, false, List, length, get_or, take, sym, refl, ap, ◌∙◌, add-one, arith, take_all, get_or-set_same}
use Rattle.std.proofs.lemmas.List.Sums.{fold_more}
use Rattle.model.specs.declared.expression.Condition.{Condition}
use Rattle.model.specs.Envelopes.{Envelope}
use Rattle.model.specs.declared.line.Line.{Line}
use Rattle.model.specs.declared.line.Line.TheVariants.{Plain, Setting, Move, While, If, EndIf, EndWhile}
use Rattle.model.specs.Opposites.{opposite}
use Rattle.model.specs.Programs.{Stands, Closed}
use Rattle.domain.specs.Lattice.{Lattice, Meaning}
use Rattle.sweep.specs.Blocks.{Blocks, blocks}
use Rattle.sweep.specs.Sweeps.{Flow, Sweep, flow_step, line_step, fresh, sweep}
use Rattle.sweep.specs.Sound.{Unchanged}
use Rattle.sweep.proofs.Places.{place_inner, one_opener, if_no_while}
use Rattle.sweep.proofs.Quiet.{stored, Writes, before_quiet, steady, as_long}

module _ {S : Type 0} {M : Meaning S} (l : Lattice M) (bs : Blocks) (t : Envelope) (lines : List Line) (begin : S) (s : List S) where
  -- the sweep before the line i
  abbrev pub pre : ℕ → Sweep S
  pre i = sweep l bs t (take i lines) begin s

  pub at_start : pre 0 ≡ fresh l begin s
  unfolding sweep
  at_start = refl

  pub at_end : (i : ℕ) → length lines ≤ i → pre i ≡ sweep l bs t lines begin s
  at_end i h = ap (λ (xs : List Line). sweep l bs t xs begin s) (take_all i lines h)

  pub pre_more : (i : ℕ) → i < length lines → pre (suc i) ≡ line_step l bs t (pre i) (get_or lines i Plain)
  unfolding sweep
  pre_more i h = let m = fold_more (line_step l bs t) (fresh l begin s) lines i Plain h in rw add-one at m

  pub next_is : (i : ℕ) (x : Line) → Stands lines i x → pre (suc i) ≡ line_step l bs t (pre i) x
  next_is i x st = pre_more i st.inner ∙ ap (line_step l bs t (pre i)) st.is

  long_at : (i : ℕ) → i ≤ length lines → length (pre i).flow.store ≡ length s
  long_at zero h = ap (λ (w : Sweep S). length w.flow.store) at_start
  long_at (suc i) h =
      let k : i < length lines = omega arith in
      ap (λ (w : Sweep S). length w.flow.store) (pre_more i k) ∙ (as_long l bs (pre i).flow (get_or lines i Plain) ∙ long_at i (omega arith))

  -- a sweep leaves the working store as long as it was
  pub long_after : length (sweep l bs t lines begin s).flow.store ≡ length s
  long_after = ap (λ (w : Sweep S). length w.flow.store) (sym (at_end (length lines) (omega arith))) ∙ long_at (length lines) (omega arith)

  module _ (quiet : (sweep l bs t lines begin s).flow.changed ≡ false) where
    quiet_by : (m i : ℕ) → i + m ≡ length lines → (pre i).flow.changed ≡ false
    quiet_by zero i e = ap (λ (w : Sweep S). w.flow.changed) (at_end i (omega arith)) ∙ quiet
    quiet_by (suc m) i e =
        let h : i < length lines = omega arith in
        let r = quiet_by m (suc i) (omega arith) in
        before_quiet l bs (pre i).flow (get_or lines i Plain) (ap (λ (w : Sweep S). w.flow.changed) (sym (pre_more i h)) ∙ r)

    pub quiet_line : (i : ℕ) (x : Line) → Stands lines i x → (flow_step l bs (pre i).flow x).changed ≡ false
    quiet_line i x st =
        let h = st.inner in
        ap (λ (w : Sweep S). w.flow.changed) (sym (next_is i x st)) ∙ quiet_by (length lines - suc i) (suc i) (omega arith)

    -- from the line i on, for d lines that do not write the place b
    steady_over : (b i d : ℕ) → i + d ≤ length lines → ((k : ℕ) (x : Line) → i ≤ k → Stands lines k x → Writes bs b x → ⊥) →
        stored l (pre (i + d)).flow b ≡ stored l (pre i).flow b
    steady_over b i zero h n = let q : i + 0 ≡ i = omega arith in ap (λ (k : ℕ). stored l (pre k).flow b) q
    steady_over b i (suc d) h n =
        let q : i + suc d ≡ suc (i + d) = omega arith in
        let k : i + d < length lines = omega arith in
        let st : Stands lines (i + d) (get_or lines (i + d) Plain) = record { inner = k; is = refl } in
        ap (λ (m : ℕ). stored l (pre m).flow b) q ∙
        (ap (λ (w : Sweep S). stored l w.flow b) (pre_more (i + d) k) ∙
        (steady l bs (pre (i + d)).flow (get_or lines (i + d) Plain) b (quiet_line (i + d) _ st) (n (i + d) _ (omega arith) st) ∙
        steady_over b i d (omega arith) n))

module _ {S : Type 0} {M : Meaning S} (l : Lattice M) (t : Envelope) (lines : List Line) (begin : S) (s : List S) (closed : Closed lines)
    (unchanged : Unchanged l lines t begin s) where
  abbrev here : ℕ → Flow S
  here i = (pre l (blocks lines) t lines begin s i).flow

  loop_unwritten : (i m : ℕ) (c : Condition) → Stands lines i (While m c) → (k : ℕ) (x : Line) → 0 ≤ k → Stands lines k x → Writes (blocks lines) ((blocks lines).place m) x → ⊥
  loop_unwritten i m c st k Plain z t h = h
  loop_unwritten i m c st k (Setting p v) z t h = h
  loop_unwritten i m c st k (Move g x y v u) z t h = h
  loop_unwritten i m c st k (While o d) z t h = h
  loop_unwritten i m c st k (If o d) z t h =
      let q = one_opener lines k i o m (If o d) (While m c) closed.once t st refl refl h in
      if_no_while t.is (ap (λ (j : ℕ). get_or lines j Plain) q ∙ st.is)
  loop_unwritten i m c st k (EndIf o) z t h = h
  loop_unwritten i m c st k (EndWhile o) z t h = h

  -- a loop's state is the same at every line
  pub loop_kept : (i m k : ℕ) (c : Condition) → Stands lines i (While m c) → k ≤ length lines → stored l (here k) ((blocks lines).place m) ≡ get_or s ((blocks lines).place m) l.none
  loop_kept i m k c st h =
      let q : 0 + k ≡ k = omega arith in
      ap (λ (j : ℕ). stored l (here j) ((blocks lines).place m)) (sym q) ∙
      (steady_over l (blocks lines) t lines begin s unchanged.quiet ((blocks lines).place m) 0 k (omega arith) (loop_unwritten i m c st) ∙
      ap (λ (w : Sweep S). stored l w.flow ((blocks lines).place m)) (at_start l (blocks lines) t lines begin s))

  branch_unwritten : (i m : ℕ) (c : Condition) → Stands lines i (If m c) → (k : ℕ) (x : Line) → suc i ≤ k → Stands lines k x → Writes (blocks lines) ((blocks lines).place m) x → ⊥
  branch_unwritten i m c st k Plain z t h = h
  branch_unwritten i m c st k (Setting p v) z t h = h
  branch_unwritten i m c st k (Move g x y v u) z t h = h
  branch_unwritten i m c st k (While o d) z t h = h
  branch_unwritten i m c st k (If o d) z t h =
      let q = one_opener lines k i o m (If o d) (If m c) closed.once t st refl refl h in omega arith
  branch_unwritten i m c st k (EndIf o) z t h = h
  branch_unwritten i m c st k (EndWhile o) z t h = h

  branch_first : (i m : ℕ) (c : Condition) → Stands lines i (If m c) → stored l (here (suc i)) ((blocks lines).place m) ≡ l.keep (here i).current (opposite c)
  branch_first i m c st =
      let h = st.inner in
      let room = unchanged.room in
      let long = long_at l (blocks lines) t lines begin s i (omega arith) in
      let p = place_inner lines i m (If m c) st refl in
      ap (λ (w : Sweep S). stored l w.flow ((blocks lines).place m)) (next_is l (blocks lines) t lines begin s i (If m c) st) ∙
      get_or-set_same (here i).store ((blocks lines).place m) _ l.none (omega arith)

  -- what an IF stores is there at every later line
  pub branch_kept : (i m j : ℕ) (c : Condition) → Stands lines i (If m c) → i < j → j ≤ length lines → stored l (here j) ((blocks lines).place m) ≡ l.keep (here i).current (opposite c)
  branch_kept i m j c st h k =
      let q : suc i + (j - suc i) ≡ j = omega arith in
      ap (λ (o : ℕ). stored l (here o) ((blocks lines).place m)) (sym q) ∙
      (steady_over l (blocks lines) t lines begin s unchanged.quiet ((blocks lines).place m) (suc i) (j - suc i) (omega arith) (branch_unwritten i m c st) ∙
      branch_first i m c st)
