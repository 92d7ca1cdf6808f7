-- What a line does to the store in a sweep that stays unchanged.
use Rattle.std.proofs.Common.{◌≡◌, ℕ, Bool, true, false, cond, List, length, get_or, set, sym, refl, ap, ◌∙◌, length-set, get_or-set_other}
use Rattle.model.specs.declared.line.Line.{Line}
use Rattle.model.specs.declared.line.Line.TheVariants.{Plain, Setting, Move, While, If, EndIf, EndWhile}
use Rattle.domain.specs.Lattice.{Lattice, Meaning}
use Rattle.sweep.specs.Blocks.{Blocks}
use Rattle.sweep.specs.Sweeps.{Flow, came, flow_step}

-- the state that stands at a place of the store
abbrev pub stored : {S : Type 0} {M : Meaning S} → Lattice M → Flow S → ℕ → S
stored l f b = get_or f.store b l.none

-- coming to a loop's state left `changed` false
pub record Quiet {S : Type 0} {M : Meaning S} (l : Lattice M) (b : ℕ) (f g : Flow S) : Type 0 where
  pub before : f.changed ≡ false
  pub inside : l.within f.current (stored l f b) ≡ true
  pub same : g.store ≡ f.store
  pub now : g.current ≡ stored l f b

-- a line that stores a state of its own at a place
abbrev pub Writes : Blocks → ℕ → Line → Type 0
Writes bs b Plain = ⊥
Writes bs b (Setting p v) = ⊥
Writes bs b (Move g x y z u) = ⊥
Writes bs b (While m c) = ⊥
Writes bs b (If m c) = bs.place m ≡ b
Writes bs b (EndIf m) = ⊥
Writes bs b (EndWhile m) = ⊥

module _ {S : Type 0} {M : Meaning S} (l : Lattice M) where
  came_quiet_by : (b : ℕ) (f : Flow S) (t : Bool) → l.within f.current (stored l f b) ≡ t → (g : Flow S) →
      g ≡ cond t
      (record { store = f.store; current = stored l f b; changed = f.changed })
      (record { store = set f.store b (l.widen (stored l f b) f.current); current = l.widen (stored l f b) f.current; changed = true }) →
      g.changed ≡ false → Quiet l b f g
  came_quiet_by b f true y g e h = record { before = cc; inside = y; same = ap (λ (x : Flow S). x.store) e; now = ap (λ (x : Flow S). x.current) e }
  came_quiet_by b f false y g e h =
      let q : true ≡ false = sym (ap (λ (x : Flow S). x.changed) e) ∙ h in
      record { before = cc; inside = cc; same = cc; now = cc }

  pub came_quiet : (b : ℕ) (f : Flow S) → (came l b f).changed ≡ false → Quiet l b f (came l b f)
  came_quiet b f h = came_quiet_by b f _ refl (came l b f) refl h

  came_length_by : (b : ℕ) (f : Flow S) (t : Bool) →
      length (cond {A = Flow S} t
      (record { store = f.store; current = stored l f b; changed = f.changed })
      (record { store = set f.store b (l.widen (stored l f b) f.current); current = l.widen (stored l f b) f.current; changed = true })).store ≡ length f.store
  came_length_by b f true = refl
  came_length_by b f false = length-set f.store b _

  module _ (bs : Blocks) where
    pub before_quiet : (f : Flow S) (x : Line) → (flow_step l bs f x).changed ≡ false → f.changed ≡ false
    before_quiet f Plain h = h
    before_quiet f (Setting p v) h = h
    before_quiet f (Move g x y z u) h = h
    before_quiet f (While m c) h = (came_quiet (bs.place m) f h).before
    before_quiet f (If m c) h = h
    before_quiet f (EndIf m) h = h
    before_quiet f (EndWhile m) h = (came_quiet (bs.place m) f h).before

    -- a place that the line does not write keeps its state
    pub steady : (f : Flow S) (x : Line) (b : ℕ) → (flow_step l bs f x).changed ≡ false → (Writes bs b x → ⊥) → stored l (flow_step l bs f x) b ≡ stored l f b
    steady f Plain b h n = refl
    steady f (Setting p v) b h n = refl
    steady f (Move g x y z u) b h n = refl
    steady f (While m c) b h n = ap (λ (z : List S). get_or z b l.none) (came_quiet (bs.place m) f h).same
    steady f (If m c) b h n = get_or-set_other f.store (bs.place m) b _ l.none (λ q. n (sym q))
    steady f (EndIf m) b h n = refl
    steady f (EndWhile m) b h n = ap (λ (z : List S). get_or z b l.none) (came_quiet (bs.place m) f h).same

    pub as_long : (f : Flow S) (x : Line) → length (flow_step l bs f x).store ≡ length f.store
    as_long f Plain = refl
    as_long f (Setting p v) = refl
    as_long f (Move g x y z u) = refl
    as_long f (While m c) = came_length_by (bs.place m) f _
    as_long f (If m c) = length-set f.store (bs.place m) _
    as_long f (EndIf m) = refl
    as_long f (EndWhile m) = came_length_by (bs.place m) f _
