-- One sweep over a program, what repeated sweeps come to, and the verdict. A sweep goes through the lines once with a state
-- of the domain; once it is unchanged, that state means every environment that a run can have at the line.
--
-- working store: one state for each block, by its number; for a loop the state at its WHILE, for a branch the state that skips it
-- unchanged: no loop's state had to grow, so the sweep judges
use Rattle.std.specs.Prelude.{◌≡◌, ℕ, suc, Bool, true, false, cond, ◌&&◌, List, [], ◌∷◌, get_or, replicate, Some, None, fold, Option, int_lt, slice_index_or, slice_set}
use Rattle.std.specs.Int.{int_min, int_max}
use Rattle.model.specs.declared.expression.Condition.{Condition}
use Rattle.model.specs.declared.expression.Value.{Value}
use Rattle.model.specs.declared.range.Range.{Range}
use Rattle.model.specs.declared.ending.Cause.{Cause}
use Rattle.model.specs.declared.ending.Cause.TheVariants.{Arithmetic, Travel}
use Rattle.model.specs.declared.ending.Failure.{Failure}
use Rattle.model.specs.declared.line.Line.{Line}
use Rattle.model.specs.declared.line.Line.TheVariants.{Plain, Setting, Move, While, If, EndIf, EndWhile}
use Rattle.model.specs.Envelopes.{Envelope}
use Rattle.model.specs.Environments.{full, axes}
use Rattle.model.specs.Values.{register, expression_of, values, four, Values}
use Rattle.model.specs.Opposites.{opposite}
use Rattle.model.specs.Sides.{lowest}
use Rattle.domain.specs.Lattice.{Lattice, Meaning}
use Rattle.sweep.specs.Blocks.{Blocks}

-- what goes from line to line: the working store, the current state, whether a loop's state grew
pub record Flow (S : Type 0) : Type 0 where
  pub store : List S
  pub current : S
  pub changed : Bool

-- with the number of the line, from 1, the lowest failing line, and for each axis the hull of its ranges after the moves, if any had a value
pub record Sweep (S : Type 0) : Type 0 where
  pub flow : Flow S
  pub line : ℕ
  pub failing : Option Failure
  pub hulls : List (Option Range)

abbrev pub hull : Range → Range → Range
hull x y = record { lo = int_min x.lo y.lo; hi = int_max x.hi y.hi }

-- the hull so far with one more range
abbrev pub hull_of : Option Range → Range → Option Range
hull_of None y = Some y
hull_of (Some x) y = Some (hull x y)

-- an empty range is left out
abbrev pub hull_with : Option Range → Range → Option Range
hull_with h y = cond (int_lt y.hi y.lo) h (hull_of h y)

-- a certificate with the hulls, or the lowest failing line
pub data Verdict : Type 0 where
  certified : List (Option Range) → Verdict
  uncertified : Failure → Verdict

abbrev pub verdict_of : Option Failure → List (Option Range) → Verdict
verdict_of None hs = certified hs
verdict_of (Some f) hs = uncertified f

abbrev pub verdict : {S : Type 0} → Sweep S → Verdict
verdict w = verdict_of w.failing w.hulls

-- the first failure stays
abbrev pub first : Option Failure → Option Failure → Option Failure
first None f = f
first (Some f) g = Some f

-- a cause, at the line n
abbrev pub failure : ℕ → Option Cause → Option Failure
failure n None = None
failure n (Some c) = Some (record { line = n; cause = c })

-- a side that is not shown is the cause
abbrev pub broken : Option ℕ → Option Cause
broken None = None
broken (Some k) = Some (Travel k)

module _ {S : Type 0} {M : Meaning S} (l : Lattice M) where
  abbrev pub set_one : ℕ → Option Value → S → S
  set_one r None s = s
  set_one r (Some v) s = l.set s r (expression_of v)

  -- the registers from r on are set to those of the values that are there
  abbrev pub set_all : ℕ → Values → S → S
  set_all r [] s = s
  set_all r (v ∷ vs) s = set_all (suc r) vs (set_one r v s)

  abbrev pub sure_one : S → Option Value → Bool
  sure_one s None = true
  sure_one s (Some v) = l.sure s (expression_of v)

  -- no value of them may fault
  abbrev pub all_sure : S → Values → Bool
  all_sure s [] = true
  all_sure s (v ∷ vs) = sure_one s v && all_sure s vs

  -- the hulls from the axis r on, with the ranges of a state
  abbrev pub hulls_with : ℕ → S → List (Option Range) → List (Option Range)
  hulls_with r s [] = []
  hulls_with r s (h ∷ hs) = hull_with h (l.range s r full) ∷ hulls_with (suc r) s hs

  -- the current state comes to a loop's state, and goes on as that
  abbrev pub came : ℕ → Flow S → Flow S
  came b f =
      let old = get_or f.store b l.none in
      cond (l.within f.current old)
      (record { store = f.store; current = old; changed = f.changed })
      (record { store = slice_set f.store b (l.widen old f.current); current = l.widen old f.current; changed = true })

  -- only what meets the condition goes on
  abbrev pub keeping : Condition → Flow S → Flow S
  keeping c f = record { store = f.store; current = l.keep f.current c; changed = f.changed }

  -- a branch stores the state that skips it, and joins it at its end
  abbrev pub flow_step : Blocks → Flow S → Line → Flow S
  flow_step bs f Plain = f
  flow_step bs f (Setting p v) = record { store = f.store; current = l.set f.current (register p) (expression_of v); changed = f.changed }
  flow_step bs f (Move g x y z u) = record { store = f.store; current = set_all 0 (four x y z u) f.current; changed = f.changed }
  flow_step bs f (While b c) = keeping c (came (bs.place b) f)
  flow_step bs f (EndWhile b) = keeping (opposite (bs.condition b)) (came (bs.place b) f)
  flow_step bs f (If b c) = record { store = slice_set f.store (bs.place b) (l.keep f.current (opposite c)); current = l.keep f.current c; changed = f.changed }
  flow_step bs f (EndIf b) = record { store = f.store; current = l.join (slice_index_or f.store (bs.place b) l.none) f.current; changed = f.changed }

  -- a move leaves the travel where a side is not shown of the state after it
  abbrev pub leaves : Envelope → S → Line → Option Cause
  leaves t after Plain = None
  leaves t after (Setting p v) = None
  leaves t after (Move g x y z u) = broken (lowest (l.shows after) 0 t.sides)
  leaves t after (While b c) = None
  leaves t after (EndWhile b) = None
  leaves t after (If b c) = None
  leaves t after (EndIf b) = None

  -- arithmetic is judged before travel
  abbrev pub cause : Envelope → S → S → Line → Option Cause
  cause t before after x = cond (all_sure before (values x)) (leaves t after x) (Some Arithmetic)

  -- only moves add to the hulls
  abbrev pub hulls_step : S → List (Option Range) → Line → List (Option Range)
  hulls_step after hs Plain = hs
  hulls_step after hs (Setting p v) = hs
  hulls_step after hs (Move g x y z u) = hulls_with 0 after hs
  hulls_step after hs (While b c) = hs
  hulls_step after hs (EndWhile b) = hs
  hulls_step after hs (If b c) = hs
  hulls_step after hs (EndIf b) = hs

  -- one line: its values are judged at the state before it, sides and hulls at the state after it
  abbrev pub line_step : Blocks → Envelope → Sweep S → Line → Sweep S
  line_step bs t w x =
      let after = flow_step bs w.flow x in
      record {
        flow = after;
        line = suc w.line;
        failing = first w.failing (failure w.line (cause t w.flow.current after.current x));
        hulls = hulls_step after.current w.hulls x;
      }

  -- the sweep before the first line
  abbrev pub fresh : S → List S → Sweep S
  fresh begin store = record { flow = record { store = store; current = begin; changed = false }; line = 1; failing = None; hulls = replicate axes None }

  -- from a state and a working store through all lines
  unfoldable pub sweep : Blocks → Envelope → List Line → S → List S → Sweep S
  sweep bs t lines begin store = fold (line_step bs t) (fresh begin store) lines

  -- sweeps repeat until one is unchanged, and that one judges
  pub data Settles (bs : Blocks) (t : Envelope) (lines : List Line) (begin : S) : List S → Sweep S → Type 0 where
    done : {store : List S} → (sweep bs t lines begin store).flow.changed ≡ false → Settles bs t lines begin store (sweep bs t lines begin store)
    again : {store : List S} {w : Sweep S} → (sweep bs t lines begin store).flow.changed ≡ true →
        Settles bs t lines begin (sweep bs t lines begin store).flow.store w → Settles bs t lines begin store w

  -- how many sweeps changed a loop before the one that judges
  abbrev pub changes : {bs : Blocks} {t : Envelope} {lines : List Line} {begin : S} {store : List S} {w : Sweep S} → Settles bs t lines begin store w → ℕ
  changes (done h) = 0
  changes (again h d) = suc (changes d)
