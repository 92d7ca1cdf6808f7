-- The law of a report. The lines of an input are range lines and then the program; the first line that is refused is
-- reported, or a block that is left open, or the verdict on the program with the ranges.
use Rattle.std.specs.Prelude.{◌≡◌, ℕ, suc, ◌-◌, ◌<◌, ◌≤◌, true, false, List, [], ◌∷◌, ◌++◌, length, pos, neg_ℤ, ◌≤ℤ◌, Ok, Err, slice_set}
use Rattle.model.specs.Limits.{limit}
use Rattle.model.specs.Blocks.{closed}
use Rattle.model.specs.Environments.{parameters}
use Rattle.model.specs.declared.ending.Failure.{Failure}
use Rattle.model.specs.declared.line.Line.{Line}
use Rattle.model.specs.declared.range.Range.{Range}
use Rattle.travel.specs.Benches.{bench_gantry}
use Rattle.travel.specs.Gantries.{gantry_envelope, GantryMade}
use Rattle.travel.specs.declared.gantry.Gantry.{Gantry}
use Rattle.program.specs.Entry.{line_answer, lines_after}
use Rattle.program.specs.Limits.{max_blocks}
use Rattle.program.specs.declared.refusal.LineRefusal.{LineRefusal}
use Rattle.session.specs.Answers.{no_ranges}
use Rattle.session.specs.declared.refusal.AllowRefusal.TheVariants.{Parameter, Range as OfRange}
use Rattle.sweep.specs.Sweeps.{certified, uncertified}
use Rattle.certify.specs.Certifies.{Judged}
use Rattle.certify.specs.declared.refusal.Certificate.{Certificate}
use Rattle.console.specs.declared.range_line.RangeLine.{RangeLine}
use Rattle.console.specs.declared.refusal.Refusal.{Refusal}
use Rattle.console.specs.declared.refusal.Refusal.TheVariants.{Input, RangeText, Allow as OfAllow, Line as OfLine, Open}
use Rattle.console.specs.declared.report.Report.{Report}
use Rattle.console.specs.declared.report.Report.TheVariants.{Certified, Uncertified}
use Rattle.console.specs.Lines.{LinesAre}
use Rattle.console.specs.RangeLines.{RangeIs}
use Rattle.console.specs.Report.{refused_at}
use Rattle.console.specs.Readings.{max_input, is_range, Reading, whole, stopped_at}
use Rattle.console.specs.Verdicts.{lattice}

-- one of the six parameters
abbrev pub Known : RangeLine → Type 0
Known a = (1 ≤ a.parameter) × (a.parameter ≤ parameters)

-- a range of numbers within the greatest length
abbrev pub Ordered : RangeLine → Type 0
Ordered a = (a.range.lo ≤ℤ a.range.hi) × (neg_ℤ (pos limit) ≤ℤ a.range.lo) × (a.range.hi ≤ℤ pos limit)

-- a range line that is accepted
abbrev pub Good : List ℕ → RangeLine → Type 0
Good l a = RangeIs l a × Known a × Ordered a

-- a line that is refused as a range line, and why
pub data Bad (l : List ℕ) : Refusal → Type 0 where
  malformed : ((a : RangeLine) → RangeIs l a → ⊥) → Bad l RangeText
  unknown : (a : RangeLine) → RangeIs l a → (Known a → ⊥) → Bad l (OfAllow Parameter)
  disordered : (a : RangeLine) → RangeIs l a → Known a → (Ordered a → ⊥) → Bad l (OfAllow OfRange)

-- where the ranges ts are allowed, the range lines allow us, one after another: the last for a parameter stands
pub data Allows : List Range → List (List ℕ) → List Range → Type 0 where
  same : {ts : List Range} → Allows ts [] ts
  next : {ts us : List Range} {l : List ℕ} {ls : List (List ℕ)} (a : RangeLine) → Good l a →
      Allows (slice_set ts (a.parameter - 1) a.range) ls us → Allows ts (l ∷ ls) us

-- the first line, if there is one, does not begin with ?
abbrev pub Begun : List (List ℕ) → Type 0
Begun [] = Unit {0}
Begun (l ∷ ls) = is_range l ≡ false

-- a program that holds xs takes the lines, one after another, and holds ys then
pub data Takes : List Line → List (List ℕ) → List Line → Type 0 where
  none : {xs : List Line} → Takes xs [] xs
  one : {xs ys : List Line} {l : List ℕ} {ls : List (List ℕ)} → line_answer xs l ≡ Ok tt → Takes (lines_after xs l) ls ys →
      Takes xs (l ∷ ls) ys

-- an input that is not too long: range lines that allow ts, and behind them the lines ls
pub record BehindRanges (bs : List ℕ) (ts : List Range) (ls : List (List ℕ)) : Type 0 where
  pub short : length bs ≤ max_input
  pub ranges : List (List ℕ)
  pub lines : LinesAre bs (ranges ++ ls)
  pub allows : Allows no_ranges ranges ts

-- there the program begins, takes the lines ps, and holds xs then; the lines ls are left
pub record Taken (bs : List ℕ) (ts : List Range) (ps ls : List (List ℕ)) (xs : List Line) : Type 0 where
  pub behind : BehindRanges bs ts (ps ++ ls)
  pub begun : Begun (ps ++ ls)
  pub takes : Takes [] ps xs

-- what is read of an input: each parameter may be 0 alone until a range line allows it a range
pub data Reads (bs : List ℕ) : Reading → Type 0 where
  too_long : max_input < length bs → Reads bs (stopped_at 0 Input)
  bad_range : (ts : List Range) (l : List ℕ) (ls : List (List ℕ)) (why : Refusal) → BehindRanges bs ts (l ∷ ls) → is_range l ≡ true → Bad l why →
      Reads bs (stopped_at 0 why)
  bad_line : (ts : List Range) (ps : List (List ℕ)) (l : List ℕ) (ls : List (List ℕ)) (xs : List Line) (why : LineRefusal) → Taken bs ts ps (l ∷ ls) xs →
      line_answer xs l ≡ Err why → Reads bs (stopped_at (suc (length ps)) (OfLine why))
  left_open : (ts : List Range) (ps : List (List ℕ)) (xs : List Line) → Taken bs ts ps [] xs → closed xs ≡ false → Reads bs (stopped_at 0 Open)
  read_all : (ts : List Range) (ps : List (List ℕ)) (xs : List Line) → Taken bs ts ps [] xs → closed xs ≡ true → Reads bs (whole ts xs)

-- a refusal is reported as it is, and what is read whole is judged on the gantry of the examples, with a state lent for each block
-- that a program may have
pub data Reports (bs : List ℕ) : Report → Type 0 where
  by_refusal : (n : ℕ) (why : Refusal) → Reads bs (stopped_at n why) → Reports bs (refused_at n why)
  by_certificate : (ts : List Range) (xs : List Line) (g : Gantry) (c : Certificate) → Reads bs (whole ts xs) → GantryMade bench_gantry (Ok g) →
      Judged lattice xs (gantry_envelope g) ts max_blocks (certified c.hulls) → Reports bs (Certified c)
  by_failure : (ts : List Range) (xs : List Line) (g : Gantry) (f : Failure) → Reads bs (whole ts xs) → GantryMade bench_gantry (Ok g) →
      Judged lattice xs (gantry_envelope g) ts max_blocks (uncertified f) → Reports bs (Uncertified f)

-- r is a report on the input, and there is no other
pub record TheReport (bs : List ℕ) (r : Report) : Type 0 where
  pub is : Reports bs r
  pub only : (u : Report) → Reports bs u → u ≡ r
