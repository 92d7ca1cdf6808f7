-- Range lines: `?` and a digit, and two numbers of at most 8 digits, each after one blank. First the grammar, then the reading.
use Rattle.std.specs.Prelude.{ℕ, ◌+◌, ◌-◌, ◌≤◌, cond, ◌&&◌, List, [], ◌∷◌, ◌++◌, take, drop, ℤ, Some, None, Option, ◌==◌}
use Rattle.console.specs.declared.range_line.RangeLine.{RangeLine}
use Rattle.words.specs.Numbers.{is_digit, NumberIs, number_of}
use Rattle.words.specs.Cuts.{until}

-- ---- the grammar
pub data RangeIs : List ℕ → RangeLine → Type 0 where
  range : (d : ℕ) (xs ys : List ℕ) (lo hi : ℤ) → 48 ≤ d → d ≤ 57 → NumberIs xs lo → NumberIs ys hi → RangeIs (63 ∷ d ∷ 32 ∷ (xs ++ (32 ∷ ys))) (record { parameter = d - 48; range = record { lo = lo; hi = hi } })

-- ---- the reading
abbrev pub with_both : ℕ → Option ℤ → Option ℤ → Option RangeLine
with_both n None hi = None
with_both n (Some lo) None = None
with_both n (Some lo) (Some hi) = Some (record { parameter = n; range = record { lo = lo; hi = hi } })

-- two numbers with a blank between them
abbrev pub pair_of : ℕ → List ℕ → Option RangeLine
pair_of n bs = with_both n (number_of (take (until 32 bs) bs)) (number_of (drop (until 32 bs + 1) bs))

abbrev pub range_of : List ℕ → Option RangeLine
range_of [] = None
range_of (q ∷ []) = None
range_of (q ∷ d ∷ []) = None
range_of (q ∷ d ∷ s ∷ bs) = cond (q == 63 && (is_digit d && s == 32)) (pair_of (d - 48) bs) None
