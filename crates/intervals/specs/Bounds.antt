-- How large a·v + b·w can become for v and w of two intervals: each part is largest at an end.
use Rattle.std.specs.Prelude.{Bool, ℤ, pos, ◌+ℤ◌, neg_ℤ, int_le}
use Rattle.model.specs.declared.side.Sign.{Sign}
use Rattle.model.specs.declared.side.Sign.TheVariants.{Plus as plus, Minus as minus}
use Rattle.model.specs.declared.side.Factor.{Factor}
use Rattle.model.specs.declared.side.Factor.TheVariants.{Plus, Zero, Minus}
use Rattle.intervals.specs.declared.interval.Interval.{Interval}

-- the largest a·v
abbrev pub most_signed : Sign → Interval → ℤ
most_signed plus x = x.hi
most_signed minus x = neg_ℤ x.lo

-- the largest b·w
abbrev pub most_scaled : Factor → Interval → ℤ
most_scaled Plus y = y.hi
most_scaled Zero y = pos 0
most_scaled Minus y = neg_ℤ y.lo

-- no a·v + b·w exceeds c
abbrev pub bounds : Sign → Interval → Factor → Interval → ℤ → Bool
bounds a x b y c = int_le (most_signed a x +ℤ most_scaled b y) c
