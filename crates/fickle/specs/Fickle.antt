-- A state means every environment or none; that is all it tells.
use Rattle.std.specs.Prelude.{ℕ, Bool, true, false, cond, int_le}
use Rattle.model.specs.declared.range.Range.{Range}
use Rattle.model.specs.Environments.{Env}
use Rattle.domain.specs.Lattice.{Lattice, empty}
use Rattle.fickle.specs.declared.fickle.Fickle.{Fickle}
use Rattle.fickle.specs.declared.fickle.Fickle.TheVariants.{None, Fresh, Stale}

abbrev pub means : Fickle → Env → Type 0
means None e = ⊥
means Fresh e = Unit {0}
means Stale e = Unit {0}

abbrev pub rank : Fickle → ℕ
rank None = 2
rank Fresh = 1
rank Stale = 0

-- to and fro
abbrev pub turned : Fickle → Fickle
turned None = None
turned Fresh = Stale
turned Stale = Fresh

abbrev pub freshened : Fickle → Fickle
freshened None = None
freshened Fresh = Fresh
freshened Stale = Fresh

-- even none joined with another state is stale
abbrev pub join : Fickle → Fickle → Fickle
join None None = None
join None Fresh = Stale
join None Stale = Stale
join Fresh t = Stale
join Stale t = Stale

abbrev pub widen : Fickle → Fickle → Fickle
widen None t = t
widen Fresh None = Fresh
widen Fresh Fresh = Fresh
widen Fresh Stale = Stale
widen Stale t = Stale

-- stale is not within fresh, though both mean the same
abbrev pub within : Fickle → Fickle → Bool
within None t = true
within Fresh None = false
within Fresh Fresh = true
within Fresh Stale = true
within Stale None = false
within Stale Fresh = false
within Stale Stale = true

-- the whole range, unless it is empty
abbrev pub whole_or_empty : Range → Range
whole_or_empty x = cond (int_le x.lo x.hi) x empty

abbrev pub fickle : Lattice means
fickle = record {
  rank = rank;
  any = Fresh;
  none = None;
  narrow = λ s r x. turned s;
  keep = λ s c. s;
  set = λ s r x. freshened s;
  join = join;
  widen = widen;
  within = within;
  sure = λ s x. false;
  shows = λ s d. false;
  range = λ s r x. whole_or_empty x;
}
