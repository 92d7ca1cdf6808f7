-- What a domain does with none, if it is strict: nothing comes of nothing, and nothing is asked of it.
use Rattle.std.specs.Prelude.{◌≡◌, ℕ, ◌<◌, true}
use Rattle.model.specs.declared.range.Range.{Range}
use Rattle.model.specs.declared.side.Side.{Side}
use Rattle.model.specs.declared.expression.Condition.{Condition}
use Rattle.model.specs.declared.expression.Operand.{Operand}
use Rattle.model.specs.declared.expression.Expression.{Expression}
use Rattle.model.specs.declared.expression.Expression.TheVariants.{Bare}
use Rattle.domain.specs.Lattice.{Lattice, Meaning, empty}

pub record Strict (n : ℕ) {S : Type 0} {M : Meaning S} (l : Lattice M) : Type 0 where
  -- an operation on none gives none
  pub narrow_none : (r : ℕ) (x : Range) → r < n → l.narrow l.none r x ≡ l.none
  pub keep_none : (c : Condition) → l.keep l.none c ≡ l.none
  pub set_none : (r : ℕ) (x : Expression) → r < n → l.set l.none r x ≡ l.none
  -- join and widen with none give the other state
  pub join_left : (s : S) → l.join l.none s ≡ s
  pub join_right : (s : S) → l.join s l.none ≡ s
  pub widen_left : (s : S) → l.widen l.none s ≡ s
  pub widen_right : (s : S) → l.widen s l.none ≡ s
  -- none is within every state, and nothing else within none
  pub within_all : (s : S) → l.within l.none s ≡ true
  pub within_only : (s : S) → l.within s l.none ≡ true → s ≡ l.none
  -- on none sure and shows say yes, and range finds nothing
  pub sure_none : (x : Expression) → l.sure l.none x ≡ true
  pub shows_none : (d : Side) → l.shows l.none d ≡ true
  pub range_none : (r : ℕ) (x : Range) → r < n → l.range l.none r x ≡ empty
  -- a term by itself is always sure
  pub sure_bare : (s : S) (x : Operand) → l.sure s (Bare x) ≡ true
