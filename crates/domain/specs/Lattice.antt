-- An abstract domain as the code above knows it: which environments a state means, and built on that its rank, its operations,
-- and the laws that tie them together. Everything above is proved from these laws alone.
use Rattle.std.specs.Prelude.{◌≡◌, ℕ, ◌<◌, ◌≤◌, Bool, true, false, ◌⊎◌, set, ℤ, pos, ◌≤ℤ◌}
use Rattle.model.specs.declared.range.Range.{Range}
use Rattle.model.specs.declared.side.Side.{Side}
use Rattle.model.specs.declared.expression.Condition.{Condition}
use Rattle.model.specs.declared.expression.Expression.{Expression}
use Rattle.model.specs.Environments.{Env, LegalOf, Lies, at, position}
use Rattle.model.specs.Sides.{Holds, Proper}
use Rattle.model.specs.Values.{evaluate, faultless, holds}
use Rattle.model.specs.Written.{ExpressionOf, WrittenCondition}

-- which environments a state means
abbrev pub Meaning : Type 0 → Type 1
Meaning S = S → Env → Type 0

-- the rank of each state, and the operations, over states that have a meaning
pub record Lattice {S : Type 0} (M : Meaning S) : Type 0 where
  pub rank : S → ℕ
  pub any : S
  pub none : S
  pub narrow : S → ℕ → Range → S
  pub keep : S → Condition → S
  pub set : S → ℕ → Expression → S
  pub join : S → S → S
  pub widen : S → S → S
  pub within : S → S → Bool
  pub sure : S → Expression → Bool
  pub shows : S → Side → Bool
  pub range : S → ℕ → Range → Range

-- the range of no number
abbrev pub empty : Range
empty = record { lo = pos 1; hi = pos 0 }

-- n..n
abbrev pub single : ℤ → Range
single n = record { lo = n; hi = n }

-- a range that is not empty lies inside another
pub record Inside (x y : Range) : Type 0 where
  pub low : y.lo ≤ℤ x.lo
  pub ordered : x.lo ≤ℤ x.hi
  pub high : x.hi ≤ℤ y.hi

-- The laws over n registers. Environments are legal ones, registers exist, and numbers are as programs write them.
pub record Lawful (n : ℕ) {S : Type 0} {M : Meaning S} (l : Lattice M) : Type 0 where
  -- any means every environment, none no environment
  pub any_all : (e : Env) → LegalOf n e → M l.any e
  pub none_empty : (e : Env) → LegalOf n e → M l.none e → ⊥
  -- narrow keeps each environment whose register lies in the range, keep each that meets the condition
  pub narrow_holds : (s : S) (r : ℕ) (x : Range) (e : Env) → r < n → LegalOf n e → M s e → Lies (at e r) x → M (l.narrow s r x) e
  pub keep_holds : (s : S) (c : Condition) (e : Env) → WrittenCondition c → LegalOf n e → M s e → holds e c ≡ true → M (l.keep s c) e
  -- set holds each environment where the expression does not fault, with its value in the register
  pub set_holds : (s : S) (r : ℕ) (x : Expression) (e : Env) → r < n → ExpressionOf n x → LegalOf n e → M s e → faultless e x ≡ true → M (l.set s r x) (set e r (evaluate e x))
  -- join and widen hold every environment of both
  pub join_left : (s t : S) (e : Env) → LegalOf n e → M s e → M (l.join s t) e
  pub join_right : (s t : S) (e : Env) → LegalOf n e → M t e → M (l.join s t) e
  pub widen_left : (s t : S) (e : Env) → LegalOf n e → M s e → M (l.widen s t) e
  pub widen_right : (s t : S) (e : Env) → LegalOf n e → M t e → M (l.widen s t) e
  -- within, sure and shows say yes only if it is so
  pub within_holds : (s t : S) (e : Env) → LegalOf n e → l.within s t ≡ true → M s e → M t e
  pub sure_holds : (s : S) (x : Expression) (e : Env) → ExpressionOf n x → LegalOf n e → l.sure s x ≡ true → M s e → faultless e x ≡ true
  pub shows_holds : (s : S) (d : Side) (e : Env) → Proper d → LegalOf n e → l.shows s d ≡ true → M s e → Holds (position e) d
  -- range answers a part of the given range or the empty one, and leaves out no value of the register
  pub range_inside : (s : S) (r : ℕ) (x : Range) → r < n → Inside (l.range s r x) x ⊎ (l.range s r x ≡ empty)
  pub range_holds : (s : S) (r : ℕ) (x : Range) (e : Env) → r < n → LegalOf n e → M s e → Lies (at e r) x → Lies (at e r) (l.range s r x)
  -- widen never ranks above the old state, and below it where the new one is not within it
  pub widen_le : (s t : S) → l.rank (l.widen s t) ≤ l.rank s
  pub widen_lt : (s t : S) → l.within t s ≡ false → l.rank (l.widen s t) < l.rank s
