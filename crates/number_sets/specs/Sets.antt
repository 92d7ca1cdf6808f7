-- Sets of numbers for one register: their operations, and the laws that a domain built of one set for each register needs.
use Rattle.std.specs.Prelude.{◌≡◌, ℕ, ◌<◌, ◌≤◌, Bool, true, false, ◌⊎◌, ℤ, ◌+ℤ◌, ◌≤ℤ◌, Some, None, Option}
use Rattle.model.specs.declared.range.Range.{Range}
use Rattle.model.specs.declared.side.Sign.{Sign}
use Rattle.model.specs.declared.side.Factor.{Factor}
use Rattle.model.specs.declared.expression.Op.{Op}
use Rattle.model.specs.declared.expression.Rel.{Rel}
use Rattle.model.specs.Environments.{Lies, full}
use Rattle.model.specs.Sides.{signed, scaled}
use Rattle.model.specs.Values.{apply, compare}
use Rattle.domain.specs.Lattice.{Inside, empty}
use Rattle.number_sets.specs.declared.sets.Pair.{Pair}

pub record NumberSets (V : Type 0) : Type 1 where
  -- n is one of the numbers
  pub has : V → ℤ → Type 0
  -- how often a set can still be widened, and the most that this can be
  pub room : V → ℕ
  pub most : ℕ
  -- every number, and a single one
  pub whole : V
  pub single : ℤ → V
  -- the results of an operation within the limit, and whether none lies beyond it
  pub apply : Op → V → V → Option V
  pub fits : Op → V → V → Bool
  -- what a condition leaves of its two sides
  pub kept : Rel → V → V → Option (Pair V)
  -- what two sets, or a set and a range, have in common
  pub meet : V → V → Option V
  pub narrow : V → Range → Option V
  pub hull : V → V → V
  pub widen : V → V → V
  pub inside : V → V → Bool
  -- a·v + b·w ≤ c for all numbers v and w of two sets
  pub bounds : Sign → V → Factor → V → ℤ → Bool
  pub range : V → Range → Range

-- n is one of the numbers that are left
abbrev pub HasSome : {V : Type 0} → NumberSets V → Option V → ℤ → Type 0
HasSome a None n = ⊥
HasSome a (Some x) n = a.has x n

abbrev pub HasPair : {V : Type 0} → NumberSets V → Option (Pair V) → ℤ → ℤ → Type 0
HasPair a None m n = ⊥
HasPair a (Some p) m n = a.has p.left m × a.has p.right n

-- The laws. Numbers are within the limit.
pub record LawfulSets {V : Type 0} (a : NumberSets V) : Type 0 where
  pub whole_has : (n : ℤ) → Lies n full → a.has a.whole n
  pub single_has : (n : ℤ) → Lies n full → a.has (a.single n) n
  -- a number of two sets, of their operands' results, of what a condition or a range leaves, is not lost
  pub apply_has : (o : Op) (x y : V) (m n : ℤ) → Lies m full → Lies n full → a.has x m → a.has y n → Lies (apply o m n) full → HasSome a (a.apply o x y) (apply o m n)
  pub kept_has : (r : Rel) (x y : V) (m n : ℤ) → Lies m full → Lies n full → a.has x m → a.has y n → compare r m n ≡ true → HasPair a (a.kept r x y) m n
  pub meet_has : (x y : V) (n : ℤ) → Lies n full → a.has x n → a.has y n → HasSome a (a.meet x y) n
  pub narrow_has : (x : V) (z : Range) (n : ℤ) → Lies n full → a.has x n → Lies n z → HasSome a (a.narrow x z) n
  pub hull_left : (x y : V) (n : ℤ) → Lies n full → a.has x n → a.has (a.hull x y) n
  pub hull_right : (x y : V) (n : ℤ) → Lies n full → a.has y n → a.has (a.hull x y) n
  pub widen_left : (x y : V) (n : ℤ) → Lies n full → a.has x n → a.has (a.widen x y) n
  pub widen_right : (x y : V) (n : ℤ) → Lies n full → a.has y n → a.has (a.widen x y) n
  -- inside, fits and bounds say yes only if it is so
  pub inside_has : (x y : V) (n : ℤ) → Lies n full → a.inside x y ≡ true → a.has x n → a.has y n
  pub fits_all : (o : Op) (x y : V) (m n : ℤ) → Lies m full → Lies n full → a.fits o x y ≡ true → a.has x m → a.has y n → Lies (apply o m n) full
  pub bounds_all : (s : Sign) (x : V) (f : Factor) (y : V) (c m n : ℤ) → Lies m full → Lies n full → a.bounds s x f y c ≡ true → a.has x m → a.has y n → (signed s m +ℤ scaled f n) ≤ℤ c
  -- range answers a part of the given range or the empty one, and leaves out no number
  pub range_inside : (x : V) (z : Range) → Inside (a.range x z) z ⊎ (a.range x z ≡ empty)
  pub range_has : (x : V) (z : Range) (n : ℤ) → Lies n full → a.has x n → Lies n z → Lies n (a.range x z)
  -- a set can be widened only so often
  pub room_most : (x : V) → a.room x ≤ a.most
  pub room_le : (x y : V) → a.room (a.widen x y) ≤ a.room x
  pub room_lt : (x y : V) → a.inside y x ≡ false → a.room (a.widen x y) < a.room x
