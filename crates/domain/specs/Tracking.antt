-- What it is for the states of a domain to follow a single environment exactly, or none.
use Rattle.std.specs.Prelude.{◌≡◌, ℕ, suc, ◌<◌, true, false, Some, None, Option, slice_set}
use Rattle.model.specs.declared.range.Range.{Range}
use Rattle.model.specs.declared.side.Side.{Side}
use Rattle.model.specs.declared.expression.Condition.{Condition}
use Rattle.model.specs.declared.expression.Expression.{Expression}
use Rattle.model.specs.Environments.{Env, LegalOf, Lies, at, position}
use Rattle.model.specs.Sides.{Proper, kept}
use Rattle.model.specs.Values.{evaluate, faultless, holds}
use Rattle.model.specs.Written.{ExpressionOf, WrittenCondition}
use Rattle.domain.specs.Lattice.{Lattice, Meaning, empty, single}

-- states that come from any by narrowings that keep e, in which each register below k was in its turn narrowed to its own value
pub data Sharpens (n : ℕ) {S : Type 0} {M : Meaning S} (l : Lattice M) (e : Env) : ℕ → S → Type 0 where
  begin : Sharpens n l e 0 l.any
  cut : {k : ℕ} {s : S} → (r : ℕ) (x : Range) → r < n → Lies (at e r) x → Sharpens n l e k s → Sharpens n l e k (l.narrow s r x)
  pin : {k : ℕ} {s : S} → k < n → Sharpens n l e k s → Sharpens n l e (suc k) (l.narrow s k (single (at e k)))

-- the states of a run whose one environment is e, and those that are left without one (None): from the narrowed ones on, by the operations
-- that a run without loops asks for
pub data Led (n : ℕ) {S : Type 0} {M : Meaning S} (l : Lattice M) : S → Option Env → Type 0 where
  start : {s : S} (e : Env) → LegalOf n e → Sharpens n l e n s → Led n l s (Some e)
  narrow_value : {s : S} (r : ℕ) (x : Range) (e : Env) → r < n → LegalOf n e → Led n l s (Some e) → Lies (at e r) x → Led n l (l.narrow s r x) (Some e)
  narrow_none : {s : S} (r : ℕ) (x : Range) → r < n → Led n l s None → Led n l (l.narrow s r x) None
  set_value : {s : S} (r : ℕ) (x : Expression) (e : Env) → r < n → ExpressionOf n x → LegalOf n e → Led n l s (Some e) → faultless e x ≡ true → Led n l (l.set s r x) (Some (slice_set e r (evaluate e x)))
  set_none : {s : S} (r : ℕ) (x : Expression) → r < n → Led n l s None → Led n l (l.set s r x) None
  -- a condition that fails leaves no environment
  keep_holds : {s : S} (c : Condition) (e : Env) → WrittenCondition c → LegalOf n e → Led n l s (Some e) → holds e c ≡ true → Led n l (l.keep s c) (Some e)
  keep_fails : {s : S} (c : Condition) (e : Env) → WrittenCondition c → LegalOf n e → Led n l s (Some e) → holds e c ≡ false → Led n l (l.keep s c) None
  keep_none : {s : S} (c : Condition) → Led n l s None → Led n l (l.keep s c) None
  -- a join goes on with the side that has an environment
  join_left : {s t : S} (e : Env) → LegalOf n e → Led n l s (Some e) → Led n l t None → Led n l (l.join s t) (Some e)
  join_right : {s t : S} (e : Env) → LegalOf n e → Led n l s None → Led n l t (Some e) → Led n l (l.join s t) (Some e)
  join_none : {s t : S} → Led n l s None → Led n l t None → Led n l (l.join s t) None

-- a domain loses nothing on single values: on those states sure and shows say what is so of the one environment, and range gives its one value
pub record LosesNothing (n : ℕ) {S : Type 0} {M : Meaning S} (l : Lattice M) : Type 0 where
  pub sure_value : (s : S) (x : Expression) (e : Env) → ExpressionOf n x → LegalOf n e → Led n l s (Some e) → l.sure s x ≡ faultless e x
  pub sure_none : (s : S) (x : Expression) → Led n l s None → l.sure s x ≡ true
  pub shows_value : (s : S) (d : Side) (e : Env) → Proper d → LegalOf n e → Led n l s (Some e) → l.shows s d ≡ kept (position e) d
  pub shows_none : (s : S) (d : Side) → Led n l s None → l.shows s d ≡ true
  pub range_value : (s : S) (r : ℕ) (x : Range) (e : Env) → r < n → LegalOf n e → Led n l s (Some e) → Lies (at e r) x → l.range s r x ≡ single (at e r)
  pub range_none : (s : S) (r : ℕ) (x : Range) → r < n → Led n l s None → l.range s r x ≡ empty

-- how that is shown: by a relation that the operations keep.
-- `tracks s (Some e)`: the state follows e and nothing else; `tracks s None`: no environment is left to follow
pub record Tracking (n : ℕ) {S : Type 0} {M : Meaning S} (l : Lattice M) (tracks : S → Option Env → Type 0) : Type 0 where
  -- once each register is narrowed to its own value, the state follows the environment
  pub start : (s : S) (e : Env) → LegalOf n e → Sharpens n l e n s → tracks s (Some e)
  pub narrow_value : (s : S) (r : ℕ) (x : Range) (e : Env) → r < n → LegalOf n e → tracks s (Some e) → Lies (at e r) x → tracks (l.narrow s r x) (Some e)
  pub narrow_none : (s : S) (r : ℕ) (x : Range) → r < n → tracks s None → tracks (l.narrow s r x) None
  pub set_value : (s : S) (r : ℕ) (x : Expression) (e : Env) → r < n → ExpressionOf n x → LegalOf n e → tracks s (Some e) → faultless e x ≡ true → tracks (l.set s r x) (Some (slice_set e r (evaluate e x)))
  pub set_none : (s : S) (r : ℕ) (x : Expression) → r < n → tracks s None → tracks (l.set s r x) None
  -- a condition that fails leaves no environment
  pub keep_holds : (s : S) (c : Condition) (e : Env) → WrittenCondition c → LegalOf n e → tracks s (Some e) → holds e c ≡ true → tracks (l.keep s c) (Some e)
  pub keep_fails : (s : S) (c : Condition) (e : Env) → WrittenCondition c → LegalOf n e → tracks s (Some e) → holds e c ≡ false → tracks (l.keep s c) None
  pub keep_none : (s : S) (c : Condition) → tracks s None → tracks (l.keep s c) None
  -- a join follows the side that has an environment
  pub join_left : (s t : S) (e : Env) → LegalOf n e → tracks s (Some e) → tracks t None → tracks (l.join s t) (Some e)
  pub join_right : (s t : S) (e : Env) → LegalOf n e → tracks s None → tracks t (Some e) → tracks (l.join s t) (Some e)
  pub join_none : (s t : S) → tracks s None → tracks t None → tracks (l.join s t) None
  -- sure and shows say what is so, range gives the one value
  pub sure_value : (s : S) (x : Expression) (e : Env) → ExpressionOf n x → LegalOf n e → tracks s (Some e) → l.sure s x ≡ faultless e x
  pub sure_none : (s : S) (x : Expression) → tracks s None → l.sure s x ≡ true
  pub shows_value : (s : S) (d : Side) (e : Env) → Proper d → LegalOf n e → tracks s (Some e) → l.shows s d ≡ kept (position e) d
  pub shows_none : (s : S) (d : Side) → tracks s None → l.shows s d ≡ true
  pub range_value : (s : S) (r : ℕ) (x : Range) (e : Env) → r < n → LegalOf n e → tracks s (Some e) → Lies (at e r) x → l.range s r x ≡ single (at e r)
  pub range_none : (s : S) (r : ℕ) (x : Range) → r < n → tracks s None → l.range s r x ≡ empty
