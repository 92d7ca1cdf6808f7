-- A state follows an environment if each register's set is its single number.
use Rattle.std.specs.Prelude.{◌≡◌, ℕ, ◌<◌, Option}
use Rattle.std.specs.declared.option.Option.TheVariants as opt
use Rattle.model.specs.Environments.{Env, at}
use Rattle.pointwise.specs.declared.state.Pointwise.{Pointwise}
use Rattle.number_sets.specs.Sets.{NumberSets}
use Rattle.pointwise.specs.States.{State, of}

abbrev pub follows : {V : Type 0} → NumberSets V → ℕ → State V → Option Env → Type 0
follows a n opt.None opt.None = Unit {0}
follows a n (opt.Some xs) opt.None = ⊥
follows a n opt.None (opt.Some e) = ⊥
follows a n (opt.Some xs) (opt.Some e) = (r : ℕ) → r < n → of a xs r ≡ a.single (at e r)

abbrev pub tracks : {V : Type 0} → NumberSets V → ℕ → Pointwise V → Option Env → Type 0
tracks a n s o = follows a n s.sets o
