-- Nothing comes of none, over any number n of registers.
use Rattle.std.specs.Prelude.{◌≡◌, ℕ, true, refl}
use Rattle.std.specs.declared.option.Option.TheVariants as opt
use Rattle.std.proofs.Common.{arith}
use Rattle.model.specs.declared.expression.Operand.{Operand}
use Rattle.model.specs.declared.expression.Expression.TheVariants.{Bare}
use Rattle.domain.specs.Nothing.{Strict}
use Rattle.number_sets.specs.Sets.{NumberSets}
use Rattle.pointwise.specs.declared.state.Pointwise.{Pointwise}
use Rattle.pointwise.specs.States.{State, join, widen, within, sure, pointwise}

module _ {V : Type 0} (a : NumberSets V) (n : ℕ) where
  join_right : (s : State V) → join a n s opt.None ≡ s
  join_right opt.None = refl
  join_right (opt.Some xs) = refl

  widen_right : (s : State V) → widen a n s opt.None ≡ s
  widen_right opt.None = refl
  widen_right (opt.Some xs) = refl

  within_only : (s : State V) → within a n s opt.None ≡ true → s ≡ opt.None
  within_only opt.None h = refl
  within_only (opt.Some xs) h = let z : ◌≡◌ {A = ℕ} 0 1 = cc in absurd (omega arith)

  sure_bare : (s : State V) (x : Operand) → sure a n s (Bare x) ≡ true
  sure_bare opt.None x = refl
  sure_bare (opt.Some xs) x = refl

  same : {s t : State V} → s ≡ t → ◌≡◌ {A = Pointwise V} (record { sets = s }) (record { sets = t })
  same p i = record { sets = p i }

  pub state_strict : Strict n (pointwise a n)
  state_strict = record {
    narrow_none = λ r x i. refl;
    keep_none = λ c. refl;
    set_none = λ r x i. refl;
    join_left = λ s. refl;
    join_right = λ s. same (join_right s.sets);
    widen_left = λ s. refl;
    widen_right = λ s. same (widen_right s.sets);
    within_all = λ s. refl;
    within_only = λ s h. same (within_only s.sets h);
    sure_none = λ x. refl;
    shows_none = λ d. refl;
    range_none = λ r x i. refl;
    sure_bare = λ s. sure_bare s.sets;
  }
