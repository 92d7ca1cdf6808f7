-- A state holds a set of numbers for each of n registers, or is none: what it means, and what its operations do to it.
use Rattle.std.specs.Prelude.{ℕ, ◌+◌, ◌*◌, ◌<◌, Bool, true, false, cond, List, Option, ◌==◌, slice_index_or}
use Rattle.std.specs.declared.option.Option.TheVariants as opt
use Rattle.model.specs.declared.range.Range.{Range}
use Rattle.model.specs.declared.side.Side.{Side}
use Rattle.model.specs.declared.expression.Term.{Term}
use Rattle.model.specs.declared.expression.Term.TheVariants.{Number, Parameter as Held}
use Rattle.model.specs.declared.expression.Operand.{Operand}
use Rattle.model.specs.declared.expression.Operand.TheVariants.{Number as OfNumber, Register as OfRegister}
use Rattle.model.specs.declared.expression.Expression.{Expression}
use Rattle.model.specs.declared.expression.Expression.TheVariants.{Bare, Apply}
use Rattle.model.specs.declared.expression.Condition.{Condition}
use Rattle.model.specs.Environments.{Env, at}
use Rattle.model.specs.Sides.{axis_register}
use Rattle.model.specs.Values.{register, operand}
use Rattle.domain.specs.Lattice.{Lattice, Meaning, empty}
use Rattle.number_sets.specs.declared.sets.Pair.{Pair}
use Rattle.pointwise.specs.declared.state.Pointwise.{Pointwise}
use Rattle.number_sets.specs.Sets.{NumberSets}
use Rattle.pointwise.specs.Tables.{build, every, sum_to}

-- a set for each register, or no environment at all
abbrev pub State : Type 0 → Type 0
State V = Option (List V)

module _ {V : Type 0} (a : NumberSets V) where
  -- the numbers of register r
  abbrev pub of : List V → ℕ → V
  of xs r = slice_index_or xs r a.whole

  -- the numbers that an operand may have
  abbrev pub numbers : List V → Operand → V
  numbers xs (OfNumber k) = a.single k
  numbers xs (OfRegister r) = of xs r.index

  -- those of a term
  abbrev pub term : List V → Term → V
  term xs t = numbers xs (operand t)

  -- the results of an expression within the limit
  abbrev pub value : List V → Expression → Option V
  value xs (Bare x) = opt.Some (numbers xs x)
  value xs (Apply o x y) = a.apply o (numbers xs x) (numbers xs y)

  -- no result of an expression lies beyond the limit; an operand by itself never does
  abbrev pub sure_value : List V → Expression → Bool
  sure_value xs (Bare x) = true
  sure_value xs (Apply o x y) = a.fits o (numbers xs x) (numbers xs y)

  abbrev pub bounded : List V → Side → Bool
  bounded xs d = a.bounds d.a (of xs (axis_register d.v)) d.b (of xs (axis_register d.w)) d.c

  module _ (n : ℕ) where
    -- each register's number is one of its set
    abbrev pub means : State V → Env → Type 0
    means opt.None e = ⊥
    means (opt.Some xs) e = (r : ℕ) → r < n → a.has (of xs r) (at e r)

    -- none ranks above every other state
    abbrev pub rank : State V → ℕ
    rank opt.None = a.most * n + 1
    rank (opt.Some xs) = sum_to n (λ r. a.room (of xs r))

    abbrev pub any : State V
    any = opt.Some (build n (λ r. a.whole))

    -- register r gets another set
    abbrev pub changed : List V → ℕ → V → List V
    changed xs r x = build n (λ k. cond (k == r) x (of xs k))

    -- no number for one register leaves no environment at all
    abbrev pub put : List V → ℕ → Option V → State V
    put xs r opt.None = opt.None
    put xs r (opt.Some x) = opt.Some (changed xs r x)

    abbrev pub narrow : State V → ℕ → Range → State V
    narrow opt.None r x = opt.None
    narrow (opt.Some xs) r x = put xs r (a.narrow (of xs r) x)

    abbrev pub set : State V → ℕ → Expression → State V
    set opt.None r x = opt.None
    set (opt.Some xs) r x = put xs r (value xs x)

    -- what a condition leaves goes to its two registers, and one register on both sides keeps what both leave it
    abbrev pub kept_registers : List V → ℕ → ℕ → Pair V → State V
    kept_registers xs q r p = cond (q == r) (put xs q (a.meet p.left p.right)) (opt.Some (changed (changed xs q p.left) r p.right))

    -- a number has no register
    abbrev pub kept_sides : List V → Term → Term → Option (Pair V) → State V
    kept_sides xs t u opt.None = opt.None
    kept_sides xs (Number k) (Number l) (opt.Some p) = opt.Some xs
    kept_sides xs (Held q) (Number l) (opt.Some p) = opt.Some (changed xs (register q) p.left)
    kept_sides xs (Number k) (Held r) (opt.Some p) = opt.Some (changed xs (register r) p.right)
    kept_sides xs (Held q) (Held r) (opt.Some p) = kept_registers xs (register q) (register r) p

    abbrev pub keep : State V → Condition → State V
    keep opt.None c = opt.None
    keep (opt.Some xs) c = kept_sides xs c.left c.right (a.kept c.rel (term xs c.left) (term xs c.right))

    -- an operation register by register; beside no environment the other state stays
    abbrev pub merged : (V → V → V) → State V → State V → State V
    merged f opt.None t = t
    merged f (opt.Some xs) opt.None = opt.Some xs
    merged f (opt.Some xs) (opt.Some ys) = opt.Some (build n (λ r. f (of xs r) (of ys r)))

    abbrev pub join : State V → State V → State V
    join = merged a.hull

    abbrev pub widen : State V → State V → State V
    widen = merged a.widen

    abbrev pub within : State V → State V → Bool
    within opt.None t = true
    within (opt.Some xs) opt.None = false
    within (opt.Some xs) (opt.Some ys) = every n (λ r. a.inside (of xs r) (of ys r))

    abbrev pub sure : State V → Expression → Bool
    sure opt.None x = true
    sure (opt.Some xs) x = sure_value xs x

    abbrev pub shows : State V → Side → Bool
    shows opt.None d = true
    shows (opt.Some xs) d = bounded xs d

    abbrev pub range_of : State V → ℕ → Range → Range
    range_of opt.None r x = empty
    range_of (opt.Some xs) r x = a.range (of xs r) x

    abbrev pub state_means : Meaning (Pointwise V)
    state_means s e = means s.sets e

    abbrev pub pointwise : Lattice state_means
    pointwise = record {
      rank = λ s. rank s.sets;
      any = record { sets = any };
      none = record { sets = opt.None };
      narrow = λ s r x. record { sets = narrow s.sets r x };
      keep = λ s c. record { sets = keep s.sets c };
      set = λ s r x. record { sets = set s.sets r x };
      join = λ s t. record { sets = join s.sets t.sets };
      widen = λ s t. record { sets = widen s.sets t.sets };
      within = λ s t. within s.sets t.sets;
      sure = λ s x. sure s.sets x;
      shows = λ s d. shows s.sets d;
      range = λ s r x. range_of s.sets r x;
    }
