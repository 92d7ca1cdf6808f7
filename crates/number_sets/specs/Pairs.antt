-- Two sides of a condition.
use Rattle.std.specs.Prelude.{Some, None, Option}
use Rattle.number_sets.specs.declared.sets.Pair.{Pair}

-- both sides, if neither is missing
abbrev pub both : {V : Type 0} → Option V → Option V → Option (Pair V)
both None y = None
both (Some x) None = None
both (Some x) (Some y) = Some (record { left = x; right = y })

-- the two sides the other way round
abbrev pub turned : {V : Type 0} → Pair V → Pair V
turned p = record { left = p.right; right = p.left }
