-- What each of the six conditions leaves of its two sides.
use Rattle.std.specs.Prelude.{Bool, cond, not, ◌&&◌, Some, None, Option}
use Rattle.model.specs.declared.expression.Rel.{Rel}
use Rattle.model.specs.declared.expression.Rel.TheVariants.{Eq, Ne, Lt, Le, Gt, Ge}
use Rattle.model.specs.Values.{compare}
use Rattle.number_sets.specs.Pairs.{both}
use Rattle.number_sets.specs.declared.sets.Pair.{Pair}
use Rattle.congruences.specs.Commons.{common}
use Rattle.congruences.specs.Singles.{alone}
use Rattle.congruences.specs.declared.congruence.Congruence.{Congruence}

-- both are single and do not meet the condition
abbrev pub fails : Rel → Congruence → Congruence → Bool
fails r x y = alone x && (alone y && not (compare r x.residue y.residue))

-- both sides as they are, unless the condition fails
abbrev pub unless : Rel → Congruence → Congruence → Option (Pair Congruence)
unless r x y = cond (fails r x y) None (Some (record { left = x; right = y }))

-- the same on both sides
abbrev pub doubled : Option Congruence → Option (Pair Congruence)
doubled o = both o o

-- EQ leaves the common members on both sides
abbrev pub kept : Rel → Congruence → Congruence → Option (Pair Congruence)
kept Eq x y = doubled (common x y)
kept Ne x y = unless Ne x y
kept Lt x y = unless Lt x y
kept Le x y = unless Le x y
kept Gt x y = unless Gt x y
kept Ge x y = unless Ge x y
