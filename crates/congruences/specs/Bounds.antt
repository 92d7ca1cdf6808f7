-- Whether a·v + b·w ≤ c is known of all members v and w: only of single numbers.
use Rattle.std.specs.Prelude.{Bool, true, ◌&&◌, ℤ, ◌+ℤ◌, int_le}
use Rattle.model.specs.declared.side.Sign.{Sign}
use Rattle.model.specs.declared.side.Factor.{Factor}
use Rattle.model.specs.declared.side.Factor.TheVariants.{Plus, Zero, Minus}
use Rattle.model.specs.Sides.{signed, scaled}
use Rattle.congruences.specs.Singles.{alone}
use Rattle.congruences.specs.declared.congruence.Congruence.{Congruence}

-- b·w is known: b is zero, or w is a single number
abbrev pub settles : Factor → Congruence → Bool
settles Plus y = alone y
settles Zero y = true
settles Minus y = alone y

abbrev pub bounded_by : Sign → Congruence → Factor → Congruence → ℤ → Bool
bounded_by a x b y c = alone x && (settles b y && int_le (signed a x.residue +ℤ scaled b y.residue) c)
