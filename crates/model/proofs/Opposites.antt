-- The opposite of a condition holds where the condition fails, and fails where it holds.
use Rattle.std.proofs.Common.{◌≡◌, true, false, not, ℤ, ap, arith}
use lib.Signed.{le_z, lt_z}
use Rattle.std.proofs.lemmas.Int.{ints}
use Rattle.std.proofs.lemmas.Bool.{not-true, not-false}
use Rattle.model.specs.declared.expression.Rel.{Rel}
use Rattle.model.specs.declared.expression.Rel.TheVariants.{Eq, Ne, Lt, Le, Gt, Ge}
use Rattle.model.specs.declared.expression.Condition.{Condition}
use Rattle.model.specs.Environments.{Env}
use Rattle.model.specs.Values.{compare, holds}
use Rattle.model.specs.Opposites.{against, opposite}

not_lt : (a b : ℤ) → lt_z a b ≡ false → le_z b a ≡ true
not_lt a b h = grind (arith, ints)

not_le : (a b : ℤ) → le_z a b ≡ false → lt_z b a ≡ true
not_le a b h = grind (arith, ints)

lt_not : (a b : ℤ) → lt_z a b ≡ true → le_z b a ≡ false
lt_not a b h = grind (arith, ints)

le_not : (a b : ℤ) → le_z a b ≡ true → lt_z b a ≡ false
le_not a b h = grind (arith, ints)

against_true : (r : Rel) (a b : ℤ) → compare r a b ≡ false → compare (against r) a b ≡ true
against_true Eq a b h = ap not h
against_true Ne a b h = not-false _ h
against_true Lt a b h = not_lt a b h
against_true Le a b h = not_le a b h
against_true Gt a b h = not_lt b a h
against_true Ge a b h = not_le b a h

against_false : (r : Rel) (a b : ℤ) → compare r a b ≡ true → compare (against r) a b ≡ false
against_false Eq a b h = ap not h
against_false Ne a b h = not-true _ h
against_false Lt a b h = lt_not a b h
against_false Le a b h = le_not a b h
against_false Gt a b h = lt_not b a h
against_false Ge a b h = le_not b a h

pub opposite_true : (e : Env) (c : Condition) → holds e c ≡ false → holds e (opposite c) ≡ true
opposite_true e c h = against_true c.rel _ _ h

pub opposite_false : (e : Env) (c : Condition) → holds e c ≡ true → holds e (opposite c) ≡ false
opposite_false e c h = against_false c.rel _ _ h
