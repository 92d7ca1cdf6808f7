-- What tests of numbers say, and that they say yes where it is so.
use Rattle.std.proofs.Common.{◌≡◌, true, false, ℤ, ◌≤ℤ◌, ◌<ℤ◌, int_le, arith}
use Rattle.std.proofs.Math.Dec.{T_prop}
use Rattle.std.proofs.lemmas.Int.{ints}
use Rattle.std.proofs.lemmas.Bool.{and_parts, and_from}
use Rattle.model.specs.declared.range.Range.{Range}
use Rattle.model.specs.declared.expression.Expression.{Expression}
use Rattle.model.specs.Environments.{Env, Lies, lies, fit}
use Rattle.model.specs.Values.{same, evaluate, faultless}

pub true_le : (a b : ℤ) → int_le a b ≡ true → a ≤ℤ b
true_le a b h = record { le = rw h tt }

pub le_true : (a b : ℤ) → a ≤ℤ b → int_le a b ≡ true
le_true a b h = grind (arith, ints)

pub lt_false : (a b : ℤ) → b <ℤ a → int_le a b ≡ false
lt_false a b h = grind (arith, ints)

pub same_is : (a b : ℤ) → same a b ≡ true → a ≡ b
same_is a b h = let p = and_parts (int_le a b) (int_le b a) h in let q = true_le a b p.0 in let r = true_le b a p.1 in omega (arith, ints)

pub lies_in : (n : ℤ) (x : Range) → lies n x ≡ true → Lies n x
lies_in n x h = let p = and_parts (int_le x.lo n) (int_le n x.hi) h in record { low = true_le _ _ p.0; high = true_le _ _ p.1 }

pub in_lies : (n : ℤ) (x : Range) → Lies n x → lies n x ≡ true
in_lies n x h = and_from _ _ (le_true _ _ h.low) (le_true _ _ h.high)

-- there is one way to be no greater
pub le_prop : (a b : ℤ) → IsProp (a ≤ℤ b)
le_prop a b x y i = record { le = T_prop (int_le a b) x.le y.le i }

-- what does not fault lies within the limit
pub faultless_fit : (e : Env) (x : Expression) → faultless e x ≡ true → fit (evaluate e x) ≡ true
faultless_fit e x h = h

pub fit_faultless : (e : Env) (x : Expression) → fit (evaluate e x) ≡ true → faultless e x ≡ true
fit_faultless e x h = h
