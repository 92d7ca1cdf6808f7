-- Numbers in ranges, and tables of proper ranges.
use Rattle.std.proofs.Common.{◌≡◌, ℕ, zero, suc, ◌<◌, Bool, true, false, cond, ◌||◌, List, [], ◌∷◌, length, get_or, set, ℤ, Ok, Err, Result, ltb, arith}
use Rattle.std.proofs.lemmas.Int.{ints}
use Rattle.std.proofs.lemmas.Bool.{and_parts, and_from}
use Rattle.std.specs.List.{list_all}
use Rattle.model.specs.declared.range.Range.{Range}
use Rattle.model.specs.Environments.{Lies, full, parameters}
use Rattle.session.specs.Answers.{is_proper, allow_answer}
use Rattle.session.specs.declared.refusal.AllowRefusal.{AllowRefusal}
use Rattle.session.specs.declared.refusal.AllowRefusal.TheVariants.{Parameter, Range as OfRange}

pub itself : (n : ℤ) → Lies n (record { lo = n; hi = n })
itself n = record { low = grind (arith, ints); high = grind (arith, ints) }

-- a number in a proper range is within the limit
pub proper_fits : (n : ℤ) (r : Range) → is_proper r ≡ true → Lies n r → Lies n full
proper_fits n r p h = record { low = grind (arith, ints); high = grind (arith, ints) }

pub allowed_proper : (n : ℕ) (r : Range) → allow_answer n r ≡ Ok tt → is_proper r ≡ true
allowed_proper n r e = by (ltb n 1 || ltb parameters n) (is_proper r) e
  where
    by : (s t : Bool) → cond {A = Result (Unit {0}) AllowRefusal} s (Err Parameter) (cond t (Ok tt) (Err OfRange)) ≡ Ok tt → t ≡ true
    by true t e = cc
    by false true e = cc
    by false false e = cc

-- ---- tables
module _ {X : Type 0} (p : X → Bool) where
  pub set_passes : (xs : List X) (i : ℕ) (a : X) → p a ≡ true → list_all p xs ≡ true → list_all p (set xs i a) ≡ true
  set_passes [] i a h k = k
  set_passes (x ∷ xs) zero a h k = let q = and_parts (p x) (list_all p xs) k in and_from _ _ h q.1
  set_passes (x ∷ xs) (suc i) a h k = let q = and_parts (p x) (list_all p xs) k in and_from _ _ q.0 (set_passes xs i a h q.1)

  pub each_passes : (xs : List X) (i : ℕ) (d : X) → list_all p xs ≡ true → i < length xs → p (get_or xs i d) ≡ true
  each_passes [] i d k l = absurd (omega arith)
  each_passes (x ∷ xs) zero d k l = (and_parts (p x) (list_all p xs) k).0
  each_passes (x ∷ xs) (suc i) d k l = each_passes xs i d (and_parts (p x) (list_all p xs) k).1 (omega arith)
