-- Products are extreme at the ends.
use Rattle.std.specs.Prelude.{◌≡◌, ℕ, suc, ◌+◌, ◌*◌, ◌≤◌, ℤ, pos, negsuc, ◌*ℤ◌, ◌≤ℤ◌}
use Rattle.std.proofs.Common.{mul-le-mul_right, arith}
use Rattle.std.proofs.Math.IntN.{*ℤ_comm}
use borrow.Author.Differences.{up, down, le_out}
use Rattle.std.specs.Int.{int_min, int_max}
use Rattle.std.proofs.lemmas.Int.{ints, clamps}
use Rattle.intervals.specs.Results.{least, greatest}

-- a factor that is not negative keeps the order, and a negative one turns it
times_pos : (x y : ℤ) (n : ℕ) → x ≤ℤ y → (x *ℤ pos n) ≤ℤ (y *ℤ pos n)
times_pos x y n h = let k : (up x + down y) * n ≤ (up y + down x) * n = mul-le-mul_right n (le_out x y h) in omega (arith, ints)

times_neg : (x y : ℤ) (n : ℕ) → x ≤ℤ y → (y *ℤ negsuc n) ≤ℤ (x *ℤ negsuc n)
times_neg x y n h = let k : (up x + down y) * suc n ≤ (up y + down x) * suc n = mul-le-mul_right (suc n) (le_out x y h) in omega (arith, ints)

-- x from a to b: the product lies between those of the ends
record Between (p q v : ℤ) : Type 0 where
  low : int_min p q ≤ℤ v
  high : v ≤ℤ int_max p q

between : (a b x : ℤ) (y : ℤ) → a ≤ℤ x → x ≤ℤ b → Between (a *ℤ y) (b *ℤ y) (x *ℤ y)
between a b x (pos n) h k = let p = times_pos a x n h in let q = times_pos x b n k in bounds (a *ℤ pos n) (b *ℤ pos n) (x *ℤ pos n) p q
  where
    bounds : (p q v : ℤ) → p ≤ℤ v → v ≤ℤ q → Between p q v
    bounds p q v h k = record { low = omega (arith, ints, clamps); high = omega (arith, ints, clamps) }
between a b x (negsuc n) h k = let p = times_neg a x n h in let q = times_neg x b n k in bounds (a *ℤ negsuc n) (b *ℤ negsuc n) (x *ℤ negsuc n) q p
  where
    bounds : (p q v : ℤ) → q ≤ℤ v → v ≤ℤ p → Between p q v
    bounds p q v h k = record { low = omega (arith, ints, clamps); high = omega (arith, ints, clamps) }

between_right : (c d y : ℤ) (x : ℤ) → c ≤ℤ y → y ≤ℤ d → Between (x *ℤ c) (x *ℤ d) (x *ℤ y)
between_right c d y x h k = let b = between c d y x h k in let p = *ℤ_comm x c in let q = *ℤ_comm x d in let r = *ℤ_comm x y in rw (p, q, r) b

-- four numbers, two of each side
within_low : (p q r s u v w : ℤ) → int_min u v ≤ℤ w → int_min p q ≤ℤ u → int_min r s ≤ℤ v → least p q r s ≤ℤ w
within_low p q r s u v w a b c = omega (arith, ints, clamps)

within_high : (p q r s u v w : ℤ) → w ≤ℤ int_max u v → u ≤ℤ int_max p q → v ≤ℤ int_max r s → w ≤ℤ greatest p q r s
within_high p q r s u v w a b c = omega (arith, ints, clamps)

-- x from a to b and y from c to d: the product lies between the least and the greatest of the four end products
pub product_low : (a b c d x y : ℤ) → a ≤ℤ x → x ≤ℤ b → c ≤ℤ y → y ≤ℤ d → least (a *ℤ c) (a *ℤ d) (b *ℤ c) (b *ℤ d) ≤ℤ (x *ℤ y)
product_low a b c d x y h k m n =
    within_low (a *ℤ c) (a *ℤ d) (b *ℤ c) (b *ℤ d) (a *ℤ y) (b *ℤ y) (x *ℤ y) (between a b x y h k).low (between_right c d y a m n).low (between_right c d y b m n).low

pub product_high : (a b c d x y : ℤ) → a ≤ℤ x → x ≤ℤ b → c ≤ℤ y → y ≤ℤ d → (x *ℤ y) ≤ℤ greatest (a *ℤ c) (a *ℤ d) (b *ℤ c) (b *ℤ d)
product_high a b c d x y h k m n =
    within_high (a *ℤ c) (a *ℤ d) (b *ℤ c) (b *ℤ d) (a *ℤ y) (b *ℤ y) (x *ℤ y) (between a b x y h k).high (between_right c d y a m n).high (between_right c d y b m n).high

-- a function of four numbers
pub four_same : (h : ℤ → ℤ → ℤ → ℤ → ℤ) (a b c d a' b' c' d' : ℤ) → a ≡ a' → b ≡ b' → c ≡ c' → d ≡ d' → h a b c d ≡ h a' b' c' d'
four_same h a b c d a' b' c' d' p q r s = cc
