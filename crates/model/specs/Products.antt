-- Products of two 64-bit numbers that are small enough for their product to fit.
use Rattle.std.specs.Prelude.{◌≡◌, ◌≤◌, ◌^◌, ℤ, ◌*ℤ◌, FitsSigned, unsigned_abs}
use Rattle.std.specs.Int.{w64}
use Rattle.std.proofs.Common.{sym, ◌∙◌, ap₂, subst₂, lit≤, to_z, of_z}
use Rattle.std.proofs.lemmas.Int.{to_z-of_z, fits_signed_mul}

-- numbers that went to their bits and back
pub product_fits_bits : (a b : ℤ) → FitsSigned w64 a → FitsSigned w64 b → unsigned_abs a ≤ 2 ^ 31 → unsigned_abs b ≤ 2 ^ 31 →
    FitsSigned w64 (to_z w64 (of_z w64 a) *ℤ to_z w64 (of_z w64 b))
product_fits_bits a b f g p q =
    subst₂ (λ (x y : ℤ). FitsSigned w64 (x *ℤ y)) (sym (to_z-of_z w64 a f)) (sym (to_z-of_z w64 b g)) (fits_signed_mul w64 a b (2 ^ 31) (2 ^ 31) p q (lit≤ tt))

pub product_back : (a b : ℤ) → FitsSigned w64 a → FitsSigned w64 b → unsigned_abs a ≤ 2 ^ 31 → unsigned_abs b ≤ 2 ^ 31 →
    to_z w64 (of_z w64 (to_z w64 (of_z w64 a) *ℤ to_z w64 (of_z w64 b))) ≡ a *ℤ b
product_back a b f g p q = to_z-of_z w64 _ (product_fits_bits a b f g p q) ∙ ap₂ (λ (x y : ℤ). x *ℤ y) (to_z-of_z w64 a f) (to_z-of_z w64 b g)
