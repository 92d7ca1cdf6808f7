-- A remainder as a natural number.
use Rattle.std.proofs.Common.{◌≡◌, ℕ, ◌<◌, ℤ, pos, ◌-ℤ◌, nat_abs, subst, arith}
use Rattle.std.proofs.lemmas.Int.{ints}
use Rattle.divisibility.specs.Multiples.{Multiple, remainder}
use Rattle.divisibility.proofs.Multiples.{Parted, mod_parts}

natural : (z r : ℤ) (m d : ℕ) → Parted z m r → d ≡ nat_abs r → (d < m) × Multiple m (z -ℤ pos d)
natural z r m d p e =
    let l = p.low in let h = p.high in
    let s : r ≡ pos d = omega (arith, ints) in
    (omega (arith, ints), subst (λ (x : ℤ). Multiple m (z -ℤ x)) s p.whole)

pub gap_below : (z : ℤ) (m d : ℕ) → 0 < m → d ≡ nat_abs (remainder z m) → d < m
gap_below z m d h e = (natural z (remainder z m) m d (mod_parts z m h) e).0

pub gap_same : (z : ℤ) (m d : ℕ) → 0 < m → d ≡ nat_abs (remainder z m) → Multiple m (z -ℤ pos d)
gap_same z m d h e = (natural z (remainder z m) m d (mod_parts z m h) e).1
