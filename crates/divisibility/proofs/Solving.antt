-- An equation modulo n has a solution where the gcd divides its right side, and Bézout's factor gives the least one.
use Rattle.std.proofs.Common.{◌≡◌, ℕ, ◌-◌, ◌*◌, ◌/◌, ◌%◌, ◌<◌, ◌≤◌, Bool, true, false, ℤ, pos, ◌+ℤ◌, ◌-ℤ◌, ◌*ℤ◌, neg_ℤ, Some, None, refl, mod-lt, div-le_self, arith}
use Rattle.std.proofs.lemmas.Int.{ints}
use Rattle.divisibility.specs.Multiples.{Multiple}
use Rattle.divisibility.specs.Gcds.{Gcd, Brings}
use Rattle.divisibility.specs.Leasts.{least}
use Rattle.divisibility.specs.Equations.{makes}
use Rattle.divisibility.proofs.Ring.{add_mul, neg_mul, mul_sub}
use Rattle.divisibility.proofs.Multiples.{moved, mult_add, mult_sub, mult_scale, mult_trans, mult_bound, mod_parts}
use Rattle.divisibility.proofs.Divides.{agrees_yes, agrees_from}
use Rattle.divisibility.proofs.Bezouts.{quotient_is, through, onto}
use Rattle.divisibility.proofs.Leasts.{least_none, least_some}
use Rattle.divisibility.proofs.Lcms.{gcd_positive, quotient_positive}

pub not_so : (b : Bool) → (b ≡ true → ⊥) → b ≡ false
not_so true h = absurd (h refl)
not_so false h = refl

none_makes : (m n g d : ℕ) → Gcd m n g → (Multiple g (pos d) → ⊥) → (t : ℕ) → makes m n d t ≡ false
none_makes m n g d h k t = not_so (makes m n d t) (λ e. k (at (agrees_yes n (pos t *ℤ pos m) (pos d) e)))
  where
    turn : (z : ℤ) → z -ℤ (z -ℤ pos d) ≡ pos d
    turn z = omega (arith, ints)

    at : Multiple n ((pos t *ℤ pos m) -ℤ pos d) → Multiple g (pos d)
    at w =
        let a = mult_trans g n ((pos t *ℤ pos m) -ℤ pos d) h.right w in
        let c = mult_scale g (pos t) (pos m) h.left in
        moved g ((pos t *ℤ pos m) -ℤ ((pos t *ℤ pos m) -ℤ pos d)) (pos d) (turn (pos t *ℤ pos m)) (mult_sub g _ _ c a)

-- from the factor k for the gcd g, how often m makes d
abbrev pub solved : ℕ → ℕ → ℕ → ℕ → ℕ
solved d g k n = d / g * (k % (n / g)) % (n / g)

solves : (m n g k d : ℕ) → 0 < n → Brings m n g k → Multiple g (pos d) → Multiple n ((pos (solved d g k n) *ℤ pos m) -ℤ pos d)
solves m n g k d h b w =
    let z = gcd_positive m n g h b.gcd in
    let q = quotient_is g n z b.gcd.right in
    let e = quotient_positive n g h q in
    let c = quotient_is g d z w in
    let u = mult_scale (n / g) (pos (d / g)) (pos k -ℤ pos (k % (n / g))) (mod_parts (pos k) (n / g) e).whole in
    let v = (mod_parts (pos (d / g * (k % (n / g)))) (n / g) e).whole in
    let s = mul_sub (pos (d / g)) (pos k) (pos (k % (n / g))) in
    let p : Multiple (n / g) (pos (d / g * k) -ℤ pos (solved d g k n)) = moved (n / g) _ _ (first (d / g) (k % (n / g)) (solved d g k n) (pos (d / g) *ℤ (pos k -ℤ pos (k % (n / g)))) s) (mult_add (n / g) _ _ u v) in
    let r = onto m n g (pos (d / g * k) -ℤ pos (solved d g k n)) z b.gcd p in
    let f = mult_scale n (pos (d / g)) ((pos k *ℤ pos m) -ℤ pos g) b.factor in
    let i = mul_sub (pos (d / g)) (pos k *ℤ pos m) (pos g) in
    let j = add_mul (pos (d / g * k)) (neg_ℤ (pos (solved d g k n))) (pos m) in
    let l = neg_mul (pos (solved d g k n)) (pos m) in
    moved n ((pos (d / g) *ℤ ((pos k *ℤ pos m) -ℤ pos g)) -ℤ ((pos (d / g * k) -ℤ pos (solved d g k n)) *ℤ pos m)) _
    (second (d / g) (solved d g k n) (pos (d / g) *ℤ ((pos k *ℤ pos m) -ℤ pos g)) ((pos (d / g * k) -ℤ pos (solved d g k n)) *ℤ pos m) (neg_ℤ (pos (solved d g k n)) *ℤ pos m) c i j l)
    (mult_sub n _ _ f r)
  where
    first : (c k' t : ℕ) (x : ℤ) → x ≡ (pos c *ℤ pos k) -ℤ (pos c *ℤ pos k') → x +ℤ (pos (c * k') -ℤ pos t) ≡ pos (c * k) -ℤ pos t
    first c k' t x e = omega (arith, ints)

    second : (c t : ℕ) (x y w : ℤ) → c * g ≡ d → x ≡ (pos c *ℤ (pos k *ℤ pos m)) -ℤ (pos c *ℤ pos g) → y ≡ (pos (c * k) *ℤ pos m) +ℤ w → w ≡ neg_ℤ (pos t *ℤ pos m) → x -ℤ y ≡ (pos t *ℤ pos m) -ℤ pos d
    second c t x y w e f i j = omega (arith, ints)

solved_below : (m n g k d : ℕ) → 0 < n → Brings m n g k → solved d g k n < n / g
solved_below m n g k d h b =
    let z = gcd_positive m n g h b.gcd in
    mod-lt (d / g * (k % (n / g))) (quotient_positive n g h (quotient_is g n z b.gcd.right))

-- two solutions differ by a multiple of n / g
apart : (m n g d : ℕ) (k : ℤ) (j t : ℤ) → 0 < g → Gcd m n g → Multiple n ((k *ℤ pos m) -ℤ pos g) → Multiple n ((j *ℤ pos m) -ℤ pos d) → Multiple n ((t *ℤ pos m) -ℤ pos d) → Multiple (n / g) (j -ℤ t)
apart m n g d k j t z h f a b =
    let e = add_mul j (neg_ℤ t) (pos m) in let i = neg_mul t (pos m) in
    through m n g k (j -ℤ t) z h f
    (moved n _ ((j -ℤ t) *ℤ pos m) (turn (j *ℤ pos m) (t *ℤ pos m) ((j -ℤ t) *ℤ pos m) (neg_ℤ t *ℤ pos m) e i) (mult_sub n _ _ a b))
  where
    turn : (u v w x : ℤ) → w ≡ u +ℤ x → x ≡ neg_ℤ v → (u -ℤ pos d) -ℤ (v -ℤ pos d) ≡ w
    turn u v w x e i = omega (arith, ints)

none_less : (m n g k d t : ℕ) → 0 < n → Brings m n g k → t < n / g → makes m n d t ≡ true → (s : ℕ) → s < t → makes m n d s ≡ false
none_less m n g k d t h b l e s i = not_so (makes m n d s) (λ q.
    let z = gcd_positive m n g h b.gcd in
    let p = apart m n g d (pos k) (pos t) (pos s) z b.gcd b.factor (agrees_yes n (pos t *ℤ pos m) (pos d) e) (agrees_yes n (pos s *ℤ pos m) (pos d) q) in
    let r = moved (n / g) (pos t -ℤ pos s) (pos (t - s)) (omega (arith, ints)) p in
    let w = mult_bound (n / g) (t - s) (omega arith) r in
    omega arith)

pub solved_none : (m n g d : ℕ) → Gcd m n g → (Multiple g (pos d) → ⊥) → least n (makes m n d) ≡ None
solved_none m n g d h k = least_none n (makes m n d) (λ t l. none_makes m n g d h k t)

pub solved_some : (m n g k d : ℕ) → 0 < n → Brings m n g k → Multiple g (pos d) → least n (makes m n d) ≡ Some (solved d g k n)
solved_some m n g k d h b v =
    let e = agrees_from n (pos (solved d g k n) *ℤ pos m) (pos d) (solves m n g k d h b v) in
    let l = solved_below m n g k d h b in
    let u = div-le_self n g in
    least_some n (makes m n d) (solved d g k n) (below (solved d g k n) (n / g) l u) e (none_less m n g k d (solved d g k n) h b l e)
  where
    below : (a b : ℕ) → a < b → b ≤ n → a < n
    below a b p q = omega arith
