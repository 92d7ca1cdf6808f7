-- One turn of the loop that brings m to the gcd.
use Rattle.std.proofs.Common.{◌≡◌, ℕ, ◌+◌, ◌-◌, ◌*◌, ◌/◌, ◌%◌, ◌<◌, ℤ, pos, ◌+ℤ◌, ◌-ℤ◌, ◌*ℤ◌, neg_ℤ, ap, ◌∙◌, mod-lt, arith}
use lib.IntN.{*ℤ_comm}
use Rattle.std.proofs.lemmas.Int.{ints}
use Rattle.divisibility.proofs.Ring.{mul_sub, mul_swap}
use Rattle.divisibility.specs.Multiples.{Multiple}
use Rattle.divisibility.proofs.Multiples.{moved, mult_self, mult_sub, mult_neg, mult_scale, mod_parts}
use Rattle.divisibility.proofs.Gcds.{rest_is}

pub next_same : (p k q n : ℕ) → 0 < n → Multiple n ((pos p -ℤ (pos k *ℤ pos q)) -ℤ pos ((p + n - k * q % n) % n))
next_same p k q n h =
    let w = k * q % n in
    let l : w < n = mod-lt (k * q) h in
    let a = (mod_parts (pos (k * q)) n h).whole in
    let b = (mod_parts (pos (p + n - w)) n h).whole in
    moved n (((pos (p + n - w) -ℤ pos ((p + n - w) % n)) -ℤ (pos (k * q) -ℤ pos w)) -ℤ pos n) _ (turn p (k * q) w ((p + n - w) % n) l)
    (mult_sub n _ _ (mult_sub n _ _ b a) (mult_self n))
  where
    turn : (p j w r : ℕ) → w < n → ((pos (p + n - w) -ℤ pos r) -ℤ (pos j -ℤ pos w)) -ℤ pos n ≡ (pos p -ℤ pos j) -ℤ pos r
    turn p j w r l = omega (arith, ints)

pub start_left : (m n : ℕ) → 0 < n → Multiple n ((pos (1 % n) *ℤ pos m) -ℤ pos m)
start_left m n h =
    let a = mult_scale n (pos m) (pos 1 -ℤ pos (1 % n)) (mod_parts (pos 1) n h).whole in
    let e = mul_sub (pos m) (pos 1) (pos (1 % n)) in
    moved n (neg_ℤ (pos m *ℤ (pos 1 -ℤ pos (1 % n)))) _ (turn (1 % n) (pos m *ℤ (pos 1 -ℤ pos (1 % n))) e) (mult_neg n _ a)
  where
    turn : (r : ℕ) (z : ℤ) → z ≡ (pos m *ℤ pos 1) -ℤ (pos m *ℤ pos r) → neg_ℤ z ≡ (pos r *ℤ pos m) -ℤ pos m
    turn r z e = omega (arith, ints)

pub start_right : (m n : ℕ) → Multiple n ((pos 0 *ℤ pos m) -ℤ pos n)
start_right m n = moved n (neg_ℤ (pos n)) _ (omega (arith, ints)) (mult_neg n (pos n) (mult_self n))

sum : (pm a y x x' mp mkq mr kqm kb s rm : ℤ) → x ≡ x' -ℤ mr → x' ≡ mp -ℤ mkq → y ≡ kqm -ℤ kb → mp ≡ pm → mkq ≡ kqm → mr ≡ rm → a ≡ kb +ℤ s → ((pm -ℤ a) -ℤ y) -ℤ x ≡ rm -ℤ s
sum pm a y x x' mp mkq mr kqm kb s rm e f g h i j k = omega (arith, ints)

-- q' is p − kq, so q'm is a − kb, which is the remainder
pub turned : (m n a b p q r : ℕ) → Multiple n ((pos p *ℤ pos m) -ℤ pos a) → Multiple n ((pos q *ℤ pos m) -ℤ pos b) → Multiple n ((pos p -ℤ (pos (a / b) *ℤ pos q)) -ℤ pos r) → Multiple n ((pos r *ℤ pos m) -ℤ pos (a % b))
turned m n a b p q r u v w =
    let k = pos (a / b) in
    let z = (pos p -ℤ (k *ℤ pos q)) -ℤ pos r in
    let x = mult_scale n (pos m) z w in
    let y = mult_scale n k ((pos q *ℤ pos m) -ℤ pos b) v in
    moved n ((((pos p *ℤ pos m) -ℤ pos a) -ℤ (k *ℤ ((pos q *ℤ pos m) -ℤ pos b))) -ℤ (pos m *ℤ z)) ((pos r *ℤ pos m) -ℤ pos (a % b))
    (sum (pos p *ℤ pos m) (pos a) (k *ℤ ((pos q *ℤ pos m) -ℤ pos b)) (pos m *ℤ z) (pos m *ℤ (pos p -ℤ (k *ℤ pos q))) (pos m *ℤ pos p) (pos m *ℤ (k *ℤ pos q)) (pos m *ℤ pos r) (k *ℤ (pos q *ℤ pos m)) (k *ℤ pos b) (pos (a % b)) (pos r *ℤ pos m)
    (mul_sub (pos m) (pos p -ℤ (k *ℤ pos q)) (pos r)) (mul_sub (pos m) (pos p) (k *ℤ pos q)) (mul_sub k (pos q *ℤ pos m) (pos b))
    (*ℤ_comm (pos m) (pos p)) (mul_swap (pos m) k (pos q) ∙ ap (λ (t : ℤ). k *ℤ t) (*ℤ_comm (pos m) (pos q))) (*ℤ_comm (pos m) (pos r)) (rest_is a b))
    (mult_sub n _ _ (mult_sub n _ _ u y) x)
