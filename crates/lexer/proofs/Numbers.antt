-- The number that a run of digits writes, digit by digit, and how large it is.
use Rattle.std.proofs.Common.{◌≡◌, ℕ, zero, suc, ◌+◌, ◌-◌, ◌*◌, ◌^◌, ◌<◌, ◌≤◌, List, [], ◌∷◌, length, get_or, take, arith, length-take-le}
use native.Mathlib.Nat.{pow-le-pow_right}
use Rattle.std.proofs.lemmas.Int.Digits.{digits_value-lt, digits_value_more}
use Rattle.std.proofs.lemmas.Str.Parse.{digit_at}
use Rattle.std.proofs.lemmas.Str.{digit_value_digit}
use Rattle.std.specs.Str.Parse.{digits_value, AllDigits}

pub digits_take : (n : ℕ) (s : List ℕ) → AllDigits 10 s → AllDigits 10 (take n s)
digits_take zero s h = tt
digits_take (suc n) [] h = tt
digits_take (suc n) (b ∷ s) h = (h.0, digits_take n s h.1)

-- the number of fewer than n + 1 digits
pub small : (s : List ℕ) (i n : ℕ) → AllDigits 10 s → i ≤ n → i ≤ length s → digits_value 10 (take i s) < 10 ^ n
small s i n h l m =
    let long = length-take-le i s m in
    let less = digits_value-lt 10 (take i s) (digits_take i s h) in
    let up : 10 ^ length (take i s) ≤ 10 ^ n = pow-le-pow_right (omega arith) (omega arith) in
    omega arith

pub more : (s : List ℕ) (i : ℕ) → AllDigits 10 s → i < length s → digits_value 10 (take (i + 1) s) ≡ digits_value 10 (take i s) * 10 + (get_or s i 0 - 48)
more s i h l = omega (arith, digits_value_more 10 s i l, digit_value_digit (get_or s i 0) (digit_at s i h l))

pub below : (s : List ℕ) → AllDigits 10 s → length s ≤ 8 → digits_value 10 s < 100000000
below s h l =
    let less = digits_value-lt 10 s h in
    let up : 10 ^ length s ≤ 10 ^ 8 = pow-le-pow_right (omega arith) l in
    omega arith
