-- A number is an optional `-` and 1 to 8 digits. First the grammar, then the reading.
use Rattle.std.specs.Prelude.{◌≡◌, ℕ, ◌≤◌, Bool, true, cond, ◌&&◌, List, [], ◌∷◌, length, ℤ, pos, neg_ℤ, Some, None, Option, ◌==◌, nat_le}
use Rattle.std.specs.Str.Parse.{digits_value}

abbrev pub is_digit : ℕ → Bool
is_digit b = nat_le 48 b && nat_le b 57

abbrev pub all_digits : List ℕ → Bool
all_digits [] = true
all_digits (b ∷ bs) = is_digit b && all_digits bs

-- ---- the grammar
pub data NumberIs : List ℕ → ℤ → Type 0 where
  plain : (ds : List ℕ) → all_digits ds ≡ true → 1 ≤ length ds → length ds ≤ 8 → NumberIs ds (pos (digits_value 10 ds))
  below : (ds : List ℕ) → all_digits ds ≡ true → 1 ≤ length ds → length ds ≤ 8 → NumberIs (45 ∷ ds) (neg_ℤ (pos (digits_value 10 ds)))

-- ---- the reading
-- 1 to 8 digits
abbrev pub natural_of : List ℕ → Option ℤ
natural_of bs = cond (all_digits bs && (nat_le 1 (length bs) && nat_le (length bs) 8)) (Some (pos (digits_value 10 bs))) None

abbrev pub minus : Option ℤ → Option ℤ
minus None = None
minus (Some n) = Some (neg_ℤ n)

-- with an optional sign
abbrev pub number_of : List ℕ → Option ℤ
number_of [] = None
number_of (b ∷ bs) = cond (b == 45) (minus (natural_of bs)) (natural_of (b ∷ bs))
