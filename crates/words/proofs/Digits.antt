-- A text of digits, by std's word for it.
use Rattle.std.proofs.Common.{◌≡◌, ℕ, true, leb, List, [], ◌∷◌, rules}
use Rattle.std.proofs.lemmas.Bool.{and_parts, leb-true}
use Rattle.std.specs.Str.Parse.{AllDigits}
use Rattle.words.specs.Numbers.{is_digit, all_digits}

pub all_are_digits : (bs : List ℕ) → all_digits bs ≡ true → AllDigits 10 bs
all_are_digits [] h = tt
all_are_digits (b ∷ bs) h =
    let p = and_parts (is_digit b) (all_digits bs) h in
    let q = and_parts (leb 48 b) (leb b 57) p.0 in
    let lo = leb-true 48 b q.0 in
    let hi = leb-true b 57 q.1 in
    (search rules, all_are_digits bs p.1)
