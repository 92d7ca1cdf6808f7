-- The text of a number below zero: its digits and its sign.
use Rattle.std.proofs.Common.{◌≡◌, ℕ, ◌-◌, ◌≤◌, ℤ, neg_ℤ, Some, true, eqb, List, [], ◌∷◌, length, get_or, take, drop, sym, ap, ◌∙◌, arith}
use Rattle.std.proofs.lemmas.Bool.{eq-eqb}
use Rattle.std.proofs.lemmas.List.{take_rest}
use Rattle.words.specs.Numbers.{natural_of, minus, number_of}

pub signed_text : (bs : List ℕ) → 1 ≤ length bs → get_or bs 0 0 ≡ 45 → number_of bs ≡ minus (natural_of (take (length bs - 1) (drop 1 bs)))
signed_text [] h e = absurd (omega arith)
signed_text (b ∷ bs) h e = let t : eqb b 45 ≡ true = eq-eqb b 45 e in rw t (ap (λ ds. minus (natural_of ds)) (sym (take_rest (b ∷ bs) 1)))

-- a minus sign and digits, whatever way the number was negated
pub negative_text : (bs : List ℕ) (n m : ℤ) → 1 ≤ length bs → get_or bs 0 0 ≡ 45 → Some n ≡ natural_of (take (length bs - 1) (drop 1 bs)) → m ≡ neg_ℤ n → Some m ≡ number_of bs
negative_text bs n m some sign is negated = ap Some negated ∙ ap minus is ∙ sym (signed_text bs some sign)
