-- The searches over a text, in std's words.
use Rattle.std.proofs.Common.{◌≡◌, ℕ, ◌+◌, true, false, cond, not, eqb, ◌&&◌, List, [], ◌∷◌, refl, ap, arith}
use Rattle.std.specs.List.{list_all, prefix_len}
use Rattle.words.specs.Cuts.{until}
use Rattle.words.specs.Numbers.{is_digit, all_digits}

pub front_is : (stop : ℕ) (bs : List ℕ) → prefix_len (λ b. not (eqb b stop)) bs ≡ until stop bs
front_is stop [] = refl
front_is stop (b ∷ bs) =
    let more = front_is stop bs in
    elim (eqb b stop) as (λ t. cond (not t) (1 + prefix_len (λ b. not (eqb b stop)) bs) 0 ≡ cond t 0 (until stop bs + 1)) [ true ↦ refl | false ↦ omega arith ]

pub all_is : (bs : List ℕ) → list_all is_digit bs ≡ all_digits bs
all_is [] = refl
all_is (b ∷ bs) = ap (λ t. is_digit b && t) (all_is bs)
