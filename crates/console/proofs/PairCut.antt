-- Two numbers as the code cuts them at the first blank.
use Rattle.std.proofs.Common.{◌≡◌, ℕ, ◌+◌, ◌-◌, List, [], length, take, drop, ℤ, Some, None, Option, sym, refl, ap, ◌∙◌, arith}
use Rattle.std.proofs.lemmas.List.{drop_all, take_rest}
use Rattle.words.specs.Cuts.{until}
use Rattle.words.specs.Numbers.{number_of}
use Rattle.console.specs.RangeLines.{with_both, pair_of}

no_second : (p : ℕ) (lo : Option ℤ) → with_both p lo None ≡ None
no_second p None = refl
no_second p (Some x) = refl

pub no_pair : (p : ℕ) (bs : List ℕ) → until 32 bs ≡ length bs → None ≡ pair_of p bs
no_pair p bs e =
    let rest : drop (until 32 bs + 1) bs ≡ [] = drop_all (until 32 bs + 1) bs (omega arith) in
    sym (ap (λ l. with_both p (number_of (take (until 32 bs) bs)) (number_of l)) rest ∙ no_second p (number_of (take (until 32 bs) bs)))

module _ (p : ℕ) (bs : List ℕ) (n : ℕ) (e : until 32 bs ≡ n) where
  pub pair_cut : (lo hi : Option ℤ) → lo ≡ number_of (take n bs) → hi ≡ number_of (take (length bs - (n + 1)) (drop (n + 1) bs)) → with_both p lo hi ≡ pair_of p bs
  pair_cut lo hi first second = rw (e, sym first) (ap (with_both p lo) (second ∙ ap number_of (take_rest bs (n + 1))))

  pub no_first : None ≡ number_of (take n bs) → None ≡ pair_of p bs
  no_first first = pair_cut None _ first refl
