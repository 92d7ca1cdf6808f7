-- Seven numbers as six values and a count of steps.
use Rattle.std.proofs.Common.{◌≡◌, ℕ, zero, suc, ◌<◌, List, [], ◌∷◌, length, take, drop, ℤ, pos, Some, None, Option, sym, refl, ap, ◌∙◌, arith}
use Rattle.std.proofs.lemmas.List.{drop_more}
use Rattle.model.specs.Environments.{at}
use Rattle.words.specs.Numbers.{number_of}
use Rattle.command.specs.Numbers.{put, numbers_of}
use Rattle.command.specs.Commands.{dry, with_steps, as_dry}

-- so many numbers are so many
so_many : (n : ℕ) (ws : List (List ℕ)) (ns : List ℤ) → Some ns ≡ numbers_of n ws → length ns ≡ n
so_many zero [] ns e = let nil : ns ≡ [] = cc in ap length nil
so_many zero (w ∷ ws) ns e = let z : ◌≡◌ {A = ℕ} 0 1 = cc in absurd (omega arith)
so_many (suc n) [] ns e = let z : ◌≡◌ {A = ℕ} 0 1 = cc in absurd (omega arith)
so_many (suc n) (w ∷ ws) ns e = go (number_of w) (numbers_of n ws) (λ xs. so_many n ws xs) e
  where
    go : (a : Option ℤ) (o : Option (List ℤ)) → ((xs : List ℤ) → Some xs ≡ o → length xs ≡ n) → Some ns ≡ put a o → length ns ≡ suc n
    go None o more h = let z : ◌≡◌ {A = ℕ} 0 1 = cc in absurd (omega arith)
    go (Some x) None more h = let z : ◌≡◌ {A = ℕ} 0 1 = cc in absurd (omega arith)
    go (Some x) (Some xs) more h = let cons : ns ≡ x ∷ xs = cc in ap length cons ∙ ap suc (more xs refl)

six : (ns : List ℤ) → 6 < length ns → take 6 ns ≡ at ns 0 ∷ at ns 1 ∷ at ns 2 ∷ at ns 3 ∷ at ns 4 ∷ at ns 5 ∷ []
six ns h =
    let d0 : drop 0 ns ≡ at ns 0 ∷ drop 1 ns = drop_more ns 0 (pos 0) (omega arith) in
    let d1 : drop 1 ns ≡ at ns 1 ∷ drop 2 ns = drop_more ns 1 (pos 0) (omega arith) in
    let d2 : drop 2 ns ≡ at ns 2 ∷ drop 3 ns = drop_more ns 2 (pos 0) (omega arith) in
    let d3 : drop 3 ns ≡ at ns 3 ∷ drop 4 ns = drop_more ns 3 (pos 0) (omega arith) in
    let d4 : drop 4 ns ≡ at ns 4 ∷ drop 5 ns = drop_more ns 4 (pos 0) (omega arith) in
    let d5 : drop 5 ns ≡ at ns 5 ∷ drop 6 ns = drop_more ns 5 (pos 0) (omega arith) in
    ap (take 6) d0 ∙ rw (d1, d2, d3, d4, d5)

pub dries : (ws : List (List ℕ)) (ns : List ℤ) (k : ℕ) → Some ns ≡ numbers_of 7 ws → pos k ≡ at ns 6 → Some (dry (at ns 0 ∷ at ns 1 ∷ at ns 2 ∷ at ns 3 ∷ at ns 4 ∷ at ns 5 ∷ []) k) ≡ as_dry (numbers_of 7 ws)
dries ws ns k e h =
    let long : length ns ≡ 7 = so_many 7 ws ns e in
    ap (λ xs. Some (dry xs k)) (sym (six ns (omega arith))) ∙ ap (with_steps (take 6 ns)) h ∙ ap as_dry e
