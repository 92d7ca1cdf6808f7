-- Where a text is cut that begins with bytes other than the one that is looked for.
use Rattle.std.proofs.Common.{◌≡◌, ℕ, ◌+◌, Bool, true, false, cond, not, ◌&&◌, eqb, List, [], ◌∷◌, ◌++◌, length, take, drop, refl, add-one, arith}
use Rattle.std.proofs.lemmas.Bool.{eq-eqb, eqb-true}
use Rattle.std.specs.List.{list_all}
use Rattle.words.specs.Cuts.{until}

-- no byte is `stop`
abbrev pub lacks : ℕ → List ℕ → Bool
lacks stop bs = list_all (λ b. not (eqb b stop)) bs

-- nothing follows, or `stop` does
abbrev pub Stops : ℕ → List ℕ → Type 0
Stops stop [] = Unit {0}
Stops stop (b ∷ bs) = b ≡ stop

pub until_at : (stop : ℕ) (w rest : List ℕ) → lacks stop w ≡ true → Stops stop rest → until stop (w ++ rest) ≡ length w
until_at stop [] [] h s = refl
until_at stop [] (b ∷ rest) h s = let t : eqb b stop ≡ true = eq-eqb b stop s in rw t refl
until_at stop (b ∷ w) rest h s = go (eqb b stop) h (λ q. until_at stop w rest q s)
  where
    go : (t : Bool) → (not t && lacks stop w) ≡ true → (lacks stop w ≡ true → until stop (w ++ rest) ≡ length w) → cond t 0 (until stop (w ++ rest) + 1) ≡ length (b ∷ w)
    go true q more = let z : ◌≡◌ {A = ℕ} 0 1 = cc in absurd (omega arith)
    go false q more = omega (arith, more q)

pub stops_after : (stop : ℕ) (bs : List ℕ) → Stops stop (drop (until stop bs) bs)
stops_after stop [] = tt
stops_after stop (b ∷ bs) = go (eqb b stop) refl (stops_after stop bs)
  where
    go : (t : Bool) → eqb b stop ≡ t → Stops stop (drop (until stop bs) bs) → Stops stop (drop (cond t 0 (until stop bs + 1)) (b ∷ bs))
    go true e more = eqb-true b stop e
    go false e more = rw (add-one (until stop bs)) more

pub lacks_before : (stop : ℕ) (bs : List ℕ) → lacks stop (take (until stop bs) bs) ≡ true
lacks_before stop [] = refl
lacks_before stop (b ∷ bs) = go (eqb b stop) refl (lacks_before stop bs)
  where
    go : (t : Bool) → eqb b stop ≡ t → lacks stop (take (until stop bs) bs) ≡ true → lacks stop (take (cond t 0 (until stop bs + 1)) (b ∷ bs)) ≡ true
    go true e more = refl
    go false e more = rw (add-one (until stop bs), e) more
