-- A range line is read exactly if the grammar has it, and as what the grammar says.
use Rattle.std.proofs.Common.{◌≡◌, ℕ, ◌+◌, ◌-◌, ◌<◌, Bool, true, false, cond, ◌&&◌, eqb, leb, List, [], ◌∷◌, ◌++◌, length, take, drop, ℤ, IfSome, Some, None, Option, sym, refl, ap, ◌∙◌, subst, add-one, arith}
use Rattle.std.proofs.lemmas.Bool.{eqb-true, and_parts, le-leb}
use Rattle.std.proofs.lemmas.List.{take_at, drop_at, drop-drop}
use Rattle.console.specs.declared.range_line.RangeLine.{RangeLine}
use Rattle.words.specs.Cuts.{until}
use Rattle.words.specs.Numbers.{NumberIs, is_digit, number_of}
use Rattle.words.proofs.Cutting.{until_at}
use Rattle.words.proofs.NumberGrammar.{digit_from, number_lacks, number_read, number_had}
use Rattle.console.specs.RangeLines.{with_both, pair_of, range_of}
use Rattle.console.specs.RangeLines.{RangeIs, range}

-- what the grammar has is read

pair_read : (p : ℕ) (xs ys : List ℕ) (lo hi : ℤ) → NumberIs xs lo → NumberIs ys hi → pair_of p (xs ++ (32 ∷ ys)) ≡ Some (record { parameter = p; range = record { lo = lo; hi = hi } })
pair_read p xs ys lo hi a b =
    let n = until_at 32 xs (32 ∷ ys) (number_lacks xs lo a) refl in
    let front : take (until 32 (xs ++ (32 ∷ ys))) (xs ++ (32 ∷ ys)) ≡ xs = take_at xs (32 ∷ ys) _ (sym n) in
    let back : drop (until 32 (xs ++ (32 ∷ ys)) + 1) (xs ++ (32 ∷ ys)) ≡ ys = sym (drop-drop 1 (until 32 (xs ++ (32 ∷ ys))) (xs ++ (32 ∷ ys))) ∙ ap (drop 1) (drop_at xs (32 ∷ ys) _ (sym n)) in
    ap (λ zs. with_both p (number_of zs) (number_of (drop (until 32 (xs ++ (32 ∷ ys)) + 1) (xs ++ (32 ∷ ys))))) front ∙ ap (λ zs. with_both p (number_of xs) (number_of zs)) back ∙ ap (λ o. with_both p o (number_of ys)) (number_read xs lo a) ∙ ap (with_both p (Some lo)) (number_read ys hi b)

pub is_read : (bs : List ℕ) (a : RangeLine) → RangeIs bs a → range_of bs ≡ Some a
is_read bs a (range d xs ys lo hi l h x y) =
    let u : leb 48 d ≡ true = le-leb 48 d l in
    let v : leb d 57 ≡ true = le-leb d 57 h in
    rw (u, v) (pair_read (d - 48) xs ys lo hi x y)

-- what is read is in the grammar

-- cut at the first blank, if there is one
split_at : (bs : List ℕ) → (0 < length (drop (until 32 bs + 1) bs)) → bs ≡ take (until 32 bs) bs ++ (32 ∷ drop (until 32 bs + 1) bs)
split_at [] h = absurd (omega arith)
split_at (b ∷ bs) h = go (eqb b 32) refl (split_at bs) h
  where
    go : (t : Bool) → eqb b 32 ≡ t → (0 < length (drop (until 32 bs + 1) bs) → bs ≡ take (until 32 bs) bs ++ (32 ∷ drop (until 32 bs + 1) bs)) → 0 < length (drop (cond t 0 (until 32 bs + 1) + 1) (b ∷ bs)) → (b ∷ bs) ≡ take (cond t 0 (until 32 bs + 1)) (b ∷ bs) ++ (32 ∷ drop (cond t 0 (until 32 bs + 1) + 1) (b ∷ bs))
    go true f more q = ap (λ c. c ∷ bs) (eqb-true b 32 f)
    go false f more q =
        let n : drop (until 32 bs + 1 + 1) (b ∷ bs) ≡ drop (until 32 bs + 1) bs = rw (add-one (until 32 bs + 1)) in
        let m : take (until 32 bs + 1) (b ∷ bs) ≡ b ∷ take (until 32 bs) bs = rw (add-one (until 32 bs)) in
        let r = more (subst (λ l. 0 < length l) n q) in
        ap (λ l. b ∷ l) r ∙ ap (λ l. l ++ (32 ∷ drop (until 32 bs + 1) bs)) (sym m) ∙ ap (λ l. take (until 32 bs + 1) (b ∷ bs) ++ (32 ∷ l)) (sym n)

some_number : (bs : List ℕ) (z : ℤ) → number_of bs ≡ Some z → 0 < length bs
some_number [] z e = let n : ◌≡◌ {A = ℕ} 0 1 = cc in absurd (omega arith)
some_number (b ∷ bs) z e = omega arith

both_had : (p : ℕ) (x y : Option ℤ) (a : RangeLine) → with_both p x y ≡ Some a → (lo : ℤ) × (hi : ℤ) × (x ≡ Some lo) × (y ≡ Some hi) × (a ≡ record { parameter = p; range = record { lo = lo; hi = hi } })
both_had p None y a e = let n : ◌≡◌ {A = ℕ} 0 1 = cc in absurd (omega arith)
both_had p (Some lo) None a e = let n : ◌≡◌ {A = ℕ} 0 1 = cc in absurd (omega arith)
both_had p (Some lo) (Some hi) a e = (lo, hi, refl, refl, cc)

pub is_had : (bs : List ℕ) (a : RangeLine) → range_of bs ≡ Some a → RangeIs bs a
is_had [] a e = let n : ◌≡◌ {A = ℕ} 0 1 = cc in absurd (omega arith)
is_had (q ∷ []) a e = let n : ◌≡◌ {A = ℕ} 0 1 = cc in absurd (omega arith)
is_had (q ∷ d ∷ []) a e = let n : ◌≡◌ {A = ℕ} 0 1 = cc in absurd (omega arith)
is_had (q ∷ d ∷ s ∷ bs) a e = go (eqb q 63 && (is_digit d && eqb s 32)) refl e
  where
    go : (t : Bool) → (eqb q 63 && (is_digit d && eqb s 32)) ≡ t → cond t (pair_of (d - 48) bs) None ≡ Some a → RangeIs (q ∷ d ∷ s ∷ bs) a
    go false f g = let n : ◌≡◌ {A = ℕ} 0 1 = cc in absurd (omega arith)
    go true f g =
        let p = and_parts (eqb q 63) (is_digit d && eqb s 32) f in
        let r = and_parts (is_digit d) (eqb s 32) p.1 in
        let w = digit_from d r.0 in
        let h = both_had (d - 48) _ _ a g in
        let cut = split_at bs (some_number _ _ h.3) in
        let made = range d _ _ h.0 h.1 w.0 w.1 (number_had _ _ h.2) (number_had _ _ h.3) in
        let whole : RangeIs (63 ∷ d ∷ 32 ∷ bs) (record { parameter = d - 48; range = record { lo = h.0; hi = h.1 } }) = subst (λ l. RangeIs (63 ∷ d ∷ 32 ∷ l) (record { parameter = d - 48; range = record { lo = h.0; hi = h.1 } })) (sym cut) made in
        let front : RangeIs (q ∷ d ∷ s ∷ bs) (record { parameter = d - 48; range = record { lo = h.0; hi = h.1 } }) = subst (λ c. RangeIs (c ∷ d ∷ s ∷ bs) (record { parameter = d - 48; range = record { lo = h.0; hi = h.1 } })) (sym (eqb-true q 63 p.0)) (subst (λ c. RangeIs (63 ∷ d ∷ c ∷ bs) (record { parameter = d - 48; range = record { lo = h.0; hi = h.1 } })) (sym (eqb-true s 32 r.1)) whole) in
        subst (RangeIs (q ∷ d ∷ s ∷ bs)) (sym h.4) front

pub had : (bs : List ℕ) (o : Option RangeLine) → o ≡ range_of bs → IfSome o (λ a. RangeIs bs a)
had bs None e = tt
had bs (Some a) e = is_had bs a (sym e)
