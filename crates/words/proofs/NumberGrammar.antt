-- A text is read as a number exactly if the grammar has it, and as what the grammar says.
use Rattle.std.proofs.Common.{◌≡◌, ℕ, ◌≤◌, Bool, true, false, cond, ◌&&◌, eqb, leb, List, [], ◌∷◌, length, ℤ, pos, neg_ℤ, IfSome, Some, None, Option, sym, refl, ap, ◌∙◌, subst, arith}
use Rattle.std.proofs.lemmas.Bool.{ne_eqb, eqb-true, and_parts, leb-true, le-leb}
use Rattle.std.specs.Str.Parse.{digits_value}
use Rattle.words.specs.Numbers.{is_digit, all_digits, natural_of, minus, number_of, NumberIs, plain, below}
use Rattle.words.proofs.Cutting.{lacks}

pub digit_from : (b : ℕ) → is_digit b ≡ true → (48 ≤ b) × (b ≤ 57)
digit_from b h = let p = and_parts (leb 48 b) (leb b 57) h in (leb-true 48 b p.0, leb-true b 57 p.1)

-- no number has a blank
digits_lack : (ds : List ℕ) → all_digits ds ≡ true → lacks 32 ds ≡ true
digits_lack [] h = refl
digits_lack (b ∷ ds) h =
    let p = and_parts (is_digit b) (all_digits ds) h in
    let q = digit_from b p.0 in
    let t : eqb b 32 ≡ false = ne_eqb b 32 (λ e. omega arith) in
    rw t (digits_lack ds p.1)

pub number_lacks : (bs : List ℕ) (z : ℤ) → NumberIs bs z → lacks 32 bs ≡ true
number_lacks bs z (plain ds h lo hi) = digits_lack ds h
number_lacks bs z (below ds h lo hi) = digits_lack ds h

-- ---- what the grammar has is read
natural_read : (ds : List ℕ) → all_digits ds ≡ true → 1 ≤ length ds → length ds ≤ 8 → natural_of ds ≡ Some (pos (digits_value 10 ds))
natural_read ds h lo hi =
    let s : leb 1 (length ds) ≡ true = le-leb _ _ lo in
    let t : leb (length ds) 8 ≡ true = le-leb _ _ hi in
    rw (h, s, t)

plain_read : (ds : List ℕ) → all_digits ds ≡ true → 1 ≤ length ds → length ds ≤ 8 → number_of ds ≡ Some (pos (digits_value 10 ds))
plain_read [] h lo hi = absurd (omega arith)
plain_read (b ∷ ds) h lo hi =
    let q = digit_from b (and_parts (is_digit b) (all_digits ds) h).0 in
    let t : eqb b 45 ≡ false = ne_eqb b 45 (λ e. omega arith) in
    rw t (natural_read (b ∷ ds) h lo hi)

pub number_read : (bs : List ℕ) (z : ℤ) → NumberIs bs z → number_of bs ≡ Some z
number_read bs z (plain ds h lo hi) = plain_read ds h lo hi
number_read bs z (below ds h lo hi) = ap minus (natural_read ds h lo hi)

-- ---- what is read is in the grammar
natural_had : (bs : List ℕ) (z : ℤ) → natural_of bs ≡ Some z → (all_digits bs ≡ true) × (1 ≤ length bs) × (length bs ≤ 8) × (z ≡ pos (digits_value 10 bs))
natural_had bs z e = go (all_digits bs && (leb 1 (length bs) && leb (length bs) 8)) refl e
  where
    go : (b : Bool) → (all_digits bs && (leb 1 (length bs) && leb (length bs) 8)) ≡ b → cond b (Some (pos (digits_value 10 bs))) None ≡ Some z → (all_digits bs ≡ true) × (1 ≤ length bs) × (length bs ≤ 8) × (z ≡ pos (digits_value 10 bs))
    go true f g =
        let p = and_parts (all_digits bs) (leb 1 (length bs) && leb (length bs) 8) f in
        let q = and_parts (leb 1 (length bs)) (leb (length bs) 8) p.1 in
        (p.0, leb-true _ _ q.0, leb-true _ _ q.1, cc)
    go false f g = let n : ◌≡◌ {A = ℕ} 0 1 = cc in absurd (omega arith)

minus_had : (o : Option ℤ) (z : ℤ) → minus o ≡ Some z → (y : ℤ) × (o ≡ Some y) × (z ≡ neg_ℤ y)
minus_had None z e = let n : ◌≡◌ {A = ℕ} 0 1 = cc in absurd (omega arith)
minus_had (Some y) z e = (y, refl, cc)

pub number_had : (bs : List ℕ) (z : ℤ) → number_of bs ≡ Some z → NumberIs bs z
number_had [] z e = let n : ◌≡◌ {A = ℕ} 0 1 = cc in absurd (omega arith)
number_had (b ∷ bs) z e = go (eqb b 45) refl e
  where
    go : (t : Bool) → eqb b 45 ≡ t → cond t (minus (natural_of bs)) (natural_of (b ∷ bs)) ≡ Some z → NumberIs (b ∷ bs) z
    go true f g =
        let m = minus_had (natural_of bs) z g in
        let h = natural_had bs m.0 m.1 in
        subst (λ c. NumberIs (c ∷ bs) z) (sym (eqb-true b 45 f)) (subst (NumberIs (45 ∷ bs)) (sym (m.2 ∙ ap neg_ℤ h.3)) (below bs h.0 h.1 h.2))
    go false f g = let h = natural_had (b ∷ bs) z g in subst (NumberIs (b ∷ bs)) (sym h.3) (plain (b ∷ bs) h.0 h.1 h.2)

pub only_number : (bs : List ℕ) (o : Option ℤ) → o ≡ number_of bs → IfSome o (NumberIs bs)
only_number bs None e = tt
only_number bs (Some z) e = number_had bs z (sym e)
