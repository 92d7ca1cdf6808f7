-- The end of a line, and a line that may end or go on.
use Rattle.std.proofs.Common.{◌≡◌, ℕ, Bool, true, false, cond, List, [], ◌∷◌, sym, refl, ap, ◌∙◌, subst, inl, inr, true≢false, arith, Ok, Err, Result}
use Rattle.model.specs.declared.line.Line.{Line}
use Rattle.grammar.specs.declared.symbol.Symbol.{Symbol}
use Rattle.grammar.specs.declared.symbol.Symbol.TheVariants.{Digits}
use Rattle.grammar.specs.Prefixes.{Lang, Follows, Viable, Stuck}
use Rattle.grammar.specs.Prefixes.{Again}
use Rattle.grammar.specs.Axes.{names}
use Rattle.grammar.specs.declared.refusal.Cause.{Cause}
use Rattle.grammar.specs.declared.refusal.Cause.TheVariants.{Unexpected, Twice}
use Rattle.grammar.specs.Combinators.{got, bad, Parser, after, tested, ends, or_more}
use Rattle.grammar.proofs.Reading.{pure_l, or_moreL, Lines}
use Rattle.grammar.proofs.Cuts.{never, refused_same, empty_cons}

pub true_false : {P : Type 0} {v : Bool} → v ≡ true → v ≡ false → P
true_false p q = absurd (true≢false (sym p ∙ q))

clash : {A P : Type 0} {v : Result A Cause} {a : A} {c : Cause} → v ≡ Ok a → v ≡ Err c → P
clash p q = absurd (let z : ◌≡◌ {A = ℕ} 0 1 = cc in omega arith)

-- ---- the end of a line that names nothing
module _ (l : Line) (none : (t : Symbol) → names l t ≡ false) where
  end_accepts : (ts : List Symbol) (b : Line) → pure_l l ts b → ends l ts ≡ got b []
  end_accepts [] b h = ap (λ c. got c []) h.1
  end_accepts (t ∷ ts) b h = empty_cons (sym h.0)

  end_lawful : (ts rest : List Symbol) (b : Line) → ends l ts ≡ got b rest → (rest ≡ []) × pure_l l ts b
  end_lawful [] rest b e = let r : rest ≡ [] = cc in let s : l ≡ b = cc in (r, (refl, s))
  end_lawful (t ∷ ts) rest b e = never _ e refl

  end_refuses : (ts rest : List Symbol) (k : Cause) → ends l ts ≡ bad k rest → Stuck (pure_l l) (Again (pure_l l)) ts k rest
  end_refuses [] rest k e = never _ refl e
  end_refuses (t ∷ ts) rest k e =
      let n : k ≡ Unexpected = cc in
      let same : t ∷ ts ≡ rest = cc in
      subst (λ x. Stuck (pure_l l) (Again (pure_l l)) (t ∷ ts) k x) same
      ([], refl, ([], l, (refl, refl)), (λ w. empty_cons (sym w.2.0), inr (inr (n, λ w. empty_cons (sym w.1.1.2.0), λ w. true_false w.2 (ap (λ m. names m t) (sym w.1.1) ∙ none t)))))

  pub lines_end : Lines (pure_l l) (ends l)
  lines_end = record { accepts = end_accepts; lawful = end_lawful; refuses = end_refuses; some = ([], l, (refl, refl)) }

-- ---- the end of the line l, or more; no digits pass the test
module _ {A : Type 0} (l : Line) (f : Symbol → Result A Cause) (Q : A → Lang Line) (q : A → Parser Line) (rq : (t : Symbol) (a : A) → names l t ≡ false → f t ≡ Ok a → Lines (Q a) (q a)) (wrong-only : (t : Symbol) (c : Cause) → f t ≡ Err c → c ≡ Unexpected) (no-digits : (n : ℕ) (a : A) → f (Digits n) ≡ Ok a → ⊥) where
  -- a row of the language that begins with t goes on with a row of Q
  other : (t : Symbol) (zs : List Symbol) (a : A) (b : Line) → f t ≡ Ok a → or_moreL l f Q (t ∷ zs) b → Q a zs b
  other t zs a b h (inl e) = empty_cons (sym e.0)
  other t zs a b h (inr (u, vs, c, e, n, g, y)) =
      let same-t : t ≡ u = cc in
      let same-zs : vs ≡ zs = cc in
      let g' : f t ≡ Ok c = ap f same-t ∙ g in
      let same-c : c ≡ a = cc in
      subst (λ d. Q d zs b) same-c (subst (λ x. Q c x b) same-zs y)

  one : (t : Symbol) (zs : List Symbol) (a : A) (b : Line) → names l t ≡ false → f t ≡ Ok a → Q a zs b → or_moreL l f Q (t ∷ zs) b
  one t zs a b n h y = inr (t, zs, a, refl, n, h, y)

  -- a token that may stand first
  first : (t : Symbol) → Follows (or_moreL l f Q) [] t → (a : A) × (names l t ≡ false) × (f t ≡ Ok a)
  first t (vs, b, inl e) = empty_cons (sym e.0)
  first t (vs, b, inr (u, ws, a, e, n, h, y)) = let same-t : u ≡ t = cc in (a, ap (names l) (sym same-t) ∙ n, ap f (sym same-t) ∙ h)

  named : (t : Symbol) → Again (or_moreL l f Q) [] t → names l t ≡ true
  named t (b, inl e, n) = ap (λ m. names m t) e.1 ∙ n
  named t (b, inr (u, ws, a, e, m, h, y), n) = empty_cons e

  start : Viable (or_moreL l f Q) []
  start = ([], l, inl (refl, refl))

  accepts : (ts : List Symbol) (b : Line) → or_moreL l f Q ts b → or_more l f q ts ≡ got b []
  accepts [] b (inl e) = ap (λ c. got c []) e.1
  accepts [] b (inr (u, vs, a, e, n, h, y)) = empty_cons e
  accepts (t ∷ ts) b (inl e) = empty_cons (sym e.0)
  accepts (t ∷ ts) b (inr (u, vs, a, e, n, h, y)) =
      ap (or_more l f q) e ∙ ap (λ c. cond c (bad Twice (u ∷ vs)) (after (tested (f u) u vs) q)) n ∙ ap (λ c. after (tested c u vs) q) h ∙ (rq u a n h).accepts vs b y

  lawful_at : (t : Symbol) (ts rest : List Symbol) (b : Line) (c : Bool) (v : Result A Cause) → names l t ≡ c → f t ≡ v → cond c (bad Twice (t ∷ ts)) (after (tested v t ts) q) ≡ got b rest → (rest ≡ []) × or_moreL l f Q (t ∷ ts) b
  lawful_at t ts rest b true v n h e = never _ e refl
  lawful_at t ts rest b false (Ok a) n h e = let s = (rq t a n h).lawful ts rest b e in (s.0, one t ts a b n h s.1)
  lawful_at t ts rest b false (Err c) n h e = never _ e refl

  lawful : (ts rest : List Symbol) (b : Line) → or_more l f q ts ≡ got b rest → (rest ≡ []) × or_moreL l f Q ts b
  lawful [] rest b e = let r : rest ≡ [] = cc in let s : l ≡ b = cc in (r, inl (refl, s))
  lawful (t ∷ ts) rest b e = lawful_at t ts rest b (names l t) (f t) refl refl e

  refuses_at : (t : Symbol) (ts rest : List Symbol) (k : Cause) (c : Bool) (v : Result A Cause) → names l t ≡ c → f t ≡ v → cond c (bad Twice (t ∷ ts)) (after (tested v t ts) q) ≡ bad k rest → Stuck (or_moreL l f Q) (Again (or_moreL l f Q)) (t ∷ ts) k rest
  refuses_at t ts rest k true v n h e =
      let j : k ≡ Twice = cc in
      let same : t ∷ ts ≡ rest = cc in
      subst (λ x. Stuck (or_moreL l f Q) (Again (or_moreL l f Q)) (t ∷ ts) k x) same
      ([], refl, start, (λ w. true_false n (first t w).1, inl (j, (l, inl (refl, refl), n))))
  refuses_at t ts rest k false (Ok a) n h e =
      let s = (rq t a n h).refuses ts rest k e in (
        t ∷ s.0,
        ap (λ x. t ∷ x) s.1,
        (s.2.0, s.2.1, one t _ a _ n h s.2.2),
        refused_same k rest _ _ _ _ _ _
            (λ u w. (w.0, w.1, one t _ a _ n h w.2))
            (λ u w. (w.0, w.1, other t _ a _ h w.2))
            (λ w. (w.0, other t _ a _ h w.1))
            (λ u w. (w.0, one t _ a _ n h w.1, w.2))
            (λ u w. (w.0, other t _ a _ h w.1, w.2))
            s.3,
      )
  refuses_at t ts rest k false (Err c) n h e =
      let i : k ≡ c = cc in
      let j : k ≡ Unexpected = i ∙ wrong-only t c h in
      let same : t ∷ ts ≡ rest = cc in
      subst (λ x. Stuck (or_moreL l f Q) (Again (or_moreL l f Q)) (t ∷ ts) k x) same
      ([], refl, start, (λ w. clash (first t w).2 h, inr (inr (j, λ w. let d = first _ w.1.1 in no-digits _ d.0 d.2, λ w. true_false (named t w) n))))

  refuses : (ts rest : List Symbol) (k : Cause) → or_more l f q ts ≡ bad k rest → Stuck (or_moreL l f Q) (Again (or_moreL l f Q)) ts k rest
  refuses [] rest k e = never _ refl e
  refuses (t ∷ ts) rest k e = refuses_at t ts rest k (names l t) (f t) refl refl e

  pub lines_more : Lines (or_moreL l f Q) (or_more l f q)
  lines_more = record { accepts = accepts; lawful = lawful; refuses = refuses; some = ([], l, inl (refl, refl)) }
