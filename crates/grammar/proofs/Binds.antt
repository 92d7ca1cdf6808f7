-- One parser after another reads one language after another, be the second one that reads to the end of the line or not.
use Rattle.std.proofs.Common.{◌≡◌, List, [], ◌∷◌, ◌++◌, sym, refl, ap, ◌∙◌, subst, ⊎_elim, append_assoc}
use Rattle.model.specs.declared.line.Line.{Line}
use Rattle.grammar.specs.declared.symbol.Symbol.{Symbol}
use Rattle.grammar.specs.declared.refusal.Cause.{Cause}
use Rattle.grammar.specs.Prefixes.{Lang, Follows, Viable, Ends, Refused, Stuck, nothing, Again}
use Rattle.grammar.specs.Combinators.{got, bad, Parser, after, bind}
use Rattle.grammar.proofs.Reading.{bindL, Reads, Lines}
use Rattle.grammar.proofs.Cuts.{cuts, never, same_a, same_r, rebad, refused_same, stuck_same}

module _ {A B : Type 0} (P : Lang A) (Q : A → Lang B) (p : Parser A) (rp : Reads P p) (more : (a : A) → (us : List Symbol) × (b : B) × Q a us b) where
  some : (us : List Symbol) × (b : B) × bindL P Q us b
  some =
      let x = rp.some in
      let y = more x.1 in
      (x.0 ++ y.0, y.1, (x.0, y.0, x.1, refl, x.2, y.2))

  -- stuck in the first part
  module _ (us rest : List Symbol) (k : Cause) (ts : List Symbol) (is : ts ≡ us ++ rest) (e : p ts ≡ bad k rest) where
    -- so no word of the first part ends within us
    within : (xs zs : List Symbol) (a : A) → us ≡ xs ++ zs → P xs a → ⊥
    within xs zs a u x = never (p ts) (ap p (is ∙ ap (λ l. l ++ rest) u ∙ append_assoc xs zs rest) ∙ rp.whole xs (zs ++ rest) a x) e

    back : (t : Symbol) → Follows (bindL P Q) us t → Follows P us t
    back t (vs, b, (xs, ys, a, f, x, y)) =
        ⊎_elim (λ w. (w.0, a, subst (λ l. P l a) w.1 x)) (λ z. absurd (within xs z.0 a z.1 x)) (cuts us vs xs ys t f)

    on : (t : Symbol) → Follows P us t → Follows (bindL P Q) us t
    on t (vs, a, x) =
        let y = more a in
        (vs ++ y.0, y.1, (us ++ t ∷ vs, y.0, a, sym (append_assoc us (t ∷ vs) y.0), x, y.2))

    ends : Ends (bindL P Q) us → Ends P us
    ends (b, (xs, ys, a, f, x, y)) = absurd (within xs ys a f x)

    -- N says what a row has named, which us has not
    first : (N : List Symbol → Symbol → Type 0) → ((t : Symbol) → N us t → ⊥) → Viable P us → Refused k rest (Follows P us) (Ends P us) (nothing us) → Stuck (bindL P Q) N ts k rest
    first N none (vs, a, x) r =
        let y = more a in
        (us, is, (vs ++ y.0, y.1, (us ++ vs, y.0, a, sym (append_assoc us vs y.0), x, y.2)), refused_same k rest _ _ _ _ _ _ on back ends (λ t n. absurd n) none r)

  -- stuck in the second part, ys after the word xs of the first
  module _ (xs ys : List Symbol) (a : A) (x : P xs a) where
    other : (zs : List Symbol) (b : B) → bindL P Q (xs ++ zs) b → Q a zs b
    other zs b (xs', ys', a', f, x', y') =
        let here : p (xs ++ zs) ≡ got a zs = rp.whole xs zs a x in
        let there : p (xs ++ zs) ≡ got a' ys' = ap p f ∙ rp.whole xs' ys' a' x' in
        subst (λ c. Q c zs b) (same_a _ there here) (subst (λ l. Q a' l b) (same_r _ there here) y')

    one : (zs : List Symbol) (b : B) → Q a zs b → bindL P Q (xs ++ zs) b
    one zs b y = (xs, zs, a, refl, x, y)

    -- M says what a row of the second part has named
    second : (N M : List Symbol → Symbol → Type 0) → ((t : Symbol) → M ys t → N (xs ++ ys) t) → ((t : Symbol) → N (xs ++ ys) t → M ys t) → (ts rest : List Symbol) (k : Cause) → ts ≡ xs ++ (ys ++ rest) →
        Viable (Q a) ys → Refused k rest (Follows (Q a) ys) (Ends (Q a) ys) (M ys) → Stuck (bindL P Q) N ts k rest
    second N M to from ts rest k is (vs, b, y) r = (
      xs ++ ys,
      is ∙ sym (append_assoc xs ys rest),
      (vs, b, subst (λ l. bindL P Q l b) (sym (append_assoc xs ys vs)) (one (ys ++ vs) b y)),
      refused_same k rest _ _ _ _ _ _
          (λ t w. (w.0, w.1, subst (λ l. bindL P Q l w.1) (sym (append_assoc xs ys (t ∷ w.0))) (one (ys ++ t ∷ w.0) w.1 w.2)))
          (λ t w. (w.0, w.1, other (ys ++ t ∷ w.0) w.1 (subst (λ l. bindL P Q l w.1) (append_assoc xs ys (t ∷ w.0)) w.2)))
          (λ w. (w.0, other ys w.0 w.1))
          to from
          r,
    )

-- ---- a parser of a part
module _ {A B : Type 0} (P : Lang A) (Q : A → Lang B) (p : Parser A) (q : A → Parser B) (rp : Reads P p) (rq : (a : A) → Reads (Q a) (q a)) where
  whole : (us rest : List Symbol) (b : B) → bindL P Q us b → bind p q (us ++ rest) ≡ got b rest
  whole us rest b (xs, ys, a, e, x, y) =
      ap (λ l. after (p (l ++ rest)) q) e ∙ ap (λ l. after (p l) q) (append_assoc xs ys rest) ∙ ap (λ v. after v q) (rp.whole xs (ys ++ rest) a x) ∙ (rq a).whole ys rest b y

  sound : (ts rest : List Symbol) (b : B) → bind p q ts ≡ got b rest → (us : List Symbol) × (ts ≡ us ++ rest) × bindL P Q us b
  sound ts rest b =
      elim (p ts) as (λ v. p ts ≡ v → after v q ≡ got b rest → (us : List Symbol) × (ts ≡ us ++ rest) × bindL P Q us b) [
        | got a r ↦ λ e h.
            let x = rp.sound ts r a e in
            let y = (rq a).sound r rest b h in
            (x.0 ++ y.0, x.1 ∙ ap (λ l. x.0 ++ l) y.1 ∙ sym (append_assoc x.0 y.0 rest), (x.0, y.0, a, refl, x.2, y.2))
        | bad k r ↦ λ e h. never _ h refl
      ] refl

  stuck : (ts rest : List Symbol) (k : Cause) → bind p q ts ≡ bad k rest → Stuck (bindL P Q) nothing ts k rest
  stuck ts rest k =
      elim (p ts) as (λ v. p ts ≡ v → after v q ≡ bad k rest → Stuck (bindL P Q) nothing ts k rest) [
        | got a r ↦ λ e h.
            let x = rp.sound ts r a e in
            let y = (rq a).stuck r rest k h in
            second P Q p rp (λ a. (rq a).some) x.0 y.0 a x.2 nothing nothing (λ t n. n) (λ t n. n) ts rest k (x.1 ∙ ap (λ l. x.0 ++ l) y.1) y.2 y.3
        | bad j r ↦ λ e h.
            let f : p ts ≡ bad k rest = e ∙ rebad h in
            let y = rp.stuck ts rest k f in
            first P Q p rp (λ a. (rq a).some) y.0 rest k ts y.1 f nothing (λ t n. n) y.2 y.3
      ] refl

  pub reads_bind : Reads (bindL P Q) (bind p q)
  reads_bind = record { whole = whole; sound = sound; stuck = stuck; some = some P Q p rp (λ a. (rq a).some) }

-- ---- a parser that reads to the end of the line
module _ {A : Type 0} (P : Lang A) (Q : A → Lang Line) (p : Parser A) (q : A → Parser Line) (rp : Reads P p) (rq : (a : A) → Lines (Q a) (q a)) where
  accepts : (ts : List Symbol) (b : Line) → bindL P Q ts b → bind p q ts ≡ got b []
  accepts ts b (xs, ys, a, e, x, y) = ap (λ l. after (p l) q) e ∙ ap (λ v. after v q) (rp.whole xs ys a x) ∙ (rq a).accepts ys b y

  lawful : (ts rest : List Symbol) (b : Line) → bind p q ts ≡ got b rest → (rest ≡ []) × bindL P Q ts b
  lawful ts rest b =
      elim (p ts) as (λ v. p ts ≡ v → after v q ≡ got b rest → (rest ≡ []) × bindL P Q ts b) [
        | got a r ↦ λ e h.
            let x = rp.sound ts r a e in
            let y = (rq a).lawful r rest b h in
            (y.0, (x.0, r, a, x.1, x.2, y.1))
        | bad k r ↦ λ e h. never _ h refl
      ] refl

  refuses : (ts rest : List Symbol) (k : Cause) → bind p q ts ≡ bad k rest → Stuck (bindL P Q) (Again (bindL P Q)) ts k rest
  refuses ts rest k =
      elim (p ts) as (λ v. p ts ≡ v → after v q ≡ bad k rest → Stuck (bindL P Q) (Again (bindL P Q)) ts k rest) [
        | got a r ↦ λ e h.
            let x = rp.sound ts r a e in
            let y = (rq a).refuses r rest k h in
            second P Q p rp (λ a. (rq a).some) x.0 y.0 a x.2 (Again (bindL P Q)) (Again (Q a))
            (λ t w. (w.0, one P Q p rp (λ a. (rq a).some) x.0 y.0 a x.2 y.0 w.0 w.1, w.2)) (λ t w. (w.0, other P Q p rp (λ a. (rq a).some) x.0 y.0 a x.2 y.0 w.0 w.1, w.2))
            ts rest k (x.1 ∙ ap (λ l. x.0 ++ l) y.1) y.2 y.3
        | bad j r ↦ λ e h.
            let f : p ts ≡ bad k rest = e ∙ rebad h in
            let y = rp.stuck ts rest k f in
            -- what is stuck in its first part is no whole line
            first P Q p rp (λ a. (rq a).some) y.0 rest k ts y.1 f (Again (bindL P Q)) (λ t n. let w = n.1 in within P Q p rp (λ a. (rq a).some) y.0 rest k ts y.1 f w.0 w.1 w.2 w.3 w.4) y.2 y.3
      ] refl

  pub lines_bind : Lines (bindL P Q) (bind p q)
  lines_bind = record { accepts = accepts; lawful = lawful; refuses = refuses; some = some P Q p rp (λ a. (rq a).some) }

pub lines_same : (L M : Lang Line) (p : Parser Line) → ((ts : List Symbol) (l : Line) → L ts l → M ts l) → ((ts : List Symbol) (l : Line) → M ts l → L ts l) → Lines L p → Lines M p
lines_same L M p to from r = record {
  accepts = λ ts l m. r.accepts ts l (from ts l m);
  lawful = λ ts rest l e. let s = r.lawful ts rest l e in (s.0, to _ _ s.1);
  refuses = λ ts rest k e. stuck_same L M (Again L) (Again M) ts rest k to from (λ us t n. (n.0, to _ _ n.1, n.2)) (λ us t n. (n.0, from _ _ n.1, n.2)) (r.refuses ts rest k e);
  some = let s = r.some in (s.0, s.1, to _ _ s.2);
}
