-- Parsers of nothing and of one token, and languages with the same rows.
use Rattle.std.proofs.Common.{◌≡◌, ℕ, List, [], ◌∷◌, ◌++◌, refl, ap, ◌∙◌, subst, inl, inr, ⊎_elim, arith, Ok, Err, Result}
use Rattle.grammar.specs.declared.symbol.Symbol.{Symbol}
use Rattle.grammar.specs.Prefixes.{Lang, Follows, Viable, Stuck, nothing}
use Rattle.grammar.specs.declared.refusal.Cause.{Cause}
use Rattle.grammar.specs.declared.refusal.Cause.TheVariants.{Unexpected}
use Rattle.grammar.specs.Combinators.{got, bad, Parser, tested, expect, pure}
use Rattle.grammar.proofs.Reading.{Reads, oneL, pure_l, Lawful}
use Rattle.grammar.proofs.Cuts.{stuck_same}

pub reads_same : {A : Type 0} (L M : Lang A) (p : Parser A) → ((ts : List Symbol) (a : A) → L ts a → M ts a) → ((ts : List Symbol) (a : A) → M ts a → L ts a) → Reads L p → Reads M p
reads_same L M p to from r = record {
  whole = λ us rest a m. r.whole us rest a (from us a m);
  sound = λ ts rest a e. let s = r.sound ts rest a e in (s.0, s.1, to _ _ s.2);
  stuck = λ ts rest k e. stuck_same L M nothing nothing ts rest k to from (λ us t n. n) (λ us t n. n) (r.stuck ts rest k e);
  some = let s = r.some in (s.0, s.1, to _ _ s.2);
}

pub reads_pure : {A : Type 0} (a : A) → Reads (pure_l a) (pure a)
reads_pure a = record {
  whole = λ us rest b h. ap (λ l. got a (l ++ rest)) h.0 ∙ ap (λ c. got c rest) h.1;
  sound = λ ts rest b e. let r : ts ≡ rest = cc in let s : a ≡ b = cc in ([], r, (refl, s));
  stuck = λ ts rest k e. absurd (let z : ◌≡◌ {A = ℕ} 0 1 = cc in omega arith);
  some = ([], a, (refl, refl));
}

module _ {A : Type 0} (f : Symbol → Result A Cause) (lawful : Lawful f) where
  at_one : (t u : Symbol) (us : List Symbol) → [] ++ t ∷ us ≡ u ∷ [] → t ≡ u
  at_one t u us e = cc

  -- what may follow at the start
  follows : (t : Symbol) → Follows (oneL f) [] t → (a : A) × (f t ≡ Ok a)
  follows t (vs, a, (u, e, h)) = (a, ap f (at_one t u vs e) ∙ h)

  may : (t : Symbol) (a : A) → f t ≡ Ok a → Follows (oneL f) [] t
  may t a h = ([], a, (t, refl, h))

  clash : {v : Result A Cause} {c : Cause} (a : A) → v ≡ Ok a → v ≡ Err c → ⊥
  clash a p q = let z : ◌≡◌ {A = ℕ} 0 1 = cc in omega arith

  start : Viable (oneL f) []
  start = let s = lawful.some in (s.0 ∷ [], s.1, (s.0, refl, s.2))

  stuck_at : (t : Symbol) (ts rest : List Symbol) (k : Cause) (v : Result A Cause) → f t ≡ v → tested v t ts ≡ bad k rest → Stuck (oneL f) nothing (t ∷ ts) k rest
  stuck_at t ts rest k (Ok a) e h = absurd (let z : ◌≡◌ {A = ℕ} 0 1 = cc in omega arith)
  stuck_at t ts rest k (Err c) e h =
      let r : t ∷ ts ≡ rest = cc in
      let n : k ≡ c = cc in
      let no = λ (w : Follows (oneL f) [] t). clash (follows t w).0 (follows t w).1 e in
      subst (λ x. Stuck (oneL f) nothing (t ∷ ts) k x) r
      (⊎_elim
      (λ l. ([], refl, start, (no, inr (inl (n ∙ l.0, (l.1, (l.2.0, may _ l.2.1 l.2.2)))))))
      (λ l. ([], refl, start, (no, inr (inr (n ∙ l.0, λ w. l.1 w.0 w.1.0 (follows _ w.1.1).0 (follows _ w.1.1).1, λ x. x)))))
      (lawful.refused t c e))

  sound_at : (t : Symbol) (ts rest : List Symbol) (a : A) (v : Result A Cause) → f t ≡ v → tested v t ts ≡ got a rest → (us : List Symbol) × (t ∷ ts ≡ us ++ rest) × oneL f us a
  sound_at t ts rest a (Ok b) e h =
      let r : ts ≡ rest = cc in
      let s : b ≡ a = cc in
      (t ∷ [], ap (λ l. t ∷ l) r, (t, refl, e ∙ ap Ok s))
  sound_at t ts rest a (Err c) e h = absurd (let z : ◌≡◌ {A = ℕ} 0 1 = cc in omega arith)

  sound : (ts rest : List Symbol) (a : A) → expect f ts ≡ got a rest → (us : List Symbol) × (ts ≡ us ++ rest) × oneL f us a
  sound [] rest a h = absurd (let z : ◌≡◌ {A = ℕ} 0 1 = cc in omega arith)
  sound (t ∷ ts) rest a h = sound_at t ts rest a (f t) refl h

  stuck : (ts rest : List Symbol) (k : Cause) → expect f ts ≡ bad k rest → Stuck (oneL f) nothing ts k rest
  stuck [] rest k h =
      let r : [] ≡ rest = cc in
      let n : k ≡ Unexpected = cc in
      subst (λ x. Stuck (oneL f) nothing [] k x) r ([], refl, start, (n, λ w. let e = w.1.1 in let z : ◌≡◌ {A = ℕ} 0 1 = cc in omega arith))
  stuck (t ∷ ts) rest k h = stuck_at t ts rest k (f t) refl h

  pub reads_one : Reads (oneL f) (expect f)
  reads_one = record {
    whole = λ us rest a h. ap (λ l. expect f (l ++ rest)) h.1 ∙ ap (λ v. tested v h.0 rest) h.2;
    sound = sound;
    stuck = stuck;
    some = let s = lawful.some in (s.0 ∷ [], s.1, (s.0, refl, s.2));
  }
