-- Small facts of rows and of what was read.
use Rattle.std.proofs.Common.{◌≡◌, ℕ, ◌⊎◌, List, [], ◌∷◌, ◌++◌, refl, inl, inr, ⊎_elim, arith}
use Rattle.grammar.specs.declared.symbol.Symbol.{Symbol}
use Rattle.grammar.specs.declared.refusal.Cause.{Cause}
use Rattle.grammar.specs.Prefixes.{Lang, Refused, Stuck}
use Rattle.grammar.specs.Combinators.{Parsed, got, bad}

-- where a row is cut
pub cuts : (us vs xs ys : List Symbol) (t : Symbol) → us ++ t ∷ vs ≡ xs ++ ys → ((ws : List Symbol) × (xs ≡ us ++ t ∷ ws)) ⊎ ((zs : List Symbol) × (us ≡ xs ++ zs))
cuts us vs [] ys t e = inr (us, refl)
cuts [] vs (x ∷ xs) ys t e = inl (xs, cc)
cuts (u ∷ us) vs (x ∷ xs) ys t e =
    let h : u ≡ x = cc in
    let r : us ++ t ∷ vs ≡ xs ++ ys = cc in
    ⊎_elim (λ w. inl (w.0, let f = w.1 in cc)) (λ z. inr (z.0, let f = z.1 in cc)) (cuts us vs xs ys t r)

pub never : {A : Type 0} {P : Type 0} {a : A} {r s : List Symbol} {k : Cause} (v : Parsed A) → v ≡ got a r → v ≡ bad k s → P
never v p q = absurd (let z : ◌≡◌ {A = ℕ} 0 1 = cc in omega arith)

pub same_a : {A : Type 0} {a b : A} {r s : List Symbol} (v : Parsed A) → v ≡ got a r → v ≡ got b s → a ≡ b
same_a v p q = cc

pub same_r : {A : Type 0} {a b : A} {r s : List Symbol} (v : Parsed A) → v ≡ got a r → v ≡ got b s → r ≡ s
same_r v p q = cc

pub rebad : {A B : Type 0} {j k : Cause} {r s : List Symbol} → ◌≡◌ {A = Parsed B} (bad j r) (bad k s) → ◌≡◌ {A = Parsed A} (bad j r) (bad k s)
rebad {A} {B} {j} {k} {r} {s} h = let x : j ≡ k = cc in let y : r ≡ s = cc in cc

pub empty_cons : {P : Type 0} {t : Symbol} {ts : List Symbol} → [] ≡ t ∷ ts → P
empty_cons e = absurd (let z : ◌≡◌ {A = ℕ} 0 1 = cc in omega arith)

-- a refusal speaks only of what may follow, of whether the row may end, and of what is named
pub refused_same : (k : Cause) (rest : List Symbol) (F G : Symbol → Type 0) (E D : Type 0) (N M : Symbol → Type 0) → ((t : Symbol) → F t → G t) → ((t : Symbol) → G t → F t) → (D → E) → ((t : Symbol) → N t → M t) → ((t : Symbol) → M t → N t) → Refused k rest F E N → Refused k rest G D M
refused_same k [] F G E D N M fg gf de nm mn h = (h.0, λ d. h.1 (de d))
refused_same k (t ∷ r) F G E D N M fg gf de nm mn h = (
  λ g. h.0 (gf t g),
  ⊎_elim (λ a. inl (a.0, nm t a.1))
      (⊎_elim (λ o. inr (inl (o.0, (o.1.0, (o.1.1.0, fg _ o.1.1.1))))) (λ n. inr (inr (n.0, λ w. n.1 (w.0, (w.1.0, gf _ w.1.1)), λ m. n.2 (mn t m)))))
      h.1,
)

-- the same, for languages with the same rows from us on
pub stuck_same : {A : Type 0} (L M : Lang A) (N K : List Symbol → Symbol → Type 0) (ts rest : List Symbol) (k : Cause) → ((us : List Symbol) (a : A) → L us a → M us a) → ((us : List Symbol) (a : A) → M us a → L us a) → ((us : List Symbol) (t : Symbol) → N us t → K us t) → ((us : List Symbol) (t : Symbol) → K us t → N us t) → Stuck L N ts k rest → Stuck M K ts k rest
stuck_same L M N K ts rest k to from nk kn s = (
  s.0,
  s.1,
  (s.2.0, s.2.1, to _ _ s.2.2),
  refused_same k rest _ _ _ _ _ _ (λ t w. (w.0, w.1, to _ _ w.2)) (λ t w. (w.0, w.1, from _ _ w.2)) (λ w. (w.0, from _ _ w.1)) (nk s.0) (kn s.0) s.3,
)
