-- What the tests of a token say of it: each test is lawful, and a token that passes is one of those that the test names.
use Rattle.std.proofs.Common.{◌≡◌, ℕ, ◌≤◌, Bool, true, false, cond, ◌&&◌, leb, ◌⊎◌, List, [], ◌∷◌, sym, refl, ap, ◌∙◌, subst, inl, inr, ⊎_elim, arith, Ok, Err, Result}
use Rattle.grammar.specs.Equality.{same_word}
use Rattle.std.proofs.lemmas.Bool.Decides.{nat_tests}
use Rattle.model.specs.declared.line.Axis.{Axis}
use Rattle.model.specs.declared.line.Axis.TheVariants.{X}
use Rattle.model.specs.declared.expression.Rel.{Rel}
use Rattle.model.specs.declared.expression.Rel.TheVariants.{Eq}
use Rattle.grammar.specs.declared.symbol.Keyword.{Keyword}
use Rattle.grammar.specs.declared.symbol.Symbol.{Symbol}
use Rattle.grammar.specs.declared.symbol.Symbol.TheVariants.{Fixed, Digits, Long, Letter, Relation, Unknown}
use Rattle.grammar.specs.declared.refusal.Cause.{Cause}
use Rattle.grammar.specs.declared.refusal.Cause.TheVariants.{Unexpected, Limit}
use Rattle.grammar.proofs.Reading.{Lawful, Why}
use Rattle.grammar.specs.Tests.{same_keyword, choose, upto, mixed, digits, words, only, axis, relation}

-- ---- the outcomes are apart
pub err_ok : {A P : Type 0} {a : A} {c : Cause} → ◌≡◌ {A = Result A Cause} (Err c) (Ok a) → P
err_ok e = absurd (let z : ◌≡◌ {A = ℕ} 0 1 = cc in omega arith)

pub ok_err : {A P : Type 0} {a : A} {c : Cause} → ◌≡◌ {A = Result A Cause} (Ok a) (Err c) → P
ok_err e = err_ok (sym e)

pub same_ok : {A : Type 0} {a b : A} → ◌≡◌ {A = Result A Cause} (Ok a) (Ok b) → a ≡ b
same_ok e = cc

pub same_err : {A : Type 0} {c d : Cause} → ◌≡◌ {A = Result A Cause} (Err c) (Err d) → c ≡ d
same_err e = cc

-- u stands in the table, with a
abbrev pub In : {A : Type 0} → List (Keyword × A) → Keyword → A → Type 0
In [] u a = ⊥
In ((w, b) ∷ ws) u a = ((u ≡ w) × (b ≡ a)) ⊎ In ws u a

pub chosen : {A : Type 0} (ws : List (Keyword × A)) (u : Keyword) (a : A) → choose ws u ≡ Ok a → In ws u a
chosen [] u a e = err_ok e
chosen {A} ((w, b) ∷ ws) u a e =
    elim (same_keyword u w) as (λ v. same_keyword u w ≡ v → cond v (Ok b) (choose ws u) ≡ Ok a → In {A = A} ((w, b) ∷ ws) u a) [
      | true ↦ λ c h. inl (same_word u w c, same_ok h)
      | false ↦ λ c h. inr (chosen ws u a h)
    ] refl e

pub choose_wrong : {A : Type 0} (ws : List (Keyword × A)) (u : Keyword) (c : Cause) → choose ws u ≡ Err c → c ≡ Unexpected
choose_wrong [] u c e = sym (same_err e)
choose_wrong {A} ((w, b) ∷ ws) u c e = elim (same_keyword u w) as (λ v. cond v (Ok b) (choose ws u) ≡ Err c → c ≡ Unexpected) [ true ↦ λ h. ok_err h | false ↦ λ h. choose_wrong ws u c h ] e

-- ---- digits within limits
upto_limit : {A : Type 0} (a : A) (t : Bool) (c : Cause) → cond t (Ok a) (Err Limit) ≡ Err c → c ≡ Limit
upto_limit a true c e = ok_err e
upto_limit a false c e = sym (same_err e)

upto_fits : {A : Type 0} (a b : A) (t : Bool) → ◌≡◌ {A = Result A Cause} (cond t (Ok a) (Err Limit)) (Ok b) → (t ≡ true) × (a ≡ b)
upto_fits a b true e = (refl, same_ok e)
upto_fits a b false e = err_ok e

pub in_range : {A : Type 0} (lo hi n : ℕ) (f : ℕ → A) (a : A) → upto lo hi f n ≡ Ok a → (lo ≤ n) × (n ≤ hi) × (f n ≡ a)
in_range lo hi n f a e = let h = upto_fits (f n) a (leb lo n && leb n hi) e in let t = h.0 in (grind (arith, nat_tests), grind (arith, nat_tests), h.1)

pub upto_in : {A : Type 0} (lo hi n : ℕ) (f : ℕ → A) → lo ≤ n → n ≤ hi → upto lo hi f n ≡ Ok (f n)
upto_in lo hi n f l h = let t : leb lo n && leb n hi ≡ true = grind (arith, nat_tests) in ap (λ b. cond b (Ok (f n)) (Err Limit)) t

-- ---- a fixed token, or digits
module _ {A : Type 0} (ws : List (Keyword × A)) (lo hi : ℕ) (f : ℕ → A) where
  mixed_refused : lo ≤ hi → (t : Symbol) (c : Cause) → mixed ws lo hi f t ≡ Err c → Why (mixed ws lo hi f) t c
  mixed_refused h (Fixed u) c e = inr (choose_wrong ws u c e, λ d n a g. absurd d)
  mixed_refused h (Digits n) c e = inl (upto_limit (f n) (leb lo n && leb n hi) c e, tt, (lo, f lo, upto_in lo hi lo f (omega arith) h))
  mixed_refused h Long c e = inl (sym (same_err e), tt, (lo, f lo, upto_in lo hi lo f (omega arith) h))
  mixed_refused h (Letter a) c e = inr (sym (same_err e), λ d n a g. absurd d)
  mixed_refused h (Relation r) c e = inr (sym (same_err e), λ d n a g. absurd d)
  mixed_refused h Unknown c e = inr (sym (same_err e), λ d n a g. absurd d)

  pub mixed_lawful : lo ≤ hi → Lawful (mixed ws lo hi f)
  mixed_lawful h = record { some = (Digits lo, f lo, upto_in lo hi lo f (omega arith) h); refused = mixed_refused h }

  pub mixed_is : (t : Symbol) (a : A) → mixed ws lo hi f t ≡ Ok a → ((u : Keyword) × (t ≡ Fixed u) × In ws u a) ⊎ ((n : ℕ) × (t ≡ Digits n) × (lo ≤ n) × (n ≤ hi) × (f n ≡ a))
  mixed_is (Fixed u) a e = inl (u, refl, chosen ws u a e)
  mixed_is (Digits n) a e = let r = in_range lo hi n f a e in inr (n, refl, r.0, r.1, r.2)
  mixed_is Long a e = err_ok e
  mixed_is (Letter b) a e = err_ok e
  mixed_is (Relation r) a e = err_ok e
  mixed_is Unknown a e = err_ok e

pub digits_is : (lo hi : ℕ) (t : Symbol) (n : ℕ) → digits lo hi t ≡ Ok n → (t ≡ Digits n) × (lo ≤ n) × (n ≤ hi)
digits_is lo hi t n e = ⊎_elim (λ w. absurd w.2) (λ d. subst (λ k. (t ≡ Digits k) × (lo ≤ k) × (k ≤ hi)) d.4 (d.1, d.2, d.3)) (mixed_is [] lo hi (λ k. k) t n e)

-- ---- a fixed token
module _ {A : Type 0} (ws : List (Keyword × A)) where
  pub words_wrong : (t : Symbol) (c : Cause) → words ws t ≡ Err c → c ≡ Unexpected
  words_wrong (Fixed u) c e = choose_wrong ws u c e
  words_wrong (Digits n) c e = sym (same_err e)
  words_wrong Long c e = sym (same_err e)
  words_wrong (Letter a) c e = sym (same_err e)
  words_wrong (Relation r) c e = sym (same_err e)
  words_wrong Unknown c e = sym (same_err e)

  pub words_lawful : (u : Keyword) (a : A) → choose ws u ≡ Ok a → Lawful (words ws)
  words_lawful u a s = record { some = (Fixed u, a, s); refused = λ t c e. inr (words_wrong t c e, λ d n b g. err_ok g) }

  pub words_is : (t : Symbol) (a : A) → words ws t ≡ Ok a → (u : Keyword) × (t ≡ Fixed u) × In ws u a
  words_is (Fixed u) a e = (u, refl, chosen ws u a e)
  words_is (Digits n) a e = err_ok e
  words_is Long a e = err_ok e
  words_is (Letter b) a e = err_ok e
  words_is (Relation r) a e = err_ok e
  words_is Unknown a e = err_ok e

pub only_is : (w : Keyword) (t : Symbol) (a : Keyword) → only w t ≡ Ok a → t ≡ Fixed w
only_is w t a e = let d = words_is ((w, w) ∷ []) t a e in d.1 ∙ ap Fixed (⊎_elim (λ i. i.0) (λ x. absurd x) d.2)

-- ---- an axis, a relation
pub axis_wrong : (t : Symbol) (c : Cause) → axis t ≡ Err c → c ≡ Unexpected
axis_wrong (Fixed u) c e = sym (same_err e)
axis_wrong (Digits n) c e = sym (same_err e)
axis_wrong Long c e = sym (same_err e)
axis_wrong (Letter a) c e = ok_err e
axis_wrong (Relation r) c e = sym (same_err e)
axis_wrong Unknown c e = sym (same_err e)

pub axis_lawful : Lawful axis
axis_lawful = record { some = (Letter X, X, refl); refused = λ t c e. inr (axis_wrong t c e, λ d n b g. err_ok g) }

pub axis_is : (t : Symbol) (a : Axis) → axis t ≡ Ok a → t ≡ Letter a
axis_is (Fixed u) a e = err_ok e
axis_is (Digits n) a e = err_ok e
axis_is Long a e = err_ok e
axis_is (Letter b) a e = ap Letter (same_ok e)
axis_is (Relation r) a e = err_ok e
axis_is Unknown a e = err_ok e

relation_wrong : (t : Symbol) (c : Cause) → relation t ≡ Err c → c ≡ Unexpected
relation_wrong (Fixed u) c e = sym (same_err e)
relation_wrong (Digits n) c e = sym (same_err e)
relation_wrong Long c e = sym (same_err e)
relation_wrong (Letter a) c e = sym (same_err e)
relation_wrong (Relation r) c e = ok_err e
relation_wrong Unknown c e = sym (same_err e)

pub relation_lawful : Lawful relation
relation_lawful = record { some = (Relation Eq, Eq, refl); refused = λ t c e. inr (relation_wrong t c e, λ d n b g. err_ok g) }

pub relation_is : (t : Symbol) (r : Rel) → relation t ≡ Ok r → t ≡ Relation r
relation_is (Fixed u) r e = err_ok e
relation_is (Digits n) r e = err_ok e
relation_is Long r e = err_ok e
relation_is (Letter b) r e = err_ok e
relation_is (Relation s) r e = ap Relation (same_ok e)
relation_is Unknown r e = err_ok e
