-- The laws hold of it over any number of registers.
use Rattle.std.specs.Prelude.{◌≡◌, ℕ, ◌<◌, ◌≤◌, true, false, ◌⊎◌, ℤ, ◌≤ℤ◌, int_le, refl}
use Rattle.std.proofs.Common.{inl, inr, arith}
use Rattle.std.proofs.lemmas.Int.{ints}
use Rattle.std.proofs.lemmas.Bool.{cond_both}
use Rattle.model.specs.declared.range.Range.{Range}
use Rattle.model.specs.Environments.{Env, Lies}
use Rattle.domain.specs.Lattice.{Lawful, Inside, empty}
use Rattle.model.proofs.Numbers.{true_le, le_true}
use Rattle.fickle.specs.declared.fickle.Fickle.{Fickle}
use Rattle.fickle.specs.declared.fickle.Fickle.TheVariants.{None, Fresh, Stale}
use Rattle.fickle.specs.Fickle.{means, rank, turned, freshened, join, widen, within, whole_or_empty, fickle}

turned_means : (s : Fickle) (e : Env) → means s e → means (turned s) e
turned_means None e m = m
turned_means Fresh e m = m
turned_means Stale e m = m

freshened_means : (s : Fickle) (e f : Env) → means s e → means (freshened s) f
freshened_means None e f m = m
freshened_means Fresh e f m = m
freshened_means Stale e f m = m

join_left : (s t : Fickle) (e : Env) → means s e → means (join s t) e
join_left None t e m = absurd m
join_left Fresh t e m = tt
join_left Stale t e m = tt

join_right : (s t : Fickle) (e : Env) → means t e → means (join s t) e
join_right None None e m = m
join_right None Fresh e m = tt
join_right None Stale e m = tt
join_right Fresh t e m = tt
join_right Stale t e m = tt

widen_left : (s t : Fickle) (e : Env) → means s e → means (widen s t) e
widen_left None t e m = absurd m
widen_left Fresh None e m = tt
widen_left Fresh Fresh e m = tt
widen_left Fresh Stale e m = tt
widen_left Stale t e m = tt

widen_right : (s t : Fickle) (e : Env) → means t e → means (widen s t) e
widen_right None t e m = m
widen_right Fresh None e m = tt
widen_right Fresh Fresh e m = tt
widen_right Fresh Stale e m = tt
widen_right Stale t e m = tt

-- what follows from a claim that is not made
pub not_claimed : {P : Type 0} → false ≡ true → P
not_claimed h = absurd (let z : ◌≡◌ {A = ℕ} 0 1 = cc in omega arith)

within_holds : (s t : Fickle) (e : Env) → within s t ≡ true → means s e → means t e
within_holds None t e h m = absurd m
within_holds Fresh None e h m = not_claimed h
within_holds Fresh Fresh e h m = tt
within_holds Fresh Stale e h m = tt
within_holds Stale None e h m = not_claimed h
within_holds Stale Fresh e h m = not_claimed h
within_holds Stale Stale e h m = tt

itself : (x : Range) → x.lo ≤ℤ x.hi → Inside x x
itself x h = record { low = omega (arith, ints); ordered = h; high = omega (arith, ints) }

range_inside : (x : Range) → Inside (whole_or_empty x) x ⊎ (whole_or_empty x ≡ empty)
range_inside x = cond_both (int_le x.lo x.hi) x empty (λ y. Inside y x ⊎ (y ≡ empty)) (λ h. inl (itself x (true_le _ _ h))) (λ h. inr refl)

ordered : (n : ℤ) (x : Range) → Lies n x → x.lo ≤ℤ x.hi
ordered n x h = let a = h.low in let b = h.high in omega (arith, ints)

range_holds : (n : ℤ) (x : Range) → Lies n x → Lies n (whole_or_empty x)
range_holds n x h = cond_both (int_le x.lo x.hi) x empty (λ y. Lies n y) (λ k. h) (λ k. let y = le_true _ _ (ordered n x h) in let z : ◌≡◌ {A = ℕ} 0 1 = cc in absurd (omega arith))

widen_le : (s t : Fickle) → rank (widen s t) ≤ rank s
widen_le None None = omega arith
widen_le None Fresh = omega arith
widen_le None Stale = omega arith
widen_le Fresh None = omega arith
widen_le Fresh Fresh = omega arith
widen_le Fresh Stale = omega arith
widen_le Stale t = omega arith

yes : {P : Type 0} → true ≡ false → P
yes h = absurd (let z : ◌≡◌ {A = ℕ} 0 1 = cc in omega arith)

widen_lt : (s t : Fickle) → within t s ≡ false → rank (widen s t) < rank s
widen_lt None None h = yes h
widen_lt None Fresh h = omega arith
widen_lt None Stale h = omega arith
widen_lt Fresh None h = yes h
widen_lt Fresh Fresh h = yes h
widen_lt Fresh Stale h = omega arith
widen_lt Stale None h = yes h
widen_lt Stale Fresh h = yes h
widen_lt Stale Stale h = yes h

pub fickle_lawful : (n : ℕ) → Lawful n fickle
fickle_lawful n = record {
  any_all = λ e w. tt;
  none_empty = λ e w m. m;
  narrow_holds = λ s r x e i w m h. turned_means s e m;
  keep_holds = λ s c e v w m h. m;
  set_holds = λ s r x e i v w m f. freshened_means s e _ m;
  join_left = λ s t e w m. join_left s t e m;
  join_right = λ s t e w m. join_right s t e m;
  widen_left = λ s t e w m. widen_left s t e m;
  widen_right = λ s t e w m. widen_right s t e m;
  within_holds = λ s t e w h m. within_holds s t e h m;
  sure_holds = λ s x e v w h m. not_claimed h;
  shows_holds = λ s d e f w h m. not_claimed h;
  range_inside = λ s r x i. range_inside x;
  range_holds = λ s r x e i w m h. range_holds _ x h;
  widen_le = widen_le;
  widen_lt = widen_lt;
}
