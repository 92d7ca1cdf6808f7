-- A product of strict domains is strict.
use Rattle.std.specs.Prelude.{◌≡◌, ℕ, zero, suc, ◌≤◌}
use Rattle.std.proofs.Math.Path.{refl, ap}
use Rattle.std.proofs.Common.{◌∙◌, arith}
use Rattle.std.proofs.lemmas.Bool.{and_parts, and_from, or_left}
use Rattle.domain.specs.declared.product.Product.{Product}
use Rattle.domain.specs.Lattice.{Lattice, Meaning, empty}
use Rattle.domain.specs.Nothing.{Strict}
use Rattle.domain.specs.Pairs.{pair, reduce, reduce_at}

both : {A B : Type 0} (x y : Product A B) → x.first ≡ y.first → x.second ≡ y.second → x ≡ y
both x y p q i = record { first = p i; second = q i }

module _ (n : ℕ) {A B : Type 0} {M : Meaning A} {N : Meaning B} (a : Lattice M) (b : Lattice N) (p : Strict n a) (q : Strict n b) where
  nothing : Product A B
  nothing = record { first = a.none; second = b.none }

  reduce_none : (k : ℕ) → k ≤ n → reduce a b k (record { first = a.none; second = b.none }) ≡ record { first = a.none; second = b.none }
  unfolding reduce reduce_at
  reduce_none zero i = refl
  reduce_none (suc k) i =
      ap (reduce_at a b k) (reduce_none k (omega arith)) ∙ both _ _ (p.narrow_none k _ (omega arith)) (q.narrow_none k _ (omega arith))

  after : (s : Product A B) → s.first ≡ a.none → s.second ≡ b.none → reduce a b n s ≡ record { first = a.none; second = b.none }
  after s h k = ap (reduce a b n) (both s _ h k) ∙ reduce_none n (omega arith)

  pub pair_strict : Strict n (pair a b n)
  pair_strict = record {
    narrow_none = λ r x i. after _ (p.narrow_none r x i) (q.narrow_none r x i);
    keep_none = λ c. after _ (p.keep_none c) (q.keep_none c);
    set_none = λ r x i. after _ (p.set_none r x i) (q.set_none r x i);
    join_left = λ s. both _ s (p.join_left _) (q.join_left _);
    join_right = λ s. both _ s (p.join_right _) (q.join_right _);
    widen_left = λ s. both _ s (p.widen_left _) (q.widen_left _);
    widen_right = λ s. both _ s (p.widen_right _) (q.widen_right _);
    within_all = λ s. and_from _ _ (p.within_all _) (q.within_all _);
    within_only = λ s h. let k = and_parts _ _ h in both s _ (p.within_only _ k.0) (q.within_only _ k.1);
    sure_none = λ x. or_left _ _ (p.sure_none x);
    shows_none = λ d. or_left _ _ (p.shows_none d);
    range_none = λ r x i. ap (b.range b.none r) (p.range_none r x i) ∙ q.range_none r empty i;
    sure_bare = λ s t. or_left _ _ (p.sure_bare _ t);
  }
