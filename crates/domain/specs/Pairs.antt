-- The product of two domains over n registers: side by side, and reduced after set, keep and narrow.
use Rattle.std.specs.Prelude.{ℕ, zero, suc, ◌+◌, ◌&&◌, ◌||◌, Some, None, Option}
use Rattle.model.specs.declared.range.Range.{Range}
use Rattle.model.specs.Environments.{Env, full}
use Rattle.domain.specs.declared.product.Product.{Product}
use Rattle.domain.specs.Lattice.{Lattice, Meaning}

-- the environments that both sides mean
abbrev pub both_mean : {A B : Type 0} → Meaning A → Meaning B → Meaning (Product A B)
both_mean M N p e = M p.first e × N p.second e

module _ {A B : Type 0} {M : Meaning A} {N : Meaning B} (a : Lattice M) (b : Lattice N) where
  -- the full range through first, second, first
  abbrev pub outcome : ℕ → Product A B → Range
  outcome r p = a.range p.first r (b.range p.second r (a.range p.first r full))

  -- both sides narrowed to what a register comes to
  unfoldable pub reduce_at : ℕ → Product A B → Product A B
  reduce_at r p = record { first = a.narrow p.first r (outcome r p); second = b.narrow p.second r (outcome r p) }

  -- the first n registers, in order
  unfoldable pub reduce : ℕ → Product A B → Product A B
  reduce zero p = p
  reduce (suc n) p = reduce_at n (reduce n p)

  abbrev pub pair : ℕ → Lattice (both_mean M N)
  pair n = record {
    rank = λ p. a.rank p.first + b.rank p.second;
    any = record { first = a.any; second = b.any };
    none = record { first = a.none; second = b.none };
    narrow = λ p r x. reduce n (record { first = a.narrow p.first r x; second = b.narrow p.second r x });
    keep = λ p c. reduce n (record { first = a.keep p.first c; second = b.keep p.second c });
    set = λ p r x. reduce n (record { first = a.set p.first r x; second = b.set p.second r x });
    join = λ p q. record { first = a.join p.first q.first; second = b.join p.second q.second };
    widen = λ p q. record { first = a.widen p.first q.first; second = b.widen p.second q.second };
    within = λ p q. a.within p.first q.first && b.within p.second q.second;
    sure = λ p x. a.sure p.first x || b.sure p.second x;
    shows = λ p d. a.shows p.first d || b.shows p.second d;
    range = λ p r x. b.range p.second r (a.range p.first r x);
  }

  -- the first side follows the environment, and the second means it
  abbrev pub PairTracks : (A → Option Env → Type 0) → Product A B → Option Env → Type 0
  PairTracks tracks p None = tracks p.first None
  PairTracks tracks p (Some e) = tracks p.first (Some e) × N p.second e
