-- The least and the greatest member of a congruence in a range.
use Rattle.std.specs.Prelude.{◌≡◌, cond, ◌&&◌, ◌⊎◌, ℤ, pos, ◌+ℤ◌, ◌-ℤ◌, neg_ℤ, ◌≤ℤ◌, Some, None, Option, int_le}
use Rattle.std.specs.Int.{int_min, int_max}
use Rattle.std.specs.Option.{unwrap_or}
use Rattle.model.specs.declared.range.Range.{Range}
use Rattle.model.specs.Limits.{limit}
use Rattle.model.specs.Values.{same}
use Rattle.domain.specs.Lattice.{empty}
use Rattle.divisibility.specs.Multiples.{remainder}
use Rattle.congruences.specs.Members.{In}
use Rattle.congruences.specs.Settled.{checked}
use Rattle.congruences.specs.Singles.{alone}
use Rattle.congruences.specs.declared.congruence.Congruence.{Congruence}

-- the first member that is not below lo, and the last one that is not above hi; a single number has no other
abbrev pub first : Congruence → ℤ → ℤ
first c lo = cond (alone c) c.residue (lo +ℤ remainder (c.residue -ℤ lo) c.modulus)

abbrev pub last : Congruence → ℤ → ℤ
last c hi = cond (alone c) c.residue (hi -ℤ remainder (hi -ℤ c.residue) c.modulus)

-- both of them, where the first is not above hi
abbrev pub ends : Congruence → ℤ → ℤ → Option Range
ends c lo hi = cond (int_le lo (first c lo) && int_le (first c lo) hi) (Some (record { lo = first c lo; hi = last c hi })) None

-- a range's ends, cut to the limit
abbrev pub lower : Range → ℤ
lower z = int_max z.lo (neg_ℤ (pos limit))

abbrev pub upper : Range → ℤ
upper z = int_min z.hi (pos limit)

abbrev pub or_empty : Option Range → Range
or_empty o = unwrap_or o empty

-- from the least to the greatest member in a range
abbrev pub ranged : Congruence → Range → Range
ranged c z = or_empty (ends c (lower z) (upper z))

-- nothing where no member was found, the single where one was
abbrev pub narrowed_to : Congruence → Option Range → Option Congruence
narrowed_to c None = None
narrowed_to c (Some e) = cond (same e.lo e.hi) (checked 0 e.lo) (Some c)

abbrev pub narrowed : Congruence → Range → Option Congruence
narrowed c z = narrowed_to c (ends c (lower z) (upper z))

-- both ends are members from lo to hi, and every other such member lies between them
pub record Spans (c : Congruence) (lo hi : ℤ) (e : Range) : Type 0 where
  pub low : lo ≤ℤ e.lo
  pub high : e.hi ≤ℤ hi
  pub ordered : e.lo ≤ℤ e.hi
  pub least : In e.lo c
  pub greatest : In e.hi c
  pub between : (v : ℤ) → In v c → lo ≤ℤ v → v ≤ℤ hi → (e.lo ≤ℤ v) × (v ≤ℤ e.hi)

-- no member lies from lo to hi
abbrev pub Misses : Congruence → ℤ → ℤ → Type 0
Misses c lo hi = (v : ℤ) → In v c → lo ≤ℤ v → v ≤ℤ hi → ⊥

-- a range of a congruence has the least and the greatest member, or is empty where there is none
abbrev pub Found : Congruence → Range → Range → Type 0
Found c z e = Spans c (lower z) (upper z) e ⊎ (Misses c (lower z) (upper z) × (e ≡ empty))
