-- A widened interval has the numbers of both, and less room wherever the other was not inside.
use Rattle.std.specs.Prelude.{◌≡◌, ◌+◌, ◌<◌, ◌≤◌, Bool, true, false, cond, ℤ, pos, neg_ℤ, ◌≤ℤ◌, int_le, int_lt, refl}
use Rattle.std.proofs.Common.{inl, inr, arith}
use Rattle.std.proofs.lemmas.Int.{ints}
use Rattle.std.proofs.lemmas.Bool.{and_cases}
use Rattle.model.specs.Environments.{Lies, full}
use Rattle.model.specs.Limits.{limit}
use Rattle.intervals.specs.Made.{In}
use Rattle.intervals.specs.Spans.{inside}
use Rattle.intervals.specs.Widening.{widen, room, down_to, up_to}
use Rattle.intervals.specs.declared.interval.Interval.{Interval}

fell_or : (a b : ℤ) → int_le a b ≡ false → int_lt b a ≡ true
fell_or a b h = grind (arith, ints)

down_left : (b : Bool) (lo v : ℤ) → neg_ℤ (pos limit) ≤ℤ v → lo ≤ℤ v → down_to b lo ≤ℤ v
down_left true lo v p q = p
down_left false lo v p q = q

up_left : (b : Bool) (hi v : ℤ) → v ≤ℤ pos limit → v ≤ℤ hi → v ≤ℤ up_to b hi
up_left true hi v p q = p
up_left false hi v p q = q

down_right : (b : Bool) (lo new v : ℤ) → int_lt new lo ≡ b → neg_ℤ (pos limit) ≤ℤ v → new ≤ℤ v → down_to b lo ≤ℤ v
down_right true lo new v e p q = p
down_right false lo new v e p q = grind (arith, ints)

up_right : (b : Bool) (hi new v : ℤ) → int_lt hi new ≡ b → v ≤ℤ pos limit → v ≤ℤ new → v ≤ℤ up_to b hi
up_right true hi new v e p q = p
up_right false hi new v e p q = grind (arith, ints)

pub room_le_two : (x : Interval) → room x ≤ 2
room_le_two x = two (int_lt (neg_ℤ (pos limit)) x.lo) (int_lt x.hi (pos limit))
  where
    two : (a b : Bool) → cond a 1 0 + cond b 1 0 ≤ 2
    two true true = omega arith
    two true false = omega arith
    two false true = omega arith
    two false false = omega arith

low_room : (b : Bool) (lo : ℤ) → cond (int_lt (neg_ℤ (pos limit)) (down_to b lo)) 1 0 ≤ cond (int_lt (neg_ℤ (pos limit)) lo) 1 0
low_room true lo = omega arith
low_room false lo = omega arith

high_room : (b : Bool) (hi : ℤ) → cond (int_lt (up_to b hi) (pos limit)) 1 0 ≤ cond (int_lt hi (pos limit)) 1 0
high_room true hi = omega arith
high_room false hi = omega arith

pub room_le : (x y : Interval) → room (widen x y) ≤ room x
room_le x y = let a = low_room (int_lt y.lo x.lo) x.lo in let b = high_room (int_lt x.hi y.hi) x.hi in omega arith

low_falls : (lo new : ℤ) → neg_ℤ (pos limit) ≤ℤ new → int_le lo new ≡ false → cond (int_lt (neg_ℤ (pos limit)) (down_to (int_lt new lo) lo)) 1 0 < cond (int_lt (neg_ℤ (pos limit)) lo) 1 0
low_falls lo new p h =
    let e = fell_or lo new h in
    let q : int_lt (neg_ℤ (pos limit)) lo ≡ true = grind (arith, ints) in
    rw (e, q) (omega arith)

high_falls : (hi new : ℤ) → new ≤ℤ pos limit → int_le new hi ≡ false → cond (int_lt (up_to (int_lt hi new) hi) (pos limit)) 1 0 < cond (int_lt hi (pos limit)) 1 0
high_falls hi new p h =
    let e = fell_or new hi h in
    let q : int_lt hi (pos limit) ≡ true = grind (arith, ints) in
    rw (e, q) (omega arith)

pub room_lt : (x y : Interval) → inside y x ≡ false → room (widen x y) < room x
room_lt x y h =
    let a = low_room (int_lt y.lo x.lo) x.lo in let b = high_room (int_lt x.hi y.hi) x.hi in
    elim (and_cases _ _ h) [ inl q ↦ (let c = low_falls x.lo y.lo y.low q in omega arith) | inr q ↦ (let c = high_falls x.hi y.hi y.high q in omega arith) ]

pub widen_left : (x y : Interval) (v : ℤ) → Lies v full → In v x → In v (widen x y)
widen_left x y v f h = record { low = down_left _ x.lo v f.low h.low; high = up_left _ x.hi v f.high h.high }

pub widen_right : (x y : Interval) (v : ℤ) → Lies v full → In v y → In v (widen x y)
widen_right x y v f h = record { low = down_right _ x.lo y.lo v refl f.low h.low; high = up_right _ x.hi y.hi v refl f.high h.high }
