-- What is lent to a list of calls stays lent to it, so that no place for an answer is lost, and what is not played stays as it was.
use Rattle.std.specs.Prelude.{◌≡◌, ℕ, ◌<◌, List, length, drop, min, slice_index_or}
use Rattle.std.specs.Borrow.{MutBor}
use Rattle.certify.specs.Certifies.{Answer, Untouched}

-- the same memory is lent, as long as it was
abbrev pub SameLoan : {A : Type 0} → MutBor (List A) → MutBor (List A) → Type 0
SameLoan r s = (s.ghost_name ≡ r.ghost_name) × (length s.now ≡ length r.now)

-- the states of a certify are as they were, unless it has judged
abbrev pub StatesStay : {S : Type 0} → MutBor (List S) → MutBor (List S) → Answer → Type 0
StatesStay s t r = SameLoan s t × Untouched r s.now t.now

-- of the first n lists each is left as it says, by its answer
abbrev pub EachLeft : {C A : Type 0} → (C → C → A → Type 0) → ℕ → List C → List C → List A → Type 0
EachLeft {C} {A} stays n cs ds rs = (k : ℕ) (c : C) (r : A) → k < n → stays (slice_index_or cs k c) (slice_index_or ds k c) (slice_index_or rs k r)

-- so they are, and the lists and answers from n on are as they were
pub record EachStays {C A : Type 0} (stays : C → C → A → Type 0) (n : ℕ) (cs ds : List C) (qs rs : List A) : Type 0 where
  pub played : EachLeft stays n cs ds rs
  pub calls : drop n ds ≡ drop n cs
  pub answers : drop n rs ≡ drop n qs

-- a tape: as many lists as there are answers for are played, each is left as it says, and the rest is as it was
abbrev pub TapeStays : {C A : Type 0} → (C → C → A → Type 0) → MutBor (List C) → MutBor (List C) → MutBor (List A) → MutBor (List A) → Type 0
TapeStays stays cs ds qs rs = SameLoan cs ds × SameLoan qs rs × EachStays stays (min (length cs.now) (length qs.now)) cs.now ds.now qs.now rs.now
