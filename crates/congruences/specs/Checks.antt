-- What `checked` gives, and when two numbers make a class.
use Rattle.std.specs.Prelude.{◌≡◌, ℕ, Bool, true, false, ◌&&◌, ℤ, pos, negsuc, ◌-ℤ◌, ◌<ℤ◌, Some, None, int_le, refl}
use Rattle.std.proofs.Common.{◌∙◌, ap, ap₂, sym}
use Rattle.divisibility.specs.Multiples.{Multiple}
use Rattle.congruences.specs.Members.{InSome}
use Rattle.congruences.specs.Settled.{checked, pick}
use Rattle.congruences.specs.Shape.{proper}
use Rattle.congruences.specs.declared.congruence.Congruence.{Congruence}
use Rattle.congruences.specs.Same.{congruence_same}
use Rattle.model.proofs.Numbers.{lt_false}
use Rattle.std.proofs.lemmas.Bool.{both_ways}

pick_some : (m : ℕ) (r : ℤ) (b : Bool) (e : proper m r ≡ b) (c : Congruence) → c.modulus ≡ m → c.residue ≡ r → proper m r ≡ true → pick m r b e ≡ Some c
unfolding pick
pick_some m r true e c p q h = ap Some (congruence_same _ _ (sym p) (sym q))
pick_some m r false e c p q h = absurd (both_ways (proper m r) e h)

pick_none : (m : ℕ) (r : ℤ) (b : Bool) (e : proper m r ≡ b) → proper m r ≡ false → pick m r b e ≡ None
unfolding pick
pick_none m r true e h = absurd (both_ways (proper m r) h e)
pick_none m r false e h = refl

pub checked_some : (m : ℕ) (r : ℤ) (c : Congruence) → c.modulus ≡ m → c.residue ≡ r → checked m r ≡ Some c
unfolding checked
checked_some m r c p q = pick_some m r (proper m r) refl c p q (ap₂ proper (sym p) (sym q) ∙ c.ok)

pub checked_none : (m : ℕ) (r : ℤ) → proper m r ≡ false → checked m r ≡ None
unfolding checked
checked_none m r h = pick_none m r (proper m r) refl h

pick_in : (m : ℕ) (r v : ℤ) (b : Bool) (e : proper m r ≡ b) → proper m r ≡ true → Multiple m (v -ℤ r) → InSome v (pick m r b e)
unfolding pick
pick_in m r v true e h k = k
pick_in m r v false e h k = absurd (both_ways (proper m r) e h)

pub checked_in : (m : ℕ) (r v : ℤ) → proper m r ≡ true → Multiple m (v -ℤ r) → InSome v (checked m r)
unfolding checked
checked_in m r v h k = pick_in m r v (proper m r) refl h k

pick_out : (m : ℕ) (r v : ℤ) (b : Bool) (e : proper m r ≡ b) → InSome v (pick m r b e) → Multiple m (v -ℤ r)
unfolding pick
pick_out m r v true e h = h
pick_out m r v false e h = elim h [ ]

pub checked_out : (m : ℕ) (r v : ℤ) → InSome v (checked m r) → Multiple m (v -ℤ r)
unfolding checked
checked_out m r v h = pick_out m r v (proper m r) refl h

pub and_no : (b : Bool) → (b && false) ≡ false
and_no true = refl
and_no false = refl

pub single_low : (r : ℤ) → r <ℤ negsuc 9999999 → proper 0 r ≡ false
single_low r h = rw (lt_false (negsuc 9999999) r h)

pub single_high : (r : ℤ) → pos 10000000 <ℤ r → proper 0 r ≡ false
single_high r h = rw (lt_false r (pos 10000000) h) (and_no (int_le (negsuc 9999999) r))
