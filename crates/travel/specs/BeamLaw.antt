-- A travel with one further side, and the beam's.
use Rattle.std.specs.Prelude.{◌≡◌, ℕ, ◌+◌, ◌≤◌, List, [], ◌∷◌, ◌++◌, length, ℤ, pos, ◌+ℤ◌, neg_ℤ, ◌≤ℤ◌}
use Rattle.std.proofs.Common.{arith, lit≤, length-append}
use Rattle.std.proofs.ByRecursion.{All-push}
use Rattle.std.proofs.lemmas.Int.{ints}
use Rattle.model.specs.Limits.{limit}
use Rattle.model.specs.Sides.{Holds, AllHold, Proper}
use Rattle.model.specs.Axes.{Position}
use Rattle.model.specs.Envelopes.{Envelope}
use Rattle.model.specs.declared.side.Side.{Side}
use Rattle.travel.specs.declared.beam.Beam.{Beam}
use Rattle.travel.specs.Travels.{Lawful}
use Rattle.travel.specs.Beams.{gap_side, beam_envelope}
use Rattle.travel.specs.Gantries.{gantry_envelope}
use Rattle.travel.specs.GantryLaw.{gantry_lawful}

hold_push : (p : Position) (ss : List Side) (s : Side) → AllHold p ss → Holds p s → AllHold p (ss ++ (s ∷ []))
hold_push p [] s h k = (k, tt)
hold_push p (x ∷ ss) s h k = (h.0, hold_push p ss s h.1 k)

hold_parts : (p : Position) (ss : List Side) (s : Side) → AllHold p (ss ++ (s ∷ [])) → AllHold p ss × Holds p s
hold_parts p [] s h = (tt, h.0)
hold_parts p (x ∷ ss) s h = let k = hold_parts p ss s h.1 in ((h.0, k.0), k.1)

-- a further side that holds exactly where P does
further_lawful : (v : Envelope) (P : Position → Type 0) (s : Side) → Lawful v → length v.sides ≤ 15 →
    ((p : Position) → P p → Holds p s) → ((p : Position) → Holds p s → P p) → P v.home → Proper s →
    Lawful (record { region = λ p. v.region p × P p; sides = v.sides ++ (s ∷ []); home = v.home })
further_lawful v P s l few holds back at_home proper =
    let n : length (v.sides ++ (s ∷ [])) ≡ length v.sides + 1 = length-append v.sides (s ∷ []) in
    record {
      only = λ p h. hold_push p v.sides s (l.only p h.0) (holds p h.1);
      all = λ p h. let k = hold_parts p v.sides s h in (l.all p k.0, back p k.1);
      home_in = (l.home_in, at_home);
      home_fits = l.home_fits;
      some = omega (arith, l.some);
      few = omega arith;
      proper = All-push Proper v.sides s l.proper proper;
    }

held : (x u gap : ℤ) → (x +ℤ gap) ≤ℤ u → (x +ℤ neg_ℤ u) ≤ℤ neg_ℤ gap
held x u gap h = omega (arith, ints)

ahead : (x u gap : ℤ) → (x +ℤ neg_ℤ u) ≤ℤ neg_ℤ gap → (x +ℤ gap) ≤ℤ u
ahead x u gap h = omega (arith, ints)

gap_proper : (gap : ℤ) → pos 1 ≤ℤ gap → gap ≤ℤ pos limit → Proper (gap_side gap)
gap_proper gap h k = record {
  axes = λ e. let z : ◌≡◌ {A = ℕ} 0 1 = cc in omega arith;
  low = omega (arith, ints);
  high = omega (arith, ints);
}

pub beam_lawful : (b : Beam) → Lawful (beam_envelope b)
beam_lawful b =
    further_lawful (gantry_envelope b.base) (λ p. (p.x +ℤ b.gap) ≤ℤ p.u) (gap_side b.gap) (gantry_lawful b.base) (lit≤ tt)
    (λ p h. held _ _ _ h) (λ p h. ahead _ _ _ h) b.wide.2 (gap_proper _ b.wide.0 b.wide.1)
