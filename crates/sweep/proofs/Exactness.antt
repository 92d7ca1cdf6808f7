-- The theorem: on single values and without loops the verdict is what the run does.
use Rattle.std.proofs.Common.{◌≡◌, ℕ, ◌≤◌, List, [], ◌∷◌, map, length, Some, None, Option, sym, refl, subst, arith}
use Rattle.std.specs.List.{AllByRecursion}
use Rattle.model.specs.declared.range.Range.{Range}
use Rattle.model.specs.declared.ending.Failure.{Failure}
use Rattle.model.specs.declared.ending.Ending.{Ending}
use Rattle.model.specs.Envelopes.{Envelope}
use Rattle.model.specs.declared.line.Line.{Line}
use Rattle.model.specs.declared.line.Line.TheVariants.{Plain, Setting, Move, While, If, EndIf, EndWhile}
use Rattle.model.specs.Environments.{Env, LegalOf, position, registers}
use Rattle.model.specs.Sides.{Proper}
use Rattle.model.specs.Written.{WrittenLine}
use Rattle.model.specs.Programs.{Closed}
use Rattle.model.specs.Whole.{Dry}
use Rattle.model.proofs.Dried.{one_ending}
use Rattle.domain.specs.Lattice.{Lattice, Meaning, single}
use Rattle.domain.specs.Tracking.{Tracking, Led, LosesNothing}
use Rattle.domain.specs.Leading.{led_tracking}
use Rattle.sweep.specs.Blocks.{blocks, states_for}
use Rattle.sweep.specs.Starts.{start}
use Rattle.sweep.specs.Sweeps.{fresh, sweep, verdict_of}
use Rattle.sweep.specs.Exact.{Exact, NoWhile, values_of, ending}
use Rattle.sweep.proofs.Tracks.{start_tracks}
use Rattle.sweep.proofs.Parts.{whole}
use Rattle.sweep.proofs.Follow.{stop_of, live, Goal}
use Rattle.sweep.proofs.Straight.{at_end, past_plain, past_setting, past_move}
use Rattle.sweep.proofs.Branches.{past_if, past_endif, past_endwhile}

module _ {S : Type 0} {M : Meaning S} (l : Lattice M) (tracks : S → Option Env → Type 0) (q : Tracking registers l tracks) (t : Envelope) (proper : AllByRecursion Proper t.sides) where
  -- line by line
  follows : (lines xs : List Line) → Goal l tracks lines t xs
  follows lines [] = at_end l tracks q lines t
  follows lines (Plain ∷ xs) = past_plain l tracks q lines t xs (follows lines xs)
  follows lines (Setting p x ∷ xs) = past_setting l tracks q lines t p x xs (follows lines xs)
  follows lines (Move g x y z u ∷ xs) = past_move l tracks q lines t proper g x y z u xs (follows lines xs)
  follows lines (While m c ∷ xs) = λ mode os i w e k legal part way fuel. absurd part.forward.0
  follows lines (If m c ∷ xs) = past_if l tracks q lines t m c xs (follows lines xs)
  follows lines (EndIf m ∷ xs) = past_endif l tracks q lines t m xs (follows lines xs)
  follows lines (EndWhile m ∷ xs) = past_endwhile l tracks q lines t m xs (follows lines xs)

  module _ (lines : List Line) (e : Env) (store : List S) (k : ℕ) where
    abbrev begin : S
    begin = start l t (map single (values_of e))

    -- a sweep over a store with room fails, or not, as the run of its one environment ends
    ends_so : Closed lines → AllByRecursion WrittenLine lines → AllByRecursion NoWhile lines → LegalOf registers e → position e ≡ t.home → length lines ≤ k →
        states_for lines ≤ length store → Dry lines t k 0 e (stop_of (sweep l (blocks lines) t lines begin store).failing)
    unfolding sweep
    ends_so closed written forward legal at_home enough room =
        follows lines lines live [] 0 (fresh l begin store) e k legal (whole lines closed written forward)
        (record { clear = refl; line = refl; current = start_tracks l tracks q t e legal at_home; shelf = tt; room = room }) (omega arith)

  ending_is : (f : Option Failure) (hs : List (Option Range)) → stop_of f ≡ ending (verdict_of f hs)
  ending_is None hs = refl
  ending_is (Some f) hs = refl

  exact : Exact l t
  exact lines e store k closed written forward legal at_home enough unchanged o =
      let d = subst (λ (u : Ending). Dry lines t k 0 e u) (ending_is _ _) (ends_so lines e store k closed written forward legal at_home enough unchanged.room) in
      (λ r. one_ending lines t closed k 0 e o _ r d, λ h. subst (λ (u : Ending). Dry lines t k 0 e u) (sym h) d)

pub exact_of : {S : Type 0} {M : Meaning S} (l : Lattice M) (t : Envelope) → AllByRecursion Proper t.sides → LosesNothing registers l → Exact l t
exact_of l t proper h = exact l (Led registers l) (led_tracking registers l h) t proper
