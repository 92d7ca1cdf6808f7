-- The loop over the lines makes the sweep, and the loop over sweeps comes to the one that judges.
use Rattle.std.proofs.Common.{◌≡◌, ℕ, ◌<◌, ◌≤◌, true, false, List, length, take, fold, sym, ap, ◌∙◌, subst}
use Rattle.std.proofs.lemmas.List.{take_all}
use Rattle.model.specs.declared.line.Line.{Line}
use Rattle.domain.specs.Lattice.{Lattice, Lawful, Meaning}
use Rattle.model.specs.Envelopes.{Envelope}
use Rattle.model.specs.Environments.{registers}
use Rattle.model.specs.Programs.{Closed}
use Rattle.sweep.specs.Blocks.{Blocks, blocks, states_for}
use Rattle.sweep.specs.Ends.{loop_ranks}
use Rattle.sweep.proofs.Falls.{sweep_falls}
use Rattle.sweep.specs.Sweeps.{Sweep, line_step, sweep, fresh, Settles, done, again}
use Rattle.certify.specs.declared.pass.Pass.{Pass}
use Rattle.certify.specs.Passes.{sweeping}

module _ {S : Type 0} {M : Meaning S} (l : Lattice M) (bs : Blocks) (t : Envelope) where
  pub all_lines : (begin : S) (store : List S) (lines held : List Line) (i : ℕ) (s : List S) (p : Pass S) → lines ≡ held → length lines ≤ i →
      sweeping s p ≡ fold (line_step l bs t) (fresh l begin store) (take i lines) →
      sweeping s p ≡ sweep l bs t held begin store
  unfolding sweep
  all_lines begin store lines held i s p same h e =
      let whole = take_all i lines h in
      e ∙ ap (fold (line_step l bs t) (fresh l begin store)) (whole ∙ same)

  -- a pass that is a sweep, unchanged, judges; a changed one goes on from its store
  pub settled_by : (lines : List Line) (begin : S) (store : List S) (w : Sweep S) → w ≡ sweep l bs t lines begin store → w.flow.changed ≡ false → Settles l bs t lines begin store w
  settled_by lines begin store w e h =
      subst (λ (v : Sweep S). Settles l bs t lines begin store v) (sym e) (done (ap (λ (v : Sweep S). v.flow.changed) (sym e) ∙ h))

  pub goes_on : (lines : List Line) (begin : S) (store : List S) (w v : Sweep S) → w ≡ sweep l bs t lines begin store → w.flow.changed ≡ true →
      Settles l bs t lines begin w.flow.store v → Settles l bs t lines begin store v
  goes_on lines begin store w v e h k =
      again (ap (λ (u : Sweep S). u.flow.changed) (sym e) ∙ h) (subst (λ (u : Sweep S). Settles l bs t lines begin u.flow.store v) e k)

-- a changed sweep lowers the ranks of the loops' states
pub falls_by : {S : Type 0} {M : Meaning S} (l : Lattice M) → Lawful registers l → (lines : List Line) (t : Envelope) (begin : S) (store : List S) (w : Sweep S) → Closed lines → states_for lines ≤ length store →
    w ≡ sweep l (blocks lines) t lines begin store → w.flow.changed ≡ true → loop_ranks l (blocks lines) w.flow.store lines < loop_ranks l (blocks lines) store lines
falls_by {S} l p lines t begin store w closed room e h =
    subst (λ (v : Sweep S). loop_ranks l (blocks lines) v.flow.store lines < loop_ranks l (blocks lines) store lines) (sym e)
    (sweep_falls l p lines t begin closed store room (ap (λ (v : Sweep S). v.flow.changed) (sym e) ∙ h))
