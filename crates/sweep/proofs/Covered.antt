-- An unchanged sweep knows what runs bring to each line, and the sweep that judges is an unchanged one.
use Rattle.std.proofs.Common.{◌≡◌, ◌≤◌, List, length, refl, sym, ap, ◌∙◌, arith}
use lib.ListN.{length-replicate}
use Rattle.model.specs.declared.line.Line.{Line}
use Rattle.model.specs.Envelopes.{Envelope}
use Rattle.model.specs.Environments.{registers}
use Rattle.domain.specs.Lattice.{Lattice, Meaning, Lawful}
use Rattle.sweep.specs.Blocks.{blocks, states_for}
use Rattle.sweep.specs.Starts.{start}
use Rattle.sweep.specs.Sweeps.{Sweep, sweep, Settles, done, again}
use Rattle.sweep.specs.Sound.{Unchanged, Covers, ComesFrom, KeepsLoops}
use Rattle.sweep.proofs.Quiet.{stored}
use Rattle.sweep.proofs.Prefix.{at_end, long_after, loop_kept}
use Rattle.sweep.proofs.Values.{start_holds}
use Rattle.sweep.proofs.Soundness.{reached_holds}

pub covers : {S : Type 0} {M : Meaning S} (l : Lattice M) (t : Envelope) → Lawful registers l → Covers l t
covers l t p lines allowed store closed written six unchanged i e r =
    reached_holds l p t lines _ store closed written unchanged (λ f b. start_holds l p t allowed f six b) r

module _ {S : Type 0} {M : Meaning S} (l : Lattice M) (t : Envelope) (lines : List Line) (begin : S) where
  -- sweeps from a store with room settle at an unchanged one, from a store as long
  settled : {s : List S} {w : Sweep S} → states_for lines ≤ length s → Settles l (blocks lines) t lines begin s w →
      (store : List S) × (w ≡ sweep l (blocks lines) t lines begin store) × (length store ≡ length s) × Unchanged l lines t begin store
  settled room (done {store = s} h) = (s, refl, refl, record { room = room; quiet = h })
  settled room (again {store = s} h d) =
      let long = long_after l (blocks lines) t lines begin s in
      let z = settled (omega arith) d in
      (z.0, z.1, z.2 ∙ long, z.3)

pub comes_from : {S : Type 0} {M : Meaning S} (l : Lattice M) (t : Envelope) → ComesFrom l t
comes_from l t lines allowed n w room judges =
    let long = length-replicate n l.none in
    let z = settled l t lines (start l t allowed) (omega arith) judges in
    (z.0, z.1, z.2 ∙ long, z.3)

pub keeps_loops : {S : Type 0} {M : Meaning S} (l : Lattice M) (t : Envelope) → KeepsLoops l t
keeps_loops {S} l t lines begin store closed unchanged i m c st =
    ap (λ (v : Sweep S). stored l v.flow ((blocks lines).place m)) (sym (at_end l (blocks lines) t lines begin store (length lines) (omega arith))) ∙
    loop_kept l t lines begin store closed unchanged i m (length lines) c st (omega arith)
