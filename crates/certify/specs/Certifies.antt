-- What certify answers: the verdict of the repeated sweeps in the domain at hand, and what a certificate promises.
use Rattle.std.specs.Prelude.{◌≡◌, ℕ, ◌<◌, ◌≤◌, true, false, List, Ok, Err, Result}
use Rattle.model.specs.declared.line.Line.{Line}
use Rattle.model.specs.declared.range.Range.{Range}
use Rattle.model.specs.Envelopes.{Envelope}
use Rattle.model.specs.Blocks.{closed}
use Rattle.domain.specs.Lattice.{Lattice, Meaning}
use Rattle.sweep.specs.Blocks.{states_for}
use Rattle.sweep.specs.Sound.{Judges, Safe}
use Rattle.sweep.specs.Sweeps.{Sweep, Verdict, certified, uncertified, verdict}
use Rattle.certify.specs.declared.refusal.Certificate.{Certificate}
use Rattle.certify.specs.declared.refusal.CertifyRefusal.{CertifyRefusal}
use Rattle.certify.specs.declared.refusal.CertifyRefusal.TheVariants.{Open, Store, Uncertified}

abbrev pub Answer : Type 0
Answer = Result Certificate CertifyRefusal

-- a verdict, as an answer
abbrev pub answered : Verdict → Answer
answered (certified hs) = Ok (record { hulls = hs })
answered (uncertified f) = Err (Uncertified f)

module _ {S : Type 0} {M : Meaning S} (l : Lattice M) (lines : List Line) (t : Envelope) (allowed : List Range) (n : ℕ) where
  -- the program is closed, n states suffice, and the sweep that judges has this verdict
  pub record Judged (v : Verdict) : Type 0 where
    pub closes : closed lines ≡ true
    pub enough : states_for lines ≤ n
    pub sweep : Sweep S
    pub judges : Judges l lines t allowed n sweep
    pub is : verdict sweep ≡ v

  -- an open block is refused first, then too small a store
  abbrev pub Certifies : Answer → Type 0
  Certifies (Ok c) = Judged (certified c.hulls)
  Certifies (Err Open) = closed lines ≡ false
  Certifies (Err Store) = (closed lines ≡ true) × (n < states_for lines)
  Certifies (Err (Uncertified f)) = Judged (uncertified f)

  -- this answer, and no other
  pub record TheVerdict (r : Answer) : Type 0 where
    pub is : Certifies r
    pub only : (u : Answer) → Certifies u → u ≡ r

-- under a certificate every step of every run from home and allowed values is safe
abbrev pub Promised : List Line → Envelope → List Range → Answer → Type 0
Promised lines t allowed (Ok c) = Safe lines t allowed c.hulls
Promised lines t allowed (Err e) = Unit {0}

-- refused without a look at the lines: the store is as it was
abbrev pub Untouched : {S : Type 0} → Answer → List S → List S → Type 0
Untouched (Ok c) before after = Unit {0}
Untouched (Err Open) before after = after ≡ before
Untouched (Err Store) before after = after ≡ before
Untouched (Err (Uncertified f)) before after = Unit {0}
