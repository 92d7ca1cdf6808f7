-- What a session holds behind a certify: a certificate that is safe, and a verdict that is a dry run's where it is exact.
use Rattle.std.proofs.Common.{◌≡◌, ℕ, List, Ok, Some, sym, subst}
use Rattle.model.specs.declared.range.Range.{Range}
use Rattle.model.specs.Envelopes.{Envelope}
use Rattle.domain.specs.Lattice.{Lattice, Meaning}
use Rattle.program.specs.declared.table.Program.{Program}
use Rattle.program.specs.Held.{held}
use Rattle.program.proofs.Nested.{closed_lines}
use Rattle.program.proofs.Written.{passing_lines}
use Rattle.sweep.specs.Exact.{Exact}
use Rattle.certify.specs.declared.refusal.Certificate.{Certificate}
use Rattle.certify.specs.Certifies.{Answer, TheVerdict, Promised}
use Rattle.runner.specs.declared.run.Run.{Run}
use Rattle.runner.specs.Plain.{no_run}
use Rattle.session.specs.declared.ranges.Ranges.{Ranges}
use Rattle.session.specs.Promises.{LikeDry}
use Rattle.session.specs.Standing.{HasCome, Secure}
use Rattle.session.proofs.Beginning.{LimitedAll}
use Rattle.session.proofs.Dry.{few_lines, like_dry}

module _ {S : Type 0} {M : Meaning S} (l : Lattice M) (p : Program) (ranges : Ranges) (travel : Envelope) (n : ℕ) where
  -- the ranges that certify is lent are those of the session
  pub certified_secure : (c : Certificate) (r : Run) (lent : List Range) → lent ≡ ranges.each → r ≡ no_run → TheVerdict l (held p) travel lent n (Ok c) → Promised (held p) travel lent (Ok c) →
      ∥ Secure (held p) travel ranges.each (Some c) r ∥₁
  certified_secure c r lent same none v safe = ∣ record {
    closed = closed_lines (held p) p.taken v.is.closes;
    safe = subst (λ (rs : List Range). Promised (held p) travel rs (Ok c)) same safe;
    has_come = subst (λ (r : Run). HasCome (held p) travel ranges.each r.at r.registers) (sym none) tt;
  } ∣₁

  pub verdict_dry : Exact l travel → LimitedAll travel.home → (r : Answer) (lent : List Range) → lent ≡ ranges.each → TheVerdict l (held p) travel lent n r → LikeDry (held p) travel ranges.each r
  verdict_dry exact limited r lent same v =
      like_dry l travel exact (held p) ranges.each n (few_lines p) (passing_lines (held p) p.written) limited ranges.whole ranges.proper r
      (subst (λ (rs : List Range). TheVerdict l (held p) travel rs n r) same v)
