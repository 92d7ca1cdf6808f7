-- Sessions with the same fields are the same.
use Rattle.std.proofs.Common.{◌≡◌}
use mathlib.Core.HLevel.{is_prop→PathP}
use mathlib.Core.Logic.{∥∥₁_prop}
use Rattle.program.specs.Held.{held}
use Rattle.session.specs.declared.session.Session.{Session}
use Rattle.session.specs.Standing.{Secure}

pub same_session : {T : Type 0} {t : _} (a b : Session T t) → a.travel ≡ b.travel → a.program ≡ b.program → a.ranges ≡ b.ranges → a.certificate ≡ b.certificate → a.run ≡ b.run → a ≡ b
same_session {T} {t} a b p q r s u i = record {
  travel = p i;
  program = q i;
  ranges = r i;
  certificate = s i;
  run = u i;
  secure = is_prop→PathP (λ j. ∥ Secure (held (q j)) (t.envelope (p j)) (r j).each (s j) (u j) ∥₁) (λ j. ∥∥₁_prop) a.secure b.secure i;
}
