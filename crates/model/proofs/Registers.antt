-- A register is known by its number.
use Rattle.std.proofs.Common.{◌≡◌, ◌<◌}
use mathlib.Core.HLevel.{is_prop→PathP}
use Rattle.std.proofs.Math.Bridge.{le_prop}
use Rattle.model.specs.declared.register.Register.{Register}
use Rattle.model.specs.Environments.{registers}

pub register_same : (a b : Register) → a.index ≡ b.index → a ≡ b
register_same a b p i = record {
  index = p i;
  known = is_prop→PathP (λ j. p j < registers) (λ j. le_prop) a.known b.known i;
}
