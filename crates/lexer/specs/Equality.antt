-- The derived equality of classes is equality.
use Rattle.std.specs.Prelude.{◌≡◌, true, refl}
use Rattle.std.proofs.Common.{rules}
use denote.Enum.Bare.{same_true}
use Rattle.lexer.specs.contracts.class.Class.{the_type}
use Rattle.lexer.specs.declared.class.Class.{Class}
use Rattle.lexer.specs.declared.class.Class.TheVariants.{Letter, Digit, Blank, Mark}
use Rattle.lexer.specs.Classes.{same}

pub same_class : (j k : Class) → same j k ≡ true → j ≡ k
same_class j k e = same_true the_type (search rules) j k e

pub same_self : (k : Class) → same k k ≡ true
same_self Letter = refl
same_self Digit = refl
same_self Blank = refl
same_self Mark = refl
