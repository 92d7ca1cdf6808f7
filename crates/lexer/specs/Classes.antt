-- Classes of bytes, and runs of bytes of one class.
use Rattle.std.specs.Prelude.{ℕ, Bool, cond, ◌&&◌, ◌||◌, List, ◌==◌, nat_le}
use Rattle.std.specs.List.{prefix_len}
use Rattle.lexer.specs.declared.class.Class.{Class}
use Rattle.lexer.specs.declared.class.Class.TheVariants.{Letter, Digit, Blank, Mark}
use Rattle.lexer.specs.contracts.class.ClassPartialEq.TheImpl as equality

abbrev pub between : ℕ → ℕ → ℕ → Bool
between lo hi b = nat_le lo b && nat_le b hi

-- A to Z and a to z, 0 to 9, the blank, and all other bytes
abbrev pub class : ℕ → Class
class b = cond (between 65 90 b || between 97 122 b) Letter (cond (between 48 57 b) Digit (cond (b == 32) Blank Mark))

-- the two are one class; Equality shows that it is so exactly where they are
abbrev pub same : Class → Class → Bool
same j k = equality.eq-value.it j k

-- how many bytes at the front are of the class
abbrev pub run : Class → List ℕ → ℕ
run k s = prefix_len (λ b. same (class b) k) s
