-- The derived equality of keywords is equality.
use Rattle.std.specs.Prelude.{◌≡◌, true, refl}
use Rattle.std.proofs.Common.{rules}
use denote.Enum.Bare.{same_true}
use Rattle.grammar.specs.contracts.symbol.Keyword.{the_type}
use Rattle.grammar.specs.declared.symbol.Keyword.{Keyword}
use Rattle.grammar.specs.declared.symbol.Keyword.TheVariants.{Hash, Open, Close, Plus, Minus, Star, Equals, G, O, While, If, EndIf, EndWhile}
use Rattle.grammar.specs.Tests.{same_keyword}

pub same_word : (u w : Keyword) → same_keyword u w ≡ true → u ≡ w
same_word u w e = same_true the_type (search rules) u w e

pub same_self : (u : Keyword) → same_keyword u u ≡ true
same_self Hash = refl
same_self Open = refl
same_self Close = refl
same_self Plus = refl
same_self Minus = refl
same_self Star = refl
same_self Equals = refl
same_self G = refl
same_self O = refl
same_self While = refl
same_self If = refl
same_self EndIf = refl
same_self EndWhile = refl
