-- The opposite of a condition holds exactly where the condition does not: what stays true past the end of a loop.
use Rattle.model.specs.declared.expression.Rel.{Rel}
use Rattle.model.specs.declared.expression.Rel.TheVariants.{Eq, Ne, Lt, Le, Gt, Ge}
use Rattle.model.specs.declared.expression.Condition.{Condition}

abbrev pub against : Rel → Rel
against Eq = Ne
against Ne = Eq
against Lt = Ge
against Le = Gt
against Gt = Le
against Ge = Lt

-- the same terms under the opposite relation
abbrev pub opposite : Condition → Condition
opposite c = record { rel = against c.rel; left = c.left; right = c.right }
