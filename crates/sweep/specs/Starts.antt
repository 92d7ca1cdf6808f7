-- Where a sweep starts: every environment in which a run may begin, the axes at home and each parameter in its range.
use Rattle.std.specs.Prelude.{ℕ, suc, List, [], ◌∷◌, ◌++◌}
use Rattle.model.specs.declared.range.Range.{Range}
use Rattle.model.specs.Axes.{Position}
use Rattle.model.specs.Envelopes.{Envelope}
use Rattle.domain.specs.Lattice.{Lattice, Meaning, single}

-- each axis at home
abbrev pub home_ranges : Position → List Range
home_ranges p = single p.x ∷ (single p.y ∷ (single p.z ∷ (single p.u ∷ [])))

-- the registers from r on, each narrowed to its range
abbrev pub narrowed : {S : Type 0} {M : Meaning S} → Lattice M → ℕ → List Range → S → S
narrowed l r [] s = s
narrowed l r (x ∷ xs) s = narrowed l (suc r) xs (l.narrow s r x)

abbrev pub start : {S : Type 0} {M : Meaning S} → Lattice M → Envelope → List Range → S
start l t allowed = narrowed l 0 (home_ranges t.home ++ allowed) l.any
