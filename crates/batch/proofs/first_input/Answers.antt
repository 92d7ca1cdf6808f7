-- Lines are passed until one is the marker.
use Rattle.std.proofs.Common.{sym, ◌∙◌}
use lib.Pointwise.{bytes_decides}
use Rattle.batch.proofs.Passing.{apart, ends, one_more, none_left}
use Rattle.batch.proofs.first_input.Goals as goal

pub returns-then-eq-clause-cut : goal.returns-then-eq-clause-cut
returns-then-eq-clause-cut c = ends _ _ _ _ c.loop-line.invariant c.in-Some.ensures.cut ((bytes_decides _ _).0 (sym c.if-eq.ensures) ∙ c.as_slice.ensures)

pub loop-line-preserved : goal.loop-line-preserved
loop-line-preserved c = one_more _ _ _ _ c.loop-line.invariant c.in-Some.ensures.cut (apart _ _ _ c.as_slice.ensures c.if-eq.ensures)

pub returns-clause-cut : goal.returns-clause-cut
returns-clause-cut c = none_left _ _ c.loop-line.invariant c.in_default.ensures.cut
