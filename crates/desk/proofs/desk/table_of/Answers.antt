use Rattle.std.proofs.Common.{w32, SFits, rules}
use Rattle.std.proofs.lemmas.Int.{to_z-of_z}
use Rattle.desk.proofs.desk.table_of.Goals as goal

pub returns-in-Beam : goal.returns-in-Beam
returns-in-Beam c = let f : SFits w32 c.in-Beam.gap = search rules in rw c.in-Beam.is (simp to_z-of_z at c.on_beam-in-Beam.ensures)
