-- The lines and the blocks that a table holds.
use Rattle.std.specs.Prelude.{List}
use Rattle.model.specs.declared.line.Line.{Line}
use Rattle.model.specs.declared.block.Block.{Block}
use Rattle.program.specs.declared.table.Program.{Program}
use Rattle.program.specs.Racks.{listed}

abbrev pub held : Program → List Line
held p = listed p.lines

abbrev pub held_blocks : Program → List Block
held_blocks p = listed p.blocks
