-- How many lines a program has at most, and how many blocks. What the table answers, and its memory of MAX_LINES and MAX_BLOCKS places,
-- are held to these.
use Rattle.std.specs.Prelude.{ℕ}

abbrev pub max_lines : ℕ
max_lines = 128

abbrev pub max_blocks : ℕ
max_blocks = 16
