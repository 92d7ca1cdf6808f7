-- The greatest length in micrometres. A number of a program, and a result, lies from -limit to limit.
use Rattle.std.specs.Prelude.{ℕ}

abbrev pub limit : ℕ
limit = 10000000
