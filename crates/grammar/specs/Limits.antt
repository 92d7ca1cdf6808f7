-- How long a text may be, and which bytes it may hold.
use Rattle.std.specs.Prelude.{ℕ}

-- the length of the longest text that is read, in bytes
abbrev pub longest : ℕ
longest = 120

-- the least byte that a text may hold, a blank, and the greatest, a tilde
abbrev pub least_byte : ℕ
least_byte = 32

abbrev pub greatest_byte : ℕ
greatest_byte = 126
