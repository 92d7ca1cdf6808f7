-- Linear equations modulo n.
use Rattle.std.specs.Prelude.{ℕ, Bool, pos, ◌*ℤ◌}
use Rattle.divisibility.specs.Multiples.{agrees}

-- t times m is d, but for a multiple of n
abbrev pub makes : ℕ → ℕ → ℕ → ℕ → Bool
makes m n d t = agrees n (pos t *ℤ pos m) (pos d)
