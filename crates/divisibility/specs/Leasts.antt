-- The least number that passes a test.
use Rattle.std.specs.Prelude.{ℕ, zero, suc, ◌<◌, Bool, cond, Some, None, Option}
use Rattle.std.specs.Option.{option_or}

-- the least number below n that passes a test
unfoldable pub least : ℕ → (ℕ → Bool) → Option ℕ
least zero p = None
least (suc n) p = option_or (least n p) (cond (p n) (Some n) None)

-- what was found lies below n
abbrev pub Below : ℕ → Option ℕ → Type 0
Below n None = Unit {0}
Below n (Some t) = t < n
