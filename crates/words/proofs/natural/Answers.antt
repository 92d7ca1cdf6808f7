use Rattle.std.proofs.Common.{sym}
use Rattle.words.proofs.Digits.{all_are_digits}
use Rattle.words.proofs.natural.Goals as goal

pub number-requires : goal.number-requires
number-requires c = (all_are_digits _ (sym c.if-not-is_digits.ensures), c.if-text-gt-MAX_DIGITS.false)
