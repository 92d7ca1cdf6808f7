use Rattle.std.proofs.Common.{arith}
use Rattle.lexer.proofs.Bytes.{token_digits}
use Rattle.reader.proofs.classify.symbol_of.Goals as goal

pub number-requires : goal.number-requires
number-requires c = (token_digits c.args.token c.in-Digits.is, omega arith)
