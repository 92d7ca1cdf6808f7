use Rattle.std.proofs.Common.{◌≡◌, ap, ◌∙◌, arith}
use Rattle.std.specs.Str.Parse.{digits_value}
use Rattle.std.proofs.lemmas.Str.Parse.{digit_at}
use Rattle.std.proofs.lemmas.List.{take_all}
use Rattle.lexer.proofs.Numbers.{small, more, below}
use Rattle.lexer.proofs.digits.number.Goals as goal

pub overflow_mul-n : goal.overflow_mul-n
overflow_mul-n c = omega (arith, c.loop-b.invariant, small c.args.s.now c.loop-b.b-index 7 c.requires.0 (omega arith) (omega arith))

pub overflow_sub-n : goal.overflow_sub-n
overflow_sub-n c = (digit_at c.args.s.now c.loop-b.b-index c.requires.0 (omega arith)).0

pub overflow_add-n : goal.overflow_add-n
overflow_add-n c =
    let d = digit_at c.args.s.now c.loop-b.b-index c.requires.0 (omega arith) in
    omega (arith, c.loop-b.invariant, small c.args.s.now c.loop-b.b-index 7 c.requires.0 (omega arith) (omega arith))

pub loop-b-preserved : goal.loop-b-preserved
loop-b-preserved c = omega (arith, c.loop-b.invariant, more c.args.s.now c.loop-b.b-index c.requires.0 (omega arith))

pub returns-clause-below : goal.returns-clause-below
returns-clause-below c =
    let is : c.loop-b.n ≡ digits_value 10 c.args.s.now = c.loop-b.invariant ∙ ap (digits_value 10) (take_all c.loop-b.b-index c.args.s.now (omega arith)) in
    omega (arith, below c.args.s.now c.requires.0 c.requires.1)
