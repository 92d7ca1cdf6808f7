use Rattle.std.proofs.Common.{◌≡◌, ℕ, List, Result, sym, ◌∙◌, subst, arith}
use Rattle.model.specs.declared.line.Line.{Line}
use Rattle.grammar.specs.declared.refusal.Refusal.{Refusal}
use Rattle.grammar.specs.Answer.{answer}
use Rattle.grammar.specs.Law.{TheAnswer}
use Rattle.grammar.proofs.Texts.{long_answer, byte_answer}
use Rattle.grammar.proofs.Unique.{the_answer}
use Rattle.reader.proofs.Finish.{parses_reading, passed}
use Rattle.reader.proofs.read.Goals as goal

lawful : (s : List ℕ) (r : Result Line Refusal) → r ≡ answer s → TheAnswer s r
lawful s r e = subst (TheAnswer s) (sym e) (the_answer s)

pub returns-then-text-gt-MAX_TEXT : goal.returns-then-text-gt-MAX_TEXT
returns-then-text-gt-MAX_TEXT c =
    let e = sym (long_answer c.args.text.now (omega arith)) in
    record { law = lawful c.args.text.now _ e; is = e }

pub returns-in-Some : goal.returns-in-Some
returns-in-Some c =
    let e = sym (byte_answer c.args.text.now c.in-Some.place (omega arith) c.in-Some.ensures.0 c.in-Some.ensures.1) in
    record { law = lawful c.args.text.now _ e; is = e }

pub returns : goal.returns
returns c =
    let e = parses_reading _ _ _ c.args.text c.new-reader.ensures.at c.new-reader.ensures.text c.line.ensures ∙ sym (passed c.args.text.now (omega arith) c.in_default.ensures) in
    record { law = lawful c.args.text.now _ e; is = e }
