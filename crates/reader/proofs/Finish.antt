-- What the reader did is what the text is answered.
use Rattle.std.proofs.Common.{◌≡◌, ℕ, ◌<◌, ◌≤◌, true, false, cond, eqb, leb, List, length, drop, Option, Some, None, MatchOption, unwrap_or, Ok, Err, Result, sym, refl, ap, ◌∙◌, arith, Bor}
use Rattle.std.proofs.lemmas.Bool.Decides.{nat_tests}
use Rattle.std.proofs.lemmas.Iterator.{index_from_first}
use Rattle.std.specs.List.{AllWithin, HoldsAt}
use Rattle.lexer.specs.declared.lexer.Lexer.{Lexer}
use Rattle.model.specs.declared.line.Line.{Line}
use Rattle.grammar.specs.declared.refusal.Refusal.{Refusal}
use Rattle.grammar.specs.Combinators.{Parsed, got, bad}
use Rattle.grammar.specs.Parser.{line}
use Rattle.grammar.specs.Symbols.{symbols}
use Rattle.grammar.specs.declared.refusal.Cause.TheVariants.{Length, Byte}
use Rattle.grammar.specs.Limits.{longest}
use Rattle.grammar.specs.Causes.{refused}
use Rattle.grammar.specs.Answer.{front, answered, reading, permitted, clear, short_answer, answer}
use Rattle.lexer.specs.Lexemes.{Lexeme, lexemes, lexemes_from}
use Rattle.reader.specs.Parses.{ahead, Agrees, Parses}
use Rattle.grammar.proofs.Texts.{dropped}

told_by : (v : Parsed Line) (end : ℕ) (ts to : List Lexeme) (r : Result Line Refusal) → Agrees v end ts r to → r ≡ answered ts end v
told_by (got l rest) end ts to (Ok b) s = ap Ok s.0
told_by (got l rest) end ts to (Err e) s = absurd s
told_by (bad k rest) end ts to (Ok b) s = absurd s
told_by (bad k rest) end ts to (Err e) (n, (ws, (us, cut), same, at)) =
    λ i. refused (n i) ((at ∙ ap (λ l. front l end) (sym (dropped ts us ws rest cut same))) i)

pub parses_reading : (a : Lexer) (r : Result Line Refusal) (b : Lexer) (text : Bor (List ℕ)) → a.at ≡ 0 → a.text ≡ text → Parses line a r b → r ≡ reading text.now
parses_reading a r b text z e d =
    let from : ahead a ≡ lexemes text.now = λ i. lexemes_from 0 (z i) (drop (z i) (e i).now) in
    told_by (line (symbols (ahead a))) (length a.text.now) (ahead a) (ahead b) r d.says ∙ (λ i. answered (from i) (length (e i).now) (line (symbols (from i))))

-- ---- where a search finds the first byte that is not permitted, or that there is none
pub clear_at : (s : List ℕ) (r : Option ℕ) → MatchOption r (AllWithin (λ b. permitted b ≡ true) s 0 (length s)) (λ i. (i < length s) × HoldsAt (λ b. permitted b ≡ false) s i × AllWithin (λ b. permitted b ≡ true) s 0 i) → clear s ≡ unwrap_or r (length s)
clear_at = index_from_first clear (λ b. permitted b ≡ false) (λ b. permitted b ≡ true) refl (λ b bs e. rw e refl) (λ b bs e. rw e (omega arith))

pub first_at : (s : List ℕ) (r : Option ℕ) → MatchOption r (AllWithin (λ b. permitted b ≡ true) s 0 (length s)) (λ i. (i < length s) × HoldsAt (λ b. permitted b ≡ false) s i × AllWithin (λ b. permitted b ≡ true) s 0 i) → MatchOption r (clear s ≡ length s) (λ i. (clear s ≡ i) × (i < length s))
first_at s None h = clear_at s None h
first_at s (Some i) h = (clear_at s (Some i) h, h.0)

-- ---- a text that passes the two tests
pub passed : (s : List ℕ) → length s ≤ longest → clear s ≡ length s → answer s ≡ reading s
passed s h e =
    let t : leb (length s) longest ≡ true = grind (arith, nat_tests) in
    let u : eqb (clear s) (length s) ≡ true = grind (arith, nat_tests) in
    ap (λ v. cond v (short_answer s) (refused Length longest)) t ∙ ap (λ v. cond v (reading s) (refused Byte (clear s))) u
