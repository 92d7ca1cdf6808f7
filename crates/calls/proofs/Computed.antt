-- What stands, computed: for proofs that go through a program text by text.
use Rattle.std.proofs.Common.{◌≡◌, ℕ, Bool, true, false, cond, List, [], ◌∷◌, ◌++◌, Ok, Err, Result, sym, ap, ◌∙◌, subst}
use Rattle.grammar.specs.Answer.{answer}
use Rattle.grammar.specs.declared.refusal.Refusal.{Refusal as NoLine}
use Rattle.model.specs.Envelopes.{Envelope}
use Rattle.model.specs.declared.line.Line.{Line}
use Rattle.calls.specs.Law.{accepted, Event, event, line, allow, wipe, certify, start, step, dry, OneMore, ProgramIs, Standing, standing, After}
use Rattle.calls.proofs.Programs.{only_reading}

-- the line that a text is read as
abbrev pub line_in : Result Line NoLine → List Line
line_in (Ok x) = x ∷ []
line_in (Err e) = []

abbrev pub program_of : List Event → List Line
program_of [] = []
program_of (event (line text) a ∷ past) = cond (accepted a) (program_of past ++ line_in (answer text)) (program_of past)
program_of (event wipe a ∷ past) = []
program_of (event call a ∷ past) = program_of past

with_text : (text : List ℕ) (b : Bool) (past : List Event) (lines : List Line) → ((xs : List Line) → ProgramIs past xs → xs ≡ program_of past) → cond b (OneMore text (ProgramIs past) lines) (ProgramIs past lines)
    → lines ≡ cond b (program_of past ++ line_in (answer text)) (program_of past)
with_text text true past lines before more = more.is ∙ ap (λ xs. xs ++ (more.added ∷ [])) (before more.before more.held) ∙ ap (λ r. program_of past ++ line_in r) (sym (only_reading text (Ok more.added) more.read))
with_text text false past lines before p = before lines p

pub program_is : (past : List Event) (lines : List Line) → ProgramIs past lines → lines ≡ program_of past
program_is [] lines p = p
program_is (event (line text) a ∷ past) lines p = with_text text (accepted a) past lines (program_is past) p
program_is (event (allow n range) a ∷ past) lines p = program_is past lines p
program_is (event wipe a ∷ past) lines p = p
program_is (event (certify domain states) a ∷ past) lines p = program_is past lines p
program_is (event (start vs) a ∷ past) lines p = program_is past lines p
program_is (event step a ∷ past) lines p = program_is past lines p
program_is (event (dry vs steps) a ∷ past) lines p = program_is past lines p

-- what is so after the past is so with the program that is computed
pub after_computed : (travel : Envelope) (past : List Event) (IsSo : Standing → Type 0) → After travel past IsSo → IsSo (standing travel.home past (program_of past))
after_computed travel past IsSo (lines, p, k) = subst (λ (xs : List Line). IsSo (standing travel.home past xs)) (program_is past lines p.is) k
