-- What one line of a script does to the session that stands, and what it is answered.
use Rattle.std.specs.Prelude.{◌≡◌, ℕ, [], ◌∷◌, Option}
use Rattle.command.specs.Commands.{Meant}
use Rattle.session.specs.Memory.{memory, blank}
use Rattle.session.specs.declared.session.Session.{Session}
use Rattle.calls.specs.Law.{event}
use Rattle.calls.specs.Playing.{AllKept, afters}
use Rattle.desk.specs.declared.answer.Reply.{Reply}
use Rattle.desk.specs.declared.answer.Reply.TheVariants.{Done}
use Rattle.desk.specs.declared.entry.Answer.{Answer}
use Rattle.desk.specs.declared.entry.Entry.{Entry}
use Rattle.desk.specs.declared.entry.Entry.TheVariants.{Call as ACall, Table as ATable, Note as ANote}
use Rattle.desk.specs.Answers.{answer}
use Rattle.desk.specs.Scripts.{Table, Enters, call_of}
use Rattle.desk.specs.Stretches.{envelope_of}

-- a call is answered as the law has it after what the session remembers, and its travel stays; a table begins a blank session in its place;
-- a line that asks for neither leaves the whole session as it is
abbrev pub Changes : {t : _} → Session Table t → Entry → Reply → Session Table t → Type 0
Changes s (ACall c) a after =
    AllKept (envelope_of s.travel) (memory s) (event (call_of c) (answer a) ∷ [])
    × (memory after ≡ afters (envelope_of s.travel).home (memory s) (event (call_of c) (answer a) ∷ []))
    × (after.travel ≡ s.travel)
Changes s (ATable t) a after = (a ≡ Done) × (after.travel ≡ t) × (memory after ≡ blank)
Changes s (ANote n) a after = (a ≡ Done) × (after ≡ s)

-- a line of a script, with its number: what it asks for, and what that changes
abbrev pub Serves : {t : _} → Session Table t → ℕ → Option Meant → Answer → Session Table t → Type 0
Serves s n m a after = Enters n m a.entry × Changes s a.entry a.reply after
