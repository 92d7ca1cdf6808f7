-- A whole script: its entries, cut at its tables, and what each is answered.
use Rattle.std.specs.Prelude.{◌≡◌, ℕ, ◌+◌, List, [], ◌∷◌, ◌++◌, map, Some, None, Ok}
use Rattle.model.specs.Envelopes.{Envelope}
use Rattle.travel.specs.Beams.{beam_envelope}
use Rattle.travel.specs.Benches.{bench_gantry}
use Rattle.travel.specs.Eithers.{either}
use Rattle.travel.specs.Gantries.{gantry_envelope}
use Rattle.command.specs.Commands.{command_of}
use Rattle.console.specs.Lines.{lines_of}
use Rattle.calls.specs.Law.{Event, Lawful}
use Rattle.desk.specs.declared.entry.Answer.{Answer}
use Rattle.desk.specs.declared.entry.Entry.{Entry}
use Rattle.desk.specs.declared.answer.Reply.{Reply}
use Rattle.desk.specs.Scripts.{Table, OnGantry, Enters, events_of, table_in}

-- ---- entries
-- the entries of lines, of which the first is line n of the script
abbrev pub EntersEach : ℕ → List (List ℕ) → List Entry → Type 0
EntersEach n [] [] = Unit {0}
EntersEach n [] (e ∷ es) = ⊥
EntersEach n (l ∷ ls) [] = ⊥
EntersEach n (l ∷ ls) (e ∷ es) = Enters n (command_of l) e × EntersEach (n + 1) ls es

abbrev pub asked : List Answer → List Entry
asked qs = map (λ a. a.entry) qs

-- ---- a stretch
-- none of the entries sets up a table
abbrev pub NoTable : List Entry → Type 0
NoTable [] = Unit {0}
NoTable (e ∷ es) = (table_in e ≡ None) × NoTable es

-- the calls that are asked for, with their answers
abbrev pub events_in : List Answer → List Event
events_in [] = []
events_in (a ∷ qs) = events_of a.entry a.reply ++ events_in qs

-- entries, each with what it is answered
abbrev pub paired : List Entry → List Reply → List Answer
paired [] rs = []
paired (e ∷ es) [] = []
paired (e ∷ es) (r ∷ rs) = record { entry = e; reply = r } ∷ paired es rs

abbrev pub envelope_of : Table → Envelope
envelope_of = either gantry_envelope beam_envelope

-- the answers to entries on one table: their calls are made on a session just made, and the law holds of them
abbrev pub Stretch : Table → List Answer → Type 0
Stretch t qs = NoTable (asked qs) × Lawful (envelope_of t) [] (events_in qs)

-- the entries of a stretch are answered on the table, and their answers stand behind those that were there
pub record Finished (t : Table) (es : List Entry) (old new : List Answer) : Type 0 where
  pub added : List Answer
  pub all : new ≡ old ++ added
  pub entries : asked added ≡ es
  pub law : Lawful (envelope_of t) [] (events_in added)

-- ---- a script
-- a stretch on the table that stands lasts up to the next entry that sets up a table; what follows is answered on that one
pub data Stretches : Table → List Answer → Type 0 where
  last : (t : Table) (qs : List Answer) → Stretch t qs → Stretches t qs
  next : (t u : Table) (qs : List Answer) (a : Answer) (more : List Answer) → Stretch t qs → table_in a.entry ≡ Some u → Stretches u more → Stretches t (qs ++ (a ∷ more))

-- each line of a script has its entry and its answer; the first stretch is on the gantry of the examples
pub record Answered (script : List ℕ) (qs : List Answer) : Type 0 where
  pub entries : EntersEach 1 (lines_of script) (asked qs)
  pub first : Table
  pub made : OnGantry bench_gantry (Ok first)
  pub stretches : Stretches first qs
