-- What a line of a script asks for: a call of the session that stands, or a session on another table.
use Rattle.std.specs.Prelude.{◌≡◌, ℕ, min, List, [], ◌∷◌, ℤ, pos, negsuc, Some, None, Ok, Err, codes, Option, Result}
use Rattle.model.specs.declared.axes.Ends.{Ends}
use Rattle.model.specs.Environments.{registers}
use Rattle.command.specs.Commands.{Meant, bench_gantry as ask_gantry, bench_beam as ask_beam, gantry, beam, meant_call}
use Rattle.command.specs.declared.command.Call.{Call as Asked}
use Rattle.command.specs.declared.command.NewTable.{NewTable}
use Rattle.command.specs.declared.domain_name.DomainName.{DomainName}
use Rattle.command.specs.declared.domain_name.DomainName.TheVariants.{Intervals, Congruences, IntervalsAndCongruences, CongruencesAndIntervals, TwiceIntervals}
use Rattle.intervals.specs.Intervals.{intervals}
use Rattle.congruences.specs.Numbers.{congruences}
use Rattle.pointwise.specs.States.{pointwise}
use Rattle.domain.specs.Pairs.{pair}
use Rattle.program.specs.Limits.{max_blocks}
use Rattle.travel.specs.declared.beam.Beam.{Beam}
use Rattle.travel.specs.declared.gantry.Gantry.{Gantry}
use Rattle.either.specs.declared.Either.{Either}
use Rattle.either.specs.declared.Either.TheVariants.{Left, Right}
use Rattle.travel.specs.declared.refusal.TravelRefusal.{TravelRefusal}
use Rattle.travel.specs.Benches.{bench_gantry, bench_beam, bench_gap}
use Rattle.travel.specs.Beams.{BeamMade}
use Rattle.travel.specs.Gantries.{GantryMade}
use Rattle.calls.specs.Events.{domain}
use Rattle.calls.specs.Law.{AnyDomain, Event, event, Call, line as Line, allow as Allow, wipe as Wipe, certify as Certify, start as Start, step as Step, dry as Dry}
use Rattle.desk.specs.declared.answer.Note.TheVariants.{Bad, NoTable}
use Rattle.desk.specs.declared.answer.Reply.{Reply}
use Rattle.desk.specs.declared.answer.Reply.TheVariants.{Done}
use Rattle.desk.specs.declared.entry.Entry.{Entry}
use Rattle.desk.specs.declared.entry.Entry.TheVariants.{Call as ACall, Note as ANote, Table as ATable}
use Rattle.desk.specs.Answers.{answer, note_text}
use Rattle.desk.specs.Texts.{answer_text}

-- ---- calls
-- the domain of a name
abbrev pub domain_named : DomainName → AnyDomain
domain_named Intervals = domain (pointwise intervals registers)
domain_named Congruences = domain (pointwise congruences registers)
domain_named IntervalsAndCongruences = domain (pair (pointwise intervals registers) (pointwise congruences registers) registers)
domain_named CongruencesAndIntervals = domain (pair (pointwise congruences registers) (pointwise intervals registers) registers)
domain_named TwiceIntervals = domain (pair (pointwise intervals registers) (pointwise intervals registers) registers)

-- a parameter below 1 is none
abbrev pub natural : ℤ → ℕ
natural (pos n) = n
natural (negsuc n) = 0

-- a command, as a call of the law. At most as many states are lent as a program may have blocks.
abbrev pub call_of : Asked → Call
call_of (Asked.Line text) = Line text.now
call_of (Asked.Allow p r) = Allow (natural p) r
call_of Asked.Wipe = Wipe
call_of (Asked.Certify d k) = Certify (domain_named d) (min k max_blocks)
call_of (Asked.Start vs) = Start vs
call_of Asked.Step = Step
call_of (Asked.Dry vs k) = Dry vs k

-- ---- tables
abbrev pub Table : Type 0
Table = Either Gantry Beam

-- a gantry with these ends, or why there is none
abbrev pub OnGantry : Ends → Result Table TravelRefusal → Type 0
OnGantry ends (Ok (Left g)) = GantryMade ends (Ok g)
OnGantry ends (Ok (Right b)) = ⊥
OnGantry ends (Err e) = GantryMade ends (Err e)

abbrev pub OnBeam : Ends → ℤ → Result Table TravelRefusal → Type 0
OnBeam ends gap (Ok (Left g)) = ⊥
OnBeam ends gap (Ok (Right b)) = BeamMade ends gap (Ok b)
OnBeam ends gap (Err e) = BeamMade ends gap (Err e)

-- ---- entries
-- an entry on line n of a script: it asks for a call, or for a session on a table, and the note of it says if there is none such
abbrev pub Made : (Result Table TravelRefusal → Type 0) → Entry → Type 0
Made P (ATable t) = P (Ok t)
Made P (ANote (NoTable e)) = P (Err e)
Made P (ANote (Bad n)) = ⊥
Made P (ACall c) = ⊥

abbrev pub Names : NewTable → Result Table TravelRefusal → Type 0
Names NewTable.BenchGantry r = OnGantry bench_gantry r
Names NewTable.BenchBeam r = OnBeam bench_beam bench_gap r
Names (NewTable.Gantry ends) r = OnGantry ends r
Names (NewTable.Beam ends gap) r = OnBeam ends gap r

abbrev pub Called : Meant → Entry → Type 0
Called m (ACall c) = meant_call c ≡ m
Called m (ATable t) = ⊥
Called m (ANote n) = ⊥

abbrev pub Enters : ℕ → Option Meant → Entry → Type 0
Enters n None e = e ≡ ANote (Bad n)
Enters n (Some ask_gantry) e = Made (OnGantry bench_gantry) e
Enters n (Some ask_beam) e = Made (OnBeam bench_beam bench_gap) e
Enters n (Some (gantry ends)) e = Made (OnGantry ends) e
Enters n (Some (beam ends gap)) e = Made (OnBeam ends gap) e
Enters n (Some m) e = Called m e

-- the table whose session takes the place of the one that stands
abbrev pub table_in : Entry → Option Table
table_in (ACall c) = None
table_in (ATable t) = Some t
table_in (ANote n) = None

-- an entry that asks for a call makes that one, others make none
abbrev pub events_of : Entry → Reply → List Event
events_of (ACall c) a = event (call_of c) (answer a) ∷ []
events_of (ATable t) a = []
events_of (ANote n) a = []

-- an entry stays as it is, and one that asks for no call is answered that it is done
abbrev pub Stays : Entry → Entry → Reply → Type 0
Stays (ACall c) d a = d ≡ ACall c
Stays (ATable t) d a = (d ≡ ATable t) × (a ≡ Done)
Stays (ANote n) d a = (d ≡ ANote n) × (a ≡ Done)

-- what is printed for an entry: of a call its reply, of a table that it is there, and a note itself
abbrev pub entry_text : Entry → Reply → List ℕ
entry_text (ACall c) a = answer_text (answer a)
entry_text (ATable t) a = codes "ok"
entry_text (ANote n) a = note_text n
