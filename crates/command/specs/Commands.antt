-- What a line asks for: its first word chooses, and the words after it must be exactly so many numbers.
use Rattle.std.specs.Prelude.{ℕ, ◌+◌, List, [], ◌∷◌, length, take, drop, ℤ, pos, negsuc, Some, None, Option}
use Rattle.model.specs.declared.range.Range.{Range}
use Rattle.model.specs.declared.axes.Ends.{Ends}
use Rattle.model.specs.Environments.{at, position, parameters}
use Rattle.command.specs.declared.command.Call.{Call}
use Rattle.command.specs.declared.command.Command.{Command}
use Rattle.command.specs.declared.command.NewTable.{NewTable}
use Rattle.command.specs.declared.domain_name.DomainName.{DomainName}
use Rattle.command.specs.declared.word.Word.{Word}
use Rattle.command.specs.declared.word.Word.TheVariants.{BenchGantry, BenchBeam, Gantry, Beam, Line, Allow, Wipe, Start, Step, Dry, Certify}
use Rattle.command.specs.Words.{words_of, word_of, domain_of}
use Rattle.command.specs.Numbers.{numbers_of}

-- what a command means: the text of a line is its bytes
pub data Meant : Type 0 where
  bench_gantry : Meant
  bench_beam : Meant
  gantry : (ends : Ends) → Meant
  beam : (ends : Ends) (gap : ℤ) → Meant
  line : (text : List ℕ) → Meant
  allow : (parameter : ℤ) (range : Range) → Meant
  wipe : Meant
  start : (values : List ℤ) → Meant
  step : Meant
  dry : (values : List ℤ) (steps : ℕ) → Meant
  certify : (domain : DomainName) (states : ℕ) → Meant

abbrev pub meant_table : NewTable → Meant
meant_table NewTable.BenchGantry = bench_gantry
meant_table NewTable.BenchBeam = bench_beam
meant_table (NewTable.Gantry ends) = gantry ends
meant_table (NewTable.Beam ends gap) = beam ends gap

abbrev pub meant_call : Call → Meant
meant_call (Call.Line text) = line text.now
meant_call (Call.Allow parameter range) = allow parameter range
meant_call Call.Wipe = wipe
meant_call (Call.Certify domain states) = certify domain states
meant_call (Call.Start values) = start values
meant_call Call.Step = step
meant_call (Call.Dry values steps) = dry values steps

abbrev pub meant : Command → Meant
meant (Command.Table t) = meant_table t
meant (Command.Call c) = meant_call c

-- lower X Y Z U, upper X Y Z U, home X Y Z U
abbrev pub ends_of : List ℤ → Ends
ends_of ns = record { lower = position ns; home = position (drop 8 ns); upper = position (drop 4 ns) }

abbrev pub as_gantry : Option (List ℤ) → Option Meant
as_gantry None = None
as_gantry (Some ns) = Some (gantry (ends_of ns))

-- the same and then the gap
abbrev pub as_beam : Option (List ℤ) → Option Meant
as_beam None = None
as_beam (Some ns) = Some (beam (ends_of ns) (at ns 12))

-- parameter, low, high
abbrev pub as_allow : Option (List ℤ) → Option Meant
as_allow None = None
as_allow (Some ns) = Some (allow (at ns 0) (record { lo = at ns 1; hi = at ns 2 }))

-- six values
abbrev pub as_start : Option (List ℤ) → Option Meant
as_start None = None
as_start (Some ns) = Some (start ns)

-- a count of steps is not negative
abbrev pub with_steps : List ℤ → ℤ → Option Meant
with_steps values (pos n) = Some (dry values n)
with_steps values (negsuc n) = None

-- six values and a count of steps
abbrev pub as_dry : Option (List ℤ) → Option Meant
as_dry None = None
as_dry (Some ns) = with_steps (take parameters ns) (at ns parameters)

-- a count of states is not negative
abbrev pub with_states : DomainName → ℤ → Option Meant
with_states d (pos n) = Some (certify d n)
with_states d (negsuc n) = None

abbrev pub in_domain : Option DomainName → Option (List ℤ) → Option Meant
in_domain None o = None
in_domain (Some d) None = None
in_domain (Some d) (Some ns) = with_states d (at ns 0)

-- a domain and a count of states
abbrev pub as_certify : List (List ℕ) → Option Meant
as_certify [] = None
as_certify (w ∷ ws) = in_domain (domain_of w) (numbers_of 1 ws)

-- no word follows
abbrev pub alone : Meant → List (List ℕ) → Option Meant
alone m [] = Some m
alone m (w ∷ ws) = None

-- the first word, the words after it, and the text after one blank
abbrev pub chosen : Word → List (List ℕ) → List ℕ → Option Meant
chosen BenchGantry ws text = alone bench_gantry ws
chosen BenchBeam ws text = alone bench_beam ws
chosen Gantry ws text = as_gantry (numbers_of 12 ws)
chosen Beam ws text = as_beam (numbers_of 13 ws)
chosen Line ws text = Some (line text)
chosen Allow ws text = as_allow (numbers_of 3 ws)
chosen Wipe ws text = alone wipe ws
chosen Start ws text = as_start (numbers_of parameters ws)
chosen Step ws text = alone step ws
chosen Dry ws text = as_dry (numbers_of 7 ws)
chosen Certify ws text = as_certify ws

abbrev pub asked : Option Word → List (List ℕ) → List ℕ → Option Meant
asked None ws text = None
asked (Some w) ws text = chosen w ws text

-- the first word of a text, and the others
abbrev pub by_words : List (List ℕ) → List ℕ → Option Meant
by_words [] bs = None
by_words (w ∷ ws) bs = asked (word_of w) ws (drop (length w + 1) bs)

-- the command that a line is, if it is one
abbrev pub command_of : List ℕ → Option Meant
command_of bs = by_words (words_of bs) bs
