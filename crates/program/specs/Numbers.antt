-- The number of each refusal of a line, with what it carries: a place in the text, if the text is at fault.
use Rattle.model.specs.Refusals.{nothing, place, Told, told}
use Rattle.grammar.specs.Causes.{number_of}
use Rattle.program.specs.declared.refusal.TableRefusal.{TableRefusal}
use Rattle.program.specs.declared.refusal.TableRefusal.TheVariants.{Lines, End, Label, Blocks}
use Rattle.program.specs.declared.refusal.LineRefusal.{LineRefusal}
use Rattle.program.specs.declared.refusal.LineRefusal.TheVariants.{Text, Table}

abbrev pub table_refusal : TableRefusal → Told
table_refusal Lines = told 21 nothing
table_refusal End = told 22 nothing
table_refusal Label = told 23 nothing
table_refusal Blocks = told 24 nothing

abbrev pub line_refusal : LineRefusal → Told
line_refusal (Text e) = told (number_of e.cause) (place e.place)
line_refusal (Table e) = table_refusal e
