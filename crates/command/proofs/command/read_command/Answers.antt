use Rattle.command.proofs.Meaning.{the_command}
use Rattle.command.proofs.command.read_command.Goals as goal

pub returns : goal.returns
returns c = record { law = the_command _ _ c.by_words.ensures; is = c.by_words.ensures }
