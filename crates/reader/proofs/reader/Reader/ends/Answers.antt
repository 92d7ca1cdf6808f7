use Rattle.reader.proofs.Chains.{parses_beyond}
use Rattle.reader.proofs.reader.Reader.ends.Goals as goal

pub returns-in-Some : goal.returns-in-Some
returns-in-Some c = parses_beyond c.args.line _ c.next-item.result _ _ c.next-item.ensures c.in-Some.is
