use Rattle.std.proofs.Common.{◌-◌}
use Rattle.grammar.specs.Axes.{count}
use Rattle.reader.proofs.reader.Reader.+more.Given as goal

abbrev pub decreases-more : goal.decreases-more
decreases-more l = 4 - count l.values.now
