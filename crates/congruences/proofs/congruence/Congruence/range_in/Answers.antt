use Rattle.congruences.specs.Narrows.{found_of}
use Rattle.congruences.proofs.congruence.Congruence.range_in.Goals as goal

pub returns : goal.returns
returns c =
    let f = found_of c.args.self c.args.range c.unwrap_or.result c.ends_in.result c.ends_in.ensures c.unwrap_or.ensures in
    record { value = f.0; found = f.1 }
