-- One of the items that are held, in place of another.
use Rattle.std.proofs.Common.{arith, length-take-le}
use lib.Seq.{take-set-lt}
use Rattle.program.proofs.rack.Rack.set.Goals as goal

pub returns : goal.returns
returns g c =
    let all = length-take-le c.args.self.now.count c.args.self.now.places (omega arith) in
    take-set-lt _ _ _ _ (let t = c.requires in omega arith)
