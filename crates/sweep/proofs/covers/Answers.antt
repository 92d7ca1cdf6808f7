use Rattle.sweep.proofs.Covered.{covers as covered, comes_from, keeps_loops}
use Rattle.sweep.proofs.covers.Goals as goal

pub returns : goal.returns
returns g c =
    let t = g.T.Travel.envelope c.args.travel.now in
    record {
      known = covered g.D.Domain.lattice t g.met.D.Domain.lawful;
      judging = comes_from g.D.Domain.lattice t;
      kept = keeps_loops g.D.Domain.lattice t;
    }
