use Rattle.std.proofs.Common.{◌≡◌, rules}
use Rattle.congruences.specs.Commons.{common}
use Rattle.congruences.specs.Sharing.{shared_of}
use Rattle.congruences.proofs.congruence.Congruence.common.Goals as goal

pub returns-then-self-eq0 : goal.returns-then-self-eq0
returns-then-self-eq0 c =
    let v : c.lone.result ≡ common c.args.self c.args.other = search rules in
    record { value = v; members = shared_of c.args.self c.args.other _ v }

pub returns-then-other-eq0 : goal.returns-then-other-eq0
returns-then-other-eq0 c =
    let v : c.lone-then-other-eq0.result ≡ common c.args.self c.args.other = search rules in
    record { value = v; members = shared_of c.args.self c.args.other _ v }

pub returns-else-other-eq0 : goal.returns-else-other-eq0
returns-else-other-eq0 c =
    let v : c.met.result ≡ common c.args.self c.args.other = search rules in
    record { value = v; members = shared_of c.args.self c.args.other _ v }
