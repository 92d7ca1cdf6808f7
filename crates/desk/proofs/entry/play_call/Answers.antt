-- A step is answered as it tells.
use Rattle.std.proofs.Common.{ap}
use Rattle.desk.proofs.Playing.{step_kept}
use Rattle.desk.specs.Scripts.{call_of}
use Rattle.desk.proofs.entry.play_call.Goals as goal

pub returns-in-Step-clause-kept : goal.returns-in-Step-clause-kept
returns-in-Step-clause-kept g c = step_kept _ _ _ c.in_ok-play-in-Step.field-0 _ (ap call_of c.in-Step.is) c.into.ensures c.in_ok-play-in-Step.ensures.kept
