-- The calls are made, and their answers noted.
use Rattle.desk.proofs.Playing.{if_ok, finished}
use Rattle.desk.proofs.script.note_stretch.Goals as goal

pub returns : goal.returns
returns c =
    let old = c.args.stretch.now in
    let new = c.play_calls.new.calls in
    let stays = c.play_calls.ensures.stays in
    if_ok c.note_answers.result (finished c.args.table old.calls.now new.calls.now old.answers.now new.answers.now _ _ stays.0.1 c.requires stays.1.1 stays.2 c.play_calls.ensures.law) c.note_answers.ensures
