-- Each line is read, and each table ends a stretch.
use Rattle.desk.proofs.Stretching.{read_call, read_table, all_read}
use Rattle.desk.proofs.script.answer_script.Goals as goal

pub loop-before-preserved-in-Continue-1 : goal.loop-before-preserved-in-Continue-1
loop-before-preserved-in-Continue-1 c =
    let steps = c.in-Some.ensures.steps in
    read_call _ _ _ _ _ _ _ _ _ _ _ c.loop-before.invariant steps.0 steps.1 steps.2 _ _ c.read_entry-entry.ensures c.in-None-table.ensures c.in_ok-push-in-None-table.ensures.items

pub loop-before-preserved : goal.loop-before-preserved
loop-before-preserved c =
    let steps = c.in-Some.ensures.steps in
    let done = c.in_ok-answer_stretch-in-Some-table.ensures in
    read_table _ _ _ _ _ _ _ _ _ _ _ c.loop-before.invariant steps.0 steps.1 steps.2 _ _ _ _ _ c.read_entry-entry.ensures c.in-Some-table.ensures done.answered done.left c.in_ok-push-in-Some-table.ensures.items

pub returns : goal.returns
returns c = all_read _ _ _ _ _ _ _ _ c.loop-before.invariant c.in-None.ensures.steps.0 c.in_ok-answer_stretch.ensures.answered c.first_table-table.ensures
