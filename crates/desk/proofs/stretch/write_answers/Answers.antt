-- One stretch after another is answered.
use Rattle.std.proofs.Common.{◌≡◌, refl, ◌∙◌, subst, rules}
use Rattle.desk.specs.Written.{noted, StretchEnds}
use Rattle.desk.proofs.Writing.{begun, fewer, next_stretch, last_stretch}
use Rattle.desk.proofs.stretch.write_answers.Goals as goal

pub loop-next-init : goal.loop-next-init
loop-next-init g c = record { going = begun c.args.script.now c.first_table-table.result (g.W.Write.contents c.args.writer.now); lent = refl }

pub loop-next-smaller : goal.loop-next-smaller
loop-next-smaller g c =
    let new = c.play_calls.new.calls in
    let stays = c.in_ok-next.ensures.stays in
    fewer _ _ c.loop-next.stretch.text.now new.text.now (noted new.played.items) c.in-Some.next stays.read (subst (StretchEnds new.text.now (noted new.played.items)) c.in-Some.is stays.ends)

pub loop-next-preserved : goal.loop-next-preserved
loop-next-preserved g c =
    let new = c.play_calls.new.calls in
    let stays = c.in_ok-next.ensures.stays in
    let now = c.loop-next.invariant in
    record {
      going = next_stretch _ _ _ _ new.text.now _ _ _ _ _ (noted new.played.items) now.going stays.read c.in_ok-next.ensures.law stays.written c.in-Some.next
          (subst (StretchEnds new.text.now (noted new.played.items)) c.in-Some.is stays.ends);
      lent = stays.lent ∙ now.lent;
    }

pub returns : goal.returns
returns g c =
    let new = c.play_calls.new.calls in
    let stays = c.in_ok-next.ensures.stays in
    let now = c.loop-next.invariant in
    let lent : new.writer.ghost_name ≡ c.loop-next.stretch.writer.ghost_name = stays.lent in
    let done = last_stretch c.args.script.now _ _ _ new.text.now c.first_table-table.result _ _ _ (g.W.Write.contents new.writer.now) (noted new.played.items) now.going stays.read c.in_ok-next.ensures.law stays.written c.flush.result
    (g.W.Write.contents c.flush.new.self) c.first_table-table.ensures (subst (StretchEnds new.text.now (noted new.played.items)) c.in_default.is stays.ends) c.flush.ensures.bytes in
    search rules
