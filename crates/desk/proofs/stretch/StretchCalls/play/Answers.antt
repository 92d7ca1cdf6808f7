-- A line is read, played, noted and written; one that sets up a table is the last.
use Rattle.std.proofs.Common.{◌≡◌, ◌+◌, None, refl, sym, ◌∙◌, rules}
use Rattle.desk.proofs.Playing.{not_ok, turn_played, turn_read, turn_plain, turn_written, turn_ends}
use Rattle.desk.proofs.stretch.StretchCalls.play.Goals as goal

pub returns-in_err-writeln-clause-kept : goal.returns-in_err-writeln-clause-kept
returns-in_err-writeln-clause-kept g c =
    let now = c.loop-line.invariant in
    let hs = c.loop-line.self.played.items in
    let gs = c.and-self.result.items in
    let one = c.play-reply.ensures in
    (turn_played hs gs c.read_entry-entry.result c.play-reply.new.self c.play-reply.result c.and-self.ensures one.stays g.T.Travel.envelope _ _ _ _ _ _ now.played (record { kept = one.kept; left = one.left; travel = one.travel })).kept

pub returns-in_err-writeln-clause-left : goal.returns-in_err-writeln-clause-left
returns-in_err-writeln-clause-left g c =
    let now = c.loop-line.invariant in
    let hs = c.loop-line.self.played.items in
    let gs = c.and-self.result.items in
    let one = c.play-reply.ensures in
    (turn_played hs gs c.read_entry-entry.result c.play-reply.new.self c.play-reply.result c.and-self.ensures one.stays g.T.Travel.envelope _ _ _ _ _ _ now.played (record { kept = one.kept; left = one.left; travel = one.travel })).left

pub returns-in_err-writeln-clause-stays : goal.returns-in_err-writeln-clause-stays
returns-in_err-writeln-clause-stays g c =
    let now = c.loop-line.invariant in
    let hs = c.loop-line.self.played.items in
    let gs = c.and-self.result.items in
    let one = c.play-reply.ensures in
    record {
      read = turn_read hs gs c.read_entry-entry.result c.play-reply.new.self c.play-reply.result c.and-self.ensures one.stays c.args.self.now.read c.loop-line.self.read (c.loop-line.self.read + 1) c.args.self.now.text.now c.loop-line.self.text.now c.in-Some.more.now c.in-Some.line.now now.read c.in-Some.ensures.lines.0 refl c.read_entry-entry.ensures;
      ends = not_ok _ c.from_residual.result c.from_residual.ensures.0;
      written = not_ok _ c.from_residual.result c.from_residual.ensures.0;
      lent = now.lent;
    }

pub returns-in-Some-table-clause-kept : goal.returns-in-Some-table-clause-kept
returns-in-Some-table-clause-kept g c =
    let now = c.loop-line.invariant in
    let hs = c.loop-line.self.played.items in
    let gs = c.and-self.result.items in
    let one = c.play-reply.ensures in
    (turn_played hs gs c.read_entry-entry.result c.play-reply.new.self c.play-reply.result c.and-self.ensures one.stays g.T.Travel.envelope _ _ _ _ _ _ now.played (record { kept = one.kept; left = one.left; travel = one.travel })).kept

pub returns-in-Some-table-clause-left : goal.returns-in-Some-table-clause-left
returns-in-Some-table-clause-left g c =
    let now = c.loop-line.invariant in
    let hs = c.loop-line.self.played.items in
    let gs = c.and-self.result.items in
    let one = c.play-reply.ensures in
    (turn_played hs gs c.read_entry-entry.result c.play-reply.new.self c.play-reply.result c.and-self.ensures one.stays g.T.Travel.envelope _ _ _ _ _ _ now.played (record { kept = one.kept; left = one.left; travel = one.travel })).left

pub returns-in-Some-table-clause-stays : goal.returns-in-Some-table-clause-stays
returns-in-Some-table-clause-stays g c =
    let now = c.loop-line.invariant in
    let hs = c.loop-line.self.played.items in
    let gs = c.and-self.result.items in
    let one = c.play-reply.ensures in
    record {
      read = turn_read hs gs c.read_entry-entry.result c.play-reply.new.self c.play-reply.result c.and-self.ensures one.stays c.args.self.now.read c.loop-line.self.read (c.loop-line.self.read + 1) c.args.self.now.text.now c.loop-line.self.text.now c.in-Some.more.now c.in-Some.line.now now.read c.in-Some.ensures.lines.0 refl c.read_entry-entry.ensures;
      ends = turn_ends hs gs c.read_entry-entry.result c.play-reply.new.self c.play-reply.result c.and-self.ensures one.stays c.in-Some.more.now c.in-Some-table.table now.plain c.in-Some-table.ensures;
      written = turn_written hs gs c.read_entry-entry.result c.play-reply.new.self c.play-reply.result c.and-self.ensures one.stays _ _ _ now.written c.in_ok-writeln.ensures.bytes;
      lent = now.lent;
    }

pub loop-line-preserved : goal.loop-line-preserved
loop-line-preserved g c =
    let now = c.loop-line.invariant in
    let hs = c.loop-line.self.played.items in
    let gs = c.and-self.result.items in
    let one = c.play-reply.ensures in
    let none : c.table.result ≡ None = search rules in
    record {
      played = turn_played hs gs c.read_entry-entry.result c.play-reply.new.self c.play-reply.result c.and-self.ensures one.stays g.T.Travel.envelope _ _ _ _ _ _ now.played (record { kept = one.kept; left = one.left; travel = one.travel });
      read = turn_read hs gs c.read_entry-entry.result c.play-reply.new.self c.play-reply.result c.and-self.ensures one.stays c.args.self.now.read c.loop-line.self.read (c.loop-line.self.read + 1) c.args.self.now.text.now c.loop-line.self.text.now c.in-Some.more.now c.in-Some.line.now now.read c.in-Some.ensures.lines.0 refl c.read_entry-entry.ensures;
      plain = turn_plain hs gs c.read_entry-entry.result c.play-reply.new.self c.play-reply.result c.and-self.ensures one.stays now.plain (sym none ∙ c.table.ensures);
      written = turn_written hs gs c.read_entry-entry.result c.play-reply.new.self c.play-reply.result c.and-self.ensures one.stays _ _ _ now.written c.in_ok-writeln.ensures.bytes;
      lent = now.lent;
    }
