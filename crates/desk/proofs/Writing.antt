-- How far the answers to a script are written while its stretches are played.
use Rattle.std.proofs.Common.{◌≡◌, ℕ, ◌+◌, ◌<◌, List, [], ◌∷◌, ◌++◌, length, Some, None, Ok, Err, Option, Result, OnOk, refl, sym, ap, ◌∙◌, subst, arith}
use Rattle.std.proofs.lemmas.List.{append_assoc, append-nil, length-append}
use Rattle.std.specs.Io.KnownBytes.{Appends, Keeps}
use Rattle.travel.specs.Benches.{bench_gantry}
use Rattle.console.specs.Lines.{lines_of}
use Rattle.calls.specs.Law.{Lawful}
use Rattle.desk.specs.declared.entry.Answer.{Answer}
use Rattle.desk.specs.declared.entry.Entry.{Entry}
use Rattle.desk.specs.declared.entry.Entry.TheVariants.{Call as ACall, Table as ATable, Note as ANote}
use Rattle.desk.specs.declared.answer.Reply.{Reply}
use Rattle.desk.specs.Scripts.{Table, OnGantry, entry_text, events_of, table_in}
use Rattle.desk.specs.Stretches.{EntersEach, asked, events_in, envelope_of, Stretches, last, next}
use Rattle.desk.specs.Written.{answer_lines, LinesRead, StretchEnds, Replayed}
use Rattle.desk.proofs.Playing.{enters_both, nothing_written, written_both}

-- the lines up to line n are read, and a text is left; the answers are written, and the stretch that is next is on table t
pub record Going (script : List ℕ) (n : ℕ) (left : List ℕ) (first t : Table) (before now : Option (List ℕ)) : Type 0 where
  pub answers : List Answer
  pub entries : (fs : List Entry) → EntersEach (n + 1) (lines_of left) fs → EntersEach 1 (lines_of script) (asked answers ++ fs)
  pub stretches : (more : List Answer) → Stretches t more → Stretches first (answers ++ more)
  pub written : Appends before now (answer_lines answers)

pub begun : (script : List ℕ) (t : Table) (before : Option (List ℕ)) → Going script 0 script t t before before
begun script t before = record { answers = []; entries = λ fs h. h; stretches = λ more h. h; written = nothing_written before }

lines_both : (ps qs : List Answer) → answer_lines (ps ++ qs) ≡ answer_lines ps ++ answer_lines qs
lines_both [] qs = refl
lines_both (a ∷ ps) qs = ap (λ bs. entry_text a.entry a.reply ++ (10 ∷ bs)) (lines_both ps qs) ∙ sym (append_assoc (entry_text a.entry a.reply) (10 ∷ answer_lines ps) (answer_lines qs))

-- an entry that sets up a table makes no call
no_call : (e : Entry) (r : Reply) (u : Table) → table_in e ≡ Some u → events_of e r ≡ []
no_call (ACall c) r u p = absurd (cc)
no_call (ATable t) r u p = refl
no_call (ANote n) r u p = absurd (cc)

events_last : (ps : List Answer) (a : Answer) (u : Table) → table_in a.entry ≡ Some u → events_in (ps ++ (a ∷ [])) ≡ events_in ps
events_last [] a u p = ap (λ es. es ++ []) (no_call a.entry a.reply u p)
events_last (q ∷ ps) a u p = ap (λ es. events_of q.entry q.reply ++ es) (events_last ps a u p)

asked_both : (ps qs : List Answer) (fs : List Entry) → asked (ps ++ qs) ++ fs ≡ asked ps ++ (asked qs ++ fs)
asked_both [] qs fs = refl
asked_both (q ∷ ps) qs fs = ap (λ es. q.entry ∷ es) (asked_both ps qs fs)

-- a stretch that ends with a table leaves fewer lines
one_entered : (k : ℕ) (ls : List (List ℕ)) (ps : List Answer) (a : Answer) → EntersEach k ls (asked (ps ++ (a ∷ []))) → 0 < length ls
one_entered k [] [] a h = absurd h
one_entered k [] (p ∷ ps) a h = absurd h
one_entered k (l ∷ ls) ps a h = omega arith

pub fewer : (n m : ℕ) (left rest : List ℕ) (qs : List Answer) (u : Table) → LinesRead n m left rest (asked qs) → StretchEnds rest qs (Some u) → length (lines_of rest) < length (lines_of left)
fewer n m left rest qs u read (ps, a, parts, plain, table) =
    let some = one_entered (n + 1) read.lines ps a (subst (λ bs. EntersEach (n + 1) read.lines (asked bs)) parts read.entries) in
    let all : length (lines_of left) ≡ length (read.lines ++ lines_of rest) = ap length read.all in
    let both = length-append read.lines (lines_of rest) in
    omega arith

-- a flush writes nothing more
kept_written : (a b c : Option (List ℕ)) (xs : List ℕ) → Appends a b xs → Keeps b c → Appends a c xs
kept_written None b c xs p q = tt
kept_written (Some held) None c xs p q = absurd p
kept_written (Some held) (Some bs) None xs p q = q
kept_written (Some held) (Some bs) (Some cs) xs p q = q ∙ p

module _ (script : List ℕ) (n m : ℕ) (left rest : List ℕ) (first t : Table) (before then now : Option (List ℕ)) (qs : List Answer)
    (g : Going script n left first t before then) (read : LinesRead n m left rest (asked qs)) (law : Lawful (envelope_of t) [] (events_in qs)) (written : Appends then now (answer_lines qs)) where
  abbrev all : List Answer
  all = g.answers ++ qs

  all_entries : (fs : List Entry) → EntersEach (m + 1) (lines_of rest) fs → EntersEach 1 (lines_of script) (asked all ++ fs)
  all_entries fs h =
      let number = read.last in
      let both = enters_both (n + 1) (m + 1) read.lines (lines_of rest) (asked qs) fs (omega arith) read.entries h in
      subst (EntersEach 1 (lines_of script)) (sym (asked_both g.answers qs fs)) (g.entries (asked qs ++ fs) (subst (λ ls. EntersEach (n + 1) ls (asked qs ++ fs)) (sym read.all) both))

  all_written : Appends before now (answer_lines all)
  all_written = subst (Appends before now) (sym (lines_both g.answers qs)) (written_both before then now (answer_lines g.answers) (answer_lines qs) g.written written)

  -- the next stretch is on the table that was set up
  pub next_stretch : (u : Table) → StretchEnds rest qs (Some u) → Going script m rest first u before now
  next_stretch u (ps, a, parts, plain, table) = record {
    answers = all;
    entries = all_entries;
    stretches = λ more h. subst (Stretches first) (ap (λ bs. g.answers ++ bs) (sym (append_assoc ps (a ∷ []) more) ∙ ap (λ bs. bs ++ more) (sym parts)) ∙ sym (append_assoc g.answers qs more))
        (g.stretches (ps ++ (a ∷ more)) (next t u ps a more (plain, subst (Lawful (envelope_of t) []) (ap events_in parts ∙ events_last ps a u table) law) table h));
    written = all_written;
  }

  -- the last one ends the script, and the writer is flushed
  pub last_stretch : {E : Type 0} (r : Result (Unit {0}) E) (after : Option (List ℕ)) → OnGantry bench_gantry (Ok first) → StretchEnds rest qs None → Keeps now after → OnOk r (Replayed script before after)
  last_stretch (Err e) after made ends flushed = tt
  last_stretch (Ok u) after made ends flushed = record {
    answers = all;
    answered = record {
      entries = subst (EntersEach 1 (lines_of script)) (append-nil (asked all)) (all_entries [] (subst (λ ls. EntersEach (m + 1) ls []) (sym ends.0) tt));
      first = first;
      made = made;
      stretches = g.stretches qs (last t qs (ends.1, law));
    };
    written = kept_written before now after (answer_lines all) all_written flushed;
  }
