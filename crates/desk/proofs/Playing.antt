-- What is played and noted of a stretch: a line at a time, and as a tape.
use Rattle.std.proofs.Common.{◌≡◌, ℕ, ◌+◌, min, List, [], ◌∷◌, ◌++◌, length, Some, None, Ok, Err, Option, Result, IfOk, IsErr, refl, sym, ap, ◌∙◌, subst, subst₂, arith}
use Rattle.std.proofs.lemmas.List.{append_assoc, append-nil, ext_get_or, length-append}
use Rattle.std.specs.Io.KnownBytes.{Appends}
use Rattle.model.specs.Envelopes.{Envelope}
use Rattle.session.specs.Memory.{Memory}
use Rattle.session.specs.declared.progress.Progress.{Progress}
use Rattle.session.specs.declared.progress.Progress.TheVariants.{WentOn, Commanded, Ended}
use Rattle.command.specs.Commands.{command_of}
use Rattle.console.specs.Lines.{lines_of}
use Rattle.calls.specs.Events.{by_step, recorded}
use Rattle.calls.specs.Law.{Answer as Told, Call, event, step, Lawful}
use Rattle.calls.specs.Playing.{AllKept}
use Rattle.calls.specs.Loans.{EachStays}
use Rattle.calls.proofs.Played.{Played, played_both}
use Rattle.desk.specs.declared.answer.Note.TheVariants.{Bad}
use Rattle.desk.specs.declared.answer.Reply.{Reply}
use Rattle.desk.specs.declared.answer.Reply.TheVariants.{Done}
use Rattle.desk.specs.declared.entry.Answer.{Answer}
use Rattle.desk.specs.declared.entry.Entry.{Entry}
use Rattle.desk.specs.declared.entry.Entry.TheVariants.{Call as ACall, Table as ATable, Note as ANote}
use Rattle.desk.specs.Answers.{answer, reply_of}
use Rattle.desk.specs.Scripts.{Table, Enters, Stays, events_of, entry_text, table_in}
use Rattle.desk.specs.Stretches.{EntersEach, NoTable, asked, paired, events_in, envelope_of, Finished}
use Rattle.desk.specs.Written.{noted, answer_lines, LinesRead, StretchEnds}

-- what a step tells is its answer
told_progress : (p : Progress) → by_step (Ok p) ≡ answer (reply_of p)
told_progress WentOn = refl
told_progress (Commanded p) = refl
told_progress Ended = refl

pub step_kept : (travel : Envelope) (m : Memory) (c : Call) (p : Progress) (r : Reply) → c ≡ step → r ≡ reply_of p → AllKept travel m (event step (by_step (Ok p)) ∷ []) → AllKept travel m (event c (answer r) ∷ [])
step_kept travel m c p r is e kept = subst₂ (λ (d : Call) (a : Told). AllKept travel m (event d a ∷ [])) (sym is) (told_progress p ∙ ap answer (sym e)) kept

-- each entry stays as it was
stays_same : (c d : Entry) (a : Reply) → Stays c d a → d ≡ c
stays_same (ACall c) d a s = s
stays_same (ATable t) d a s = s.0
stays_same (ANote n) d a s = s.0

-- an error promises nothing
pub not_ok : {A E : Type 0} (P : A → Type 0) (r : Result A E) → IsErr r → IfOk r P
not_ok P (Ok a) e = absurd (cc)
not_ok P (Err x) e = tt

-- ---- what is written
pub nothing_written : (known : Option (List ℕ)) → Appends known known []
nothing_written None = tt
nothing_written (Some bs) = sym (append-nil bs)

pub written_both : (a b c : Option (List ℕ)) (xs ys : List ℕ) → Appends a b xs → Appends b c ys → Appends a c (xs ++ ys)
written_both None b c xs ys p q = tt
written_both (Some held) None c xs ys p q = absurd p
written_both (Some held) (Some bs) None xs ys p q = q
written_both (Some held) (Some bs) (Some cs) xs ys p q = q ∙ ap (λ zs. zs ++ ys) p ∙ append_assoc held xs ys

-- ---- lines, one after another
pub enters_both : (k j : ℕ) (ls ms : List (List ℕ)) (es fs : List Entry) → j ≡ k + length ls → EntersEach k ls es → EntersEach j ms fs → EntersEach k (ls ++ ms) (es ++ fs)
enters_both k j [] ms [] fs e p q = let same : j ≡ k = omega arith in subst (λ i. EntersEach i ms fs) same q
enters_both k j [] ms (d ∷ es) fs e p q = absurd p
enters_both k j (l ∷ ls) ms [] fs e p q = absurd p
enters_both k j (l ∷ ls) ms (d ∷ es) fs e p q = (p.0, enters_both (k + 1) j ls ms es fs (omega arith) p.1 q)

pub no_lines : (n : ℕ) (text : List ℕ) → LinesRead n n text text []
no_lines n text = record { lines = []; all = refl; entries = tt; last = omega arith }

line_read : (n m k : ℕ) (text rest more l : List ℕ) (es : List Entry) (e : Entry) → LinesRead n m text rest es → lines_of rest ≡ l ∷ lines_of more → k ≡ m + 1 → Enters k (command_of l) e → LinesRead n k text more (es ++ (e ∷ []))
line_read n m k text rest more l es e r next this enters =
    let last = r.last in
    record {
      lines = r.lines ++ (l ∷ []);
      all = r.all ∙ ap (λ ls. r.lines ++ ls) next ∙ sym (append_assoc r.lines (l ∷ []) (lines_of more));
      entries = enters_both (n + 1) k r.lines (l ∷ []) es (e ∷ []) (omega arith) r.entries (enters, tt);
      last = let both = length-append r.lines (l ∷ []) in omega arith;
    }

pub plain_more : (es : List Entry) (e : Entry) → NoTable es → table_in e ≡ None → NoTable (es ++ (e ∷ []))
plain_more [] e h p = (p, tt)
plain_more (c ∷ es) e h p = (h.0, plain_more es e h.1 p)

-- ---- one more in the history
module _ (e : Entry) (r : Reply) where
  noted_more : (hs : List (Entry × Reply)) → noted (hs ++ ((e, r) ∷ [])) ≡ noted hs ++ (record { entry = e; reply = r } ∷ [])
  noted_more [] = refl
  noted_more (h ∷ hs) = ap (λ qs. record { entry = h.0; reply = h.1 } ∷ qs) (noted_more hs)

  entries_more : (hs : List (Entry × Reply)) → asked (noted (hs ++ ((e, r) ∷ []))) ≡ asked (noted hs) ++ (e ∷ [])
  entries_more [] = refl
  entries_more (h ∷ hs) = ap (λ es. h.0 ∷ es) (entries_more hs)

  events_more : (hs : List (Entry × Reply)) → events_in (noted (hs ++ ((e, r) ∷ []))) ≡ events_in (noted hs) ++ events_of e r
  events_more [] = append-nil (events_of e r)
  events_more (h ∷ hs) = ap (λ es. events_of h.0 h.1 ++ es) (events_more hs) ∙ sym (append_assoc (events_of h.0 h.1) (events_in (noted hs)) (events_of e r))

  text_more : (hs : List (Entry × Reply)) → answer_lines (noted (hs ++ ((e, r) ∷ []))) ≡ answer_lines (noted hs) ++ (entry_text e r ++ (10 ∷ []))
  text_more [] = refl
  text_more (h ∷ hs) = ap (λ bs. entry_text h.0 h.1 ++ (10 ∷ bs)) (text_more hs) ∙ sym (append_assoc (entry_text h.0 h.1) (10 ∷ answer_lines (noted hs)) (entry_text e r ++ (10 ∷ [])))

-- ---- a line that is read, played and noted: the history, as it was and as it is, and the entry, as it was read and as it was noted
module _ (hs gs : List (Entry × Reply)) (e d : Entry) (r : Reply) (more : gs ≡ hs ++ ((d, r) ∷ [])) (stays : Stays e d r) where
  same : d ≡ e
  same = stays_same e d r stays

  pub turn_played : {X : Type 0} (of : X → Envelope) (t u v : X) (m n k : Memory) → Played of t u m n (events_in (noted hs)) → Played of u v n k (events_of e r) → Played of t v m k (events_in (noted gs))
  turn_played of t u v m n k p q =
      let both = played_both of t u v m n k (events_in (noted hs)) (events_of e r) p q in
      let events = ap (λ c. events_in (noted hs) ++ events_of c r) (sym same) ∙ sym (events_more d r hs) ∙ ap (λ fs. events_in (noted fs)) (sym more) in
      subst (Played of t v m k) events both

  pub turn_read : (n m k : ℕ) (text rest left l : List ℕ) → LinesRead n m text rest (asked (noted hs)) → lines_of rest ≡ l ∷ lines_of left → k ≡ m + 1 → Enters k (command_of l) e → LinesRead n k text left (asked (noted gs))
  turn_read n m k text rest left l lines next this enters =
      let entries = sym (entries_more d r hs) ∙ ap (λ fs. asked (noted fs)) (sym more) in
      subst (LinesRead n k text left) entries (line_read n m k text rest left l (asked (noted hs)) d lines next this (subst (Enters k (command_of l)) (sym same) enters))

  pub turn_plain : NoTable (asked (noted hs)) → None ≡ table_in d → NoTable (asked (noted gs))
  turn_plain plain none = subst NoTable (sym (entries_more d r hs) ∙ ap (λ fs. asked (noted fs)) (sym more)) (plain_more (asked (noted hs)) d plain (sym none))

  pub turn_written : (a b c : Option (List ℕ)) → Appends a b (answer_lines (noted hs)) → Appends b c (entry_text d r ++ (10 ∷ [])) → Appends a c (answer_lines (noted gs))
  turn_written a b c p q = subst (Appends a c) (sym (text_more d r hs) ∙ ap (λ fs. answer_lines (noted fs)) (sym more)) (written_both a b c (answer_lines (noted hs)) (entry_text d r ++ (10 ∷ [])) p q)

  pub turn_ends : (rest : List ℕ) (u : Table) → NoTable (asked (noted hs)) → Some u ≡ table_in d → StretchEnds rest (noted gs) (Some u)
  turn_ends rest u plain some = (noted hs, record { entry = d; reply = r }, ap noted more ∙ noted_more d r hs, plain, sym some)

-- ---- a tape of entries that was played
all_stay : (n : ℕ) (cs ds : List Entry) (qs rs : List Reply) → length ds ≡ length cs → n ≡ length cs → EachStays Stays n cs ds qs rs → ds ≡ cs
all_stay n cs ds qs rs e m s = ext_get_or (ANote (Bad 0)) ds cs e (λ i h. stays_same _ _ _ (s.played i (ANote (Bad 0)) Done (omega (arith, e, m, h))))

-- what a tape records
recorded_entries : (cs ds : List Entry) (rs : List Reply) → length ds ≡ length cs → length rs ≡ length cs → recorded (λ (c d : Entry) (r : Reply). events_of c r) cs ds rs ≡ events_in (paired cs rs)
recorded_entries [] ds rs e f = refl
recorded_entries (c ∷ cs) [] rs e f = absurd (omega arith)
recorded_entries (c ∷ cs) (d ∷ ds) [] e f = absurd (omega arith)
recorded_entries (c ∷ cs) (d ∷ ds) (r ∷ rs) e f = ap (λ es. events_of c r ++ es) (recorded_entries cs ds rs (omega arith) (omega arith))

asked_paired : (es : List Entry) (rs : List Reply) → length rs ≡ length es → asked (paired es rs) ≡ es
asked_paired [] rs e = refl
asked_paired (c ∷ es) [] e = absurd (omega arith)
asked_paired (c ∷ es) (r ∷ rs) e = ap (λ cs. c ∷ cs) (asked_paired es rs (omega arith))

-- where the answers are noted, if they are
pub if_ok : {A E P Q : Type 0} (r : Result A E) → (P → Q) → IfOk r (λ _. P) → IfOk r (λ _. Q)
if_ok (Ok a) f p = f p
if_ok (Err e) f p = tt

module _ (t : Table) (cs ds : List Entry) (qs rs : List Reply) (old new : List Answer) (all : length ds ≡ length cs) (room : length qs ≡ length cs) (told : length rs ≡ length qs) where
  pub finished : EachStays Stays (min (length cs) (length qs)) cs ds qs rs
      → Lawful (envelope_of t) [] (recorded (λ (c d : Entry) (r : Reply). events_of c r) cs ds rs)
      → new ≡ old ++ paired ds rs → Finished t cs old new
  finished stays law noted =
      let same = all_stay (min (length cs) (length qs)) cs ds qs rs all (omega (arith, room)) stays in
      record {
        added = paired cs rs;
        all = noted ∙ ap (λ es. old ++ paired es rs) same;
        entries = asked_paired cs rs (told ∙ room);
        law = subst (Lawful (envelope_of t) []) (recorded_entries cs ds rs all (told ∙ room)) law;
      }
