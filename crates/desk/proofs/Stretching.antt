-- How far a script is answered while its lines are read.
use Rattle.std.proofs.Common.{◌≡◌, ℕ, ◌+◌, List, [], ◌∷◌, ◌++◌, Some, None, Ok, refl, sym, ap, ◌∙◌, subst}
use Rattle.std.proofs.lemmas.List.{append_assoc, append-nil}
use Rattle.travel.specs.Benches.{bench_gantry}
use Rattle.command.specs.Commands.{command_of}
use Rattle.console.specs.Lines.{lines_of}
use Rattle.desk.specs.declared.entry.Answer.{Answer}
use Rattle.desk.specs.declared.entry.Entry.{Entry}
use Rattle.desk.specs.Scripts.{Table, OnGantry, Enters, table_in}
use Rattle.desk.specs.Stretches.{EntersEach, asked, NoTable, Stretches, last, next, Finished, Answered}
use Rattle.desk.proofs.Playing.{plain_more}

-- n lines are read and ls are left; qs are answered, and es are the entries of the stretch on table t that is not over yet
pub record Going (script : List ℕ) (n : ℕ) (ls : List (List ℕ)) (first t : Table) (es : List Entry) (qs : List Answer) : Type 0 where
  pub entries : (fs : List Entry) → EntersEach (n + 1) ls fs → EntersEach 1 (lines_of script) (asked qs ++ (es ++ fs))
  pub plain : NoTable es
  pub stretches : (more : List Answer) → Stretches t more → Stretches first (qs ++ more)

pub begun : (script : List ℕ) (t : Table) → Going script 0 (lines_of script) t t [] []
begun script t = record { entries = λ fs h. h; plain = tt; stretches = λ more h. h }

asked_one : (added : List Answer) (a : Answer) (fs : List Entry) → asked (added ++ (a ∷ [])) ++ fs ≡ asked added ++ (a.entry ∷ fs)
asked_one [] a fs = refl
asked_one (b ∷ added) a fs = ap (λ es. b.entry ∷ es) (asked_one added a fs)

asked_more : (qs added : List Answer) (a : Answer) (fs : List Entry) → asked ((qs ++ added) ++ (a ∷ [])) ++ fs ≡ asked qs ++ (asked added ++ (a.entry ∷ fs))
asked_more [] added a fs = asked_one added a fs
asked_more (q ∷ qs) added a fs = ap (λ es. q.entry ∷ es) (asked_more qs added a fs)

asked_both : (qs added : List Answer) → asked (qs ++ added) ≡ asked qs ++ asked added
asked_both [] added = refl
asked_both (q ∷ qs) added = ap (λ es. q.entry ∷ es) (asked_both qs added)

module _ (script : List ℕ) (first t : Table) (es : List Entry) (qs : List Answer) where
  -- an entry that sets up no table belongs to the stretch
  one_more : (n : ℕ) (l : List ℕ) (ls : List (List ℕ)) (e : Entry) → Going script n (l ∷ ls) first t es qs → Enters (n + 1) (command_of l) e → table_in e ≡ None → Going script (n + 1) ls first t (es ++ (e ∷ [])) qs
  one_more n l ls e g enters p = record {
    entries = λ fs h. subst (λ cs. EntersEach 1 (lines_of script) (asked qs ++ cs)) (sym (append_assoc es (e ∷ []) fs)) (g.entries (e ∷ fs) (enters, h));
    plain = plain_more es e g.plain p;
    stretches = g.stretches;
  }

  -- one that does ends the stretch
  next_table : (n : ℕ) (l : List ℕ) (ls : List (List ℕ)) (ps : List Answer) (a : Answer) (u : Table) → Going script n (l ∷ ls) first t es qs → Finished t es qs ps → Enters (n + 1) (command_of l) a.entry → table_in a.entry ≡ Some u → Going script (n + 1) ls first u [] (ps ++ (a ∷ []))
  next_table n l ls ps a u g f enters p =
      let all : ps ++ (a ∷ []) ≡ (qs ++ f.added) ++ (a ∷ []) = ap (λ bs. bs ++ (a ∷ [])) f.all in
      record {
        entries = λ fs h. subst (EntersEach 1 (lines_of script)) (ap (λ cs. asked qs ++ (cs ++ (a.entry ∷ fs))) (sym f.entries) ∙ sym (asked_more qs f.added a fs) ∙ ap (λ bs. asked bs ++ fs) (sym all)) (g.entries (a.entry ∷ fs) (enters, h));
        plain = tt;
        stretches = λ more h. subst (Stretches first) (sym (append_assoc qs f.added (a ∷ more)) ∙ sym (append_assoc (qs ++ f.added) (a ∷ []) more) ∙ ap (λ bs. bs ++ more) (sym all))
            (g.stretches (f.added ++ (a ∷ more)) (next t u f.added a more (subst NoTable (sym f.entries) g.plain, f.law) p h));
      }

  -- the line that is read is k, and m lines are read then
  module _ (n k m : ℕ) (rest : List (List ℕ)) (l : List ℕ) (ls : List (List ℕ)) (g : Going script n rest first t es qs) (line : rest ≡ l ∷ ls) (this : k ≡ n) (then : m ≡ n + 1) where
    here : Going script n (l ∷ ls) first t es qs
    here = subst (λ ks. Going script n ks first t es qs) line g

    numbered : (e : Entry) → Enters (k + 1) (command_of l) e → Enters (n + 1) (command_of l) e
    numbered e = subst (λ i. Enters (i + 1) (command_of l) e) this

    pub read_call : (e : Entry) (ds : List Entry) → Enters (k + 1) (command_of l) e → None ≡ table_in e → ds ≡ es ++ (e ∷ []) → Going script m ls first t ds qs
    read_call e ds enters p pushed = subst (λ cs. Going script m ls first t cs qs) (sym pushed) (subst (λ i. Going script i ls first t (es ++ (e ∷ [])) qs) (sym then) (one_more n l ls e here (numbered e enters) (sym p)))

    pub read_table : (a : Answer) (u : Table) (ds : List Entry) (ps bs : List Answer) → Enters (k + 1) (command_of l) a.entry → Some u ≡ table_in a.entry → Finished t es qs ps → ds ≡ [] → bs ≡ ps ++ (a ∷ []) → Going script m ls first u ds bs
    read_table a u ds ps bs enters p f none pushed =
        let one = next_table n l ls ps a u here f (numbered a.entry enters) (sym p) in
        subst (λ cs. Going script m ls first u cs bs) (sym none) (subst (λ cs. Going script m ls first u [] cs) (sym pushed) (subst (λ i. Going script i ls first u [] (ps ++ (a ∷ []))) (sym then) one))

  pub all_read : (n : ℕ) (rest : List (List ℕ)) (ps : List Answer) → Going script n rest first t es qs → rest ≡ [] → Finished t es qs ps → OnGantry bench_gantry (Ok first) → Answered script ps
  all_read n rest ps h none f made =
      let g = subst (λ ks. Going script n ks first t es qs) none h in
      record {
        entries = subst (EntersEach 1 (lines_of script)) (ap (λ cs. asked qs ++ cs) (append-nil es ∙ sym f.entries) ∙ sym (asked_both qs f.added) ∙ ap asked (sym f.all)) (g.entries [] tt);
        first = first;
        made = made;
        stretches = subst (Stretches first) (sym f.all) (g.stretches f.added (last t f.added (subst NoTable (sym f.entries) g.plain, f.law)));
      }
