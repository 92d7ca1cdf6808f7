-- A text is read as a command exactly if the grammar has it, and as what the grammar says.
use Rattle.std.proofs.Common.{◌≡◌, ℕ, ◌+◌, ◌-◌, ◌≤◌, true, List, [], ◌∷◌, ◌++◌, length, take, drop, ℤ, pos, negsuc, IfSome, Some, None, Option, sym, refl, ap, ◌∙◌, subst, arith, length-append, length-drop}
use Rattle.std.proofs.lemmas.List.{take_at, drop_at, drop_all, drop_more, drop-drop, length-take-le, take-append-drop, get_or_push, append-nil}
use Rattle.model.specs.Environments.{at, parameters, position}
use Rattle.words.specs.Cuts.{until}
use Rattle.words.proofs.Cutting.{lacks, Stops, stops_after, lacks_before}
use Rattle.command.specs.declared.word.Word.{Word}
use Rattle.command.specs.declared.word.Word.TheVariants.{BenchGantry, BenchBeam, Gantry, Beam, Line, Allow, Wipe, Start, Step, Dry, Certify}
use Rattle.command.specs.declared.domain_name.DomainName.{DomainName}
use Rattle.command.specs.Words.{word_of, domain_of, arguments}
use Rattle.command.specs.Numbers.{numbers_of}
use Rattle.command.specs.Commands.{Meant, ends_of, as_gantry, as_beam, as_allow, as_start, with_steps, as_dry, with_states, in_domain, as_certify, alone, chosen, asked, by_words, command_of}
use Rattle.command.specs.Commands.{bench_gantry, bench_beam, gantry, beam, line, allow, wipe, start, step, dry, certify}
use Rattle.command.specs.Grammar.{NumbersAre, DomainIs, four_numbers, CommandIs, TheCommand}
use Rattle.command.specs.Grammar.{a_bench_gantry, a_bench_beam, a_gantry, a_beam, no_text, a_text, an_allow, a_wipe, a_start, a_step, a_dry, a_certify}
use Rattle.command.proofs.Blanks.{cut, some_argument}
use Rattle.command.proofs.NumberWords.{first_word, numbers_stop, numbers_read, numbers_had}
use Rattle.command.proofs.Spelling.{spelled, word_had, domain_had, domain_read}

-- a text that begins with a word
command_at : (w rest : List ℕ) → lacks 32 w ≡ true → Stops 32 rest → command_of (w ++ rest) ≡ asked (word_of w) (arguments rest) (drop 1 rest)
command_at w rest h s =
    let text : drop (length w + 1) (w ++ rest) ≡ drop 1 rest = sym (drop-drop 1 (length w) (w ++ rest)) ∙ ap (drop 1) (drop_at w rest (length w) refl) in
    ap (λ ws. by_words ws (w ++ rest)) (first_word w rest h s) ∙ ap (asked (word_of w) (arguments rest)) text

-- ---- what the grammar has is read
six_and_one : (bs : List ℕ) (vs : List ℤ) (k : ℕ) → length vs ≡ parameters → NumbersAre bs (vs ++ (pos k ∷ [])) → as_dry (numbers_of 7 (arguments bs)) ≡ Some (dry vs k)
six_and_one bs vs k h n =
    let long : length (vs ++ (pos k ∷ [])) ≡ 7 = simp length-append (omega arith) in
    let read : numbers_of 7 (arguments bs) ≡ Some (vs ++ (pos k ∷ [])) = ap (λ i. numbers_of i (arguments bs)) (sym long) ∙ numbers_read n in
    ap as_dry read ∙ ap (λ l. with_steps l (at (vs ++ (pos k ∷ [])) parameters)) (take_at vs (pos k ∷ []) parameters h) ∙ ap (with_steps vs) (get_or_push vs (pos k) (pos 0) parameters h)

pub is_read : (bs : List ℕ) (m : Meant) → CommandIs bs m → command_of bs ≡ Some m
is_read bs m a_bench_gantry = refl
is_read bs m a_bench_beam = refl
is_read bs m (a_gantry rest lower upper home n) = command_at (spelled Gantry) rest refl (numbers_stop n) ∙ ap as_gantry (numbers_read n)
is_read bs m (a_beam rest lower upper home gap n) = command_at (spelled Beam) rest refl (numbers_stop n) ∙ ap as_beam (numbers_read n)
is_read bs m no_text = refl
is_read bs m (a_text text) = command_at (spelled Line) (32 ∷ text) refl refl
is_read bs m (an_allow rest p r n) = command_at (spelled Allow) rest refl (numbers_stop n) ∙ ap as_allow (numbers_read n)
is_read bs m a_wipe = refl
is_read bs m (a_start rest vs h n) = command_at (spelled Start) rest refl (numbers_stop n) ∙ ap (λ i. as_start (numbers_of i (arguments rest))) (sym h) ∙ ap as_start (numbers_read n)
is_read bs m a_step = refl
is_read bs m (a_dry rest vs k h n) = command_at (spelled Dry) rest refl (numbers_stop n) ∙ six_and_one rest vs k h n
is_read bs m (a_certify name rest d k i n) =
    let r = domain_read name d i in
    command_at (spelled Certify) (32 ∷ (name ++ rest)) refl refl ∙ ap as_certify (first_word name rest r.1 (numbers_stop n)) ∙ ap (λ o. in_domain o (numbers_of 1 (arguments rest))) r.0 ∙ ap (in_domain (Some d)) (numbers_read n)

-- ---- what is read is in the grammar
never : {P : Type 0} (o : Option Meant) (m : Meant) → o ≡ None → o ≡ Some m → P
never o m e f = let z : ◌≡◌ {A = ℕ} 0 1 = cc in absurd (omega arith)

alone_had : (n m : Meant) (bs : List ℕ) → alone n (arguments bs) ≡ Some m → (bs ≡ []) × (n ≡ m)
alone_had n m [] e = (refl, cc)
alone_had n m (b ∷ bs) e = never _ m (some_argument (alone n) None (λ w ws. refl) (b ∷ bs) (λ z. omega arith)) e

-- a word that stands alone
stands_alone : (w bs : List ℕ) (n m : Meant) → CommandIs w n → alone n (arguments bs) ≡ Some m → CommandIs (w ++ bs) m
stands_alone w bs n m i e =
    let h = alone_had n m bs e in
    subst (λ l. CommandIs (w ++ l) m) (sym h.0) (subst (λ l. CommandIs l m) (sym (append-nil w)) (subst (CommandIs w) h.1 i))

-- numbers that a word takes
module _ (f : Option (List ℤ) → Option Meant) (n : ℕ) (w : List ℕ) (fails : f None ≡ None) (m : Meant) (bs : List ℕ) (s : Stops 32 bs) where
  takes : ((ns : List ℤ) → NumbersAre bs ns → length ns ≡ n → f (Some ns) ≡ Some m → CommandIs (w ++ bs) m) → f (numbers_of n (arguments bs)) ≡ Some m → CommandIs (w ++ bs) m
  takes made e = go (numbers_of n (arguments bs)) refl e
    where
      go : (o : Option (List ℤ)) → numbers_of n (arguments bs) ≡ o → f o ≡ Some m → CommandIs (w ++ bs) m
      go None h k = never _ m fails k
      go (Some ns) h k = let r = numbers_had n bs ns s h in made ns r.0 r.1 k

-- four numbers in front of others
four : (ns : List ℤ) → 4 ≤ length ns → ns ≡ four_numbers (position ns) ++ drop 4 ns
four [] h = absurd (omega arith)
four (a ∷ []) h = absurd (omega arith)
four (a ∷ b ∷ []) h = absurd (omega arith)
four (a ∷ b ∷ c ∷ []) h = absurd (omega arith)
four (a ∷ b ∷ c ∷ d ∷ ns) h = refl

three_positions : (ns : List ℤ) → 12 ≤ length ns → ns ≡ four_numbers (position ns) ++ (four_numbers (position (drop 4 ns)) ++ (four_numbers (position (drop 8 ns)) ++ drop 12 ns))
three_positions ns h =
    let l4 : length (drop 4 ns) ≡ length ns - 4 = length-drop 4 ns in
    let l8 : length (drop 8 ns) ≡ length ns - 8 = length-drop 8 ns in
    let second : drop 4 ns ≡ four_numbers (position (drop 4 ns)) ++ drop 8 ns = four (drop 4 ns) (omega arith) ∙ ap (λ l. four_numbers (position (drop 4 ns)) ++ l) (drop-drop 4 4 ns) in
    let third : drop 8 ns ≡ four_numbers (position (drop 8 ns)) ++ drop 12 ns = four (drop 8 ns) (omega arith) ∙ ap (λ l. four_numbers (position (drop 8 ns)) ++ l) (drop-drop 4 8 ns) in
    four ns (omega arith) ∙ ap (λ l. four_numbers (position ns) ++ l) (second ∙ ap (λ l. four_numbers (position (drop 4 ns)) ++ l) third)

gantry_had : (bs : List ℕ) (ns : List ℤ) (m : Meant) → NumbersAre bs ns → length ns ≡ 12 → as_gantry (Some ns) ≡ Some m → CommandIs (spelled Gantry ++ bs) m
gantry_had bs ns m n h e =
    let same : gantry (ends_of ns) ≡ m = cc in
    let none : drop 12 ns ≡ [] = drop_all 12 ns (omega arith) in
    let parts = three_positions ns (omega arith) ∙ ap (λ l. four_numbers (position ns) ++ (four_numbers (position (drop 4 ns)) ++ (four_numbers (position (drop 8 ns)) ++ l))) none in
    subst (CommandIs (spelled Gantry ++ bs)) same (a_gantry bs (position ns) (position (drop 4 ns)) (position (drop 8 ns)) (subst (NumbersAre bs) parts n))

beam_had : (bs : List ℕ) (ns : List ℤ) (m : Meant) → NumbersAre bs ns → length ns ≡ 13 → as_beam (Some ns) ≡ Some m → CommandIs (spelled Beam ++ bs) m
beam_had bs ns m n h e =
    let same : beam (ends_of ns) (at ns 12) ≡ m = cc in
    let last : drop 12 ns ≡ at ns 12 ∷ [] = drop_more ns 12 (pos 0) (omega arith) ∙ ap (λ l. at ns 12 ∷ l) (drop_all 13 ns (omega arith)) in
    let parts = three_positions ns (omega arith) ∙ ap (λ l. four_numbers (position ns) ++ (four_numbers (position (drop 4 ns)) ++ (four_numbers (position (drop 8 ns)) ++ l))) last in
    subst (CommandIs (spelled Beam ++ bs)) same (a_beam bs (position ns) (position (drop 4 ns)) (position (drop 8 ns)) (at ns 12) (subst (NumbersAre bs) parts n))

line_had : (bs : List ℕ) (m : Meant) → Stops 32 bs → Some (line (drop 1 bs)) ≡ Some m → CommandIs (spelled Line ++ bs) m
line_had [] m s e = let same : line [] ≡ m = cc in subst (CommandIs (spelled Line)) same no_text
line_had (b ∷ bs) m s e = let same : line bs ≡ m = cc in subst (λ c. CommandIs (spelled Line ++ (c ∷ bs)) m) (sym s) (subst (CommandIs (spelled Line ++ (32 ∷ bs))) same (a_text bs))

three : (ns : List ℤ) → length ns ≡ 3 → ns ≡ at ns 0 ∷ (at ns 1 ∷ (at ns 2 ∷ []))
three [] h = absurd (omega arith)
three (a ∷ []) h = absurd (omega arith)
three (a ∷ b ∷ []) h = absurd (omega arith)
three (a ∷ b ∷ c ∷ []) h = refl
three (a ∷ b ∷ c ∷ d ∷ ns) h = absurd (omega arith)

allow_had : (bs : List ℕ) (ns : List ℤ) (m : Meant) → NumbersAre bs ns → length ns ≡ 3 → as_allow (Some ns) ≡ Some m → CommandIs (spelled Allow ++ bs) m
allow_had bs ns m n h e =
    let same : allow (at ns 0) (record { lo = at ns 1; hi = at ns 2 }) ≡ m = cc in
    subst (CommandIs (spelled Allow ++ bs)) same (an_allow bs (at ns 0) (record { lo = at ns 1; hi = at ns 2 }) (subst (NumbersAre bs) (three ns h) n))

start_had : (bs : List ℕ) (ns : List ℤ) (m : Meant) → NumbersAre bs ns → length ns ≡ parameters → as_start (Some ns) ≡ Some m → CommandIs (spelled Start ++ bs) m
start_had bs ns m n h e = let same : start ns ≡ m = cc in subst (CommandIs (spelled Start ++ bs)) same (a_start bs ns h n)

dry_had : (bs : List ℕ) (ns : List ℤ) (m : Meant) → NumbersAre bs ns → length ns ≡ 7 → as_dry (Some ns) ≡ Some m → CommandIs (spelled Dry ++ bs) m
dry_had bs ns m n h e = go (at ns 6) refl e
  where
    few : length (take 6 ns) ≡ 6
    few = length-take-le 6 ns (omega arith)

    parts : ns ≡ take 6 ns ++ (at ns 6 ∷ [])
    parts = sym (take-append-drop 6 ns) ∙ ap (λ l. take 6 ns ++ l) (drop_more ns 6 (pos 0) (omega arith) ∙ ap (λ l. at ns 6 ∷ l) (drop_all 7 ns (omega arith)))

    go : (z : ℤ) → at ns 6 ≡ z → with_steps (take 6 ns) z ≡ Some m → CommandIs (spelled Dry ++ bs) m
    go (pos k) f g =
        let same : dry (take 6 ns) k ≡ m = cc in
        subst (CommandIs (spelled Dry ++ bs)) same (a_dry bs (take 6 ns) k few (subst (λ z. NumbersAre bs (take 6 ns ++ (z ∷ []))) f (subst (NumbersAre bs) parts n)))
    go (negsuc k) f g = never None m refl g

abbrev with_numbers : DomainName → Option (List ℤ) → Option Meant
with_numbers d None = None
with_numbers d (Some ns) = with_states d (at ns 0)

in_some : (d : DomainName) (o : Option (List ℤ)) → in_domain (Some d) o ≡ with_numbers d o
in_some d None = refl
in_some d (Some ns) = refl

-- a domain and a count of states after one blank
states_had : (w bs : List ℕ) (d : DomainName) (m : Meant) → DomainIs w d → Stops 32 bs → with_numbers d (numbers_of 1 (arguments bs)) ≡ Some m → CommandIs (spelled Certify ++ (32 ∷ (w ++ bs))) m
states_had w bs d m i s e = go (numbers_of 1 (arguments bs)) refl e
  where
    one : (ns : List ℤ) → NumbersAre bs ns → length ns ≡ 1 → with_states d (at ns 0) ≡ Some m → CommandIs (spelled Certify ++ (32 ∷ (w ++ bs))) m
    one [] n h k = absurd (omega arith)
    one (pos x ∷ []) n h k = let same : certify d x ≡ m = cc in subst (CommandIs (spelled Certify ++ (32 ∷ (w ++ bs)))) same (a_certify w bs d x i n)
    one (negsuc x ∷ []) n h k = never None m refl k
    one (x ∷ y ∷ ns) n h k = absurd (omega arith)

    go : (o : Option (List ℤ)) → numbers_of 1 (arguments bs) ≡ o → with_numbers d o ≡ Some m → CommandIs (spelled Certify ++ (32 ∷ (w ++ bs))) m
    go None h k = never None m refl k
    go (Some ns) h k = let r = numbers_had 1 bs ns s h in one ns r.0 r.1 k

certify_had : (bs : List ℕ) (m : Meant) → Stops 32 bs → as_certify (arguments bs) ≡ Some m → CommandIs (spelled Certify ++ bs) m
certify_had [] m s e = never None m refl e
certify_had (b ∷ bs) m s e =
    let w = take (until 32 bs) bs in
    let rest = drop (until 32 bs) bs in
    let f : as_certify (arguments (32 ∷ bs)) ≡ Some m = subst (λ c. as_certify (arguments (c ∷ bs)) ≡ Some m) s e in
    let g : in_domain (domain_of w) (numbers_of 1 (arguments rest)) ≡ Some m = ap as_certify (sym (cut bs)) ∙ f in
    subst (λ c. CommandIs (spelled Certify ++ (c ∷ bs)) m) (sym s) (subst (λ l. CommandIs (spelled Certify ++ (32 ∷ l)) m) (take-append-drop (until 32 bs) bs) (go w rest (domain_of w) refl (stops_after 32 bs) g))
  where
    go : (w rest : List ℕ) (o : Option DomainName) → domain_of w ≡ o → Stops 32 rest → in_domain o (numbers_of 1 (arguments rest)) ≡ Some m → CommandIs (spelled Certify ++ (32 ∷ (w ++ rest))) m
    go w rest None h t k = never None m refl k
    go w rest (Some d) h t k = states_had w rest d m (domain_had w d h) t (sym (in_some d (numbers_of 1 (arguments rest))) ∙ k)

-- what follows the word
chosen_had : (x : Word) (bs : List ℕ) (m : Meant) → Stops 32 bs → chosen x (arguments bs) (drop 1 bs) ≡ Some m → CommandIs (spelled x ++ bs) m
chosen_had BenchGantry bs m s e = stands_alone (spelled BenchGantry) bs bench_gantry m a_bench_gantry e
chosen_had BenchBeam bs m s e = stands_alone (spelled BenchBeam) bs bench_beam m a_bench_beam e
chosen_had Gantry bs m s e = takes as_gantry 12 (spelled Gantry) refl m bs s (λ ns n h k. gantry_had bs ns m n h k) e
chosen_had Beam bs m s e = takes as_beam 13 (spelled Beam) refl m bs s (λ ns n h k. beam_had bs ns m n h k) e
chosen_had Line bs m s e = line_had bs m s e
chosen_had Allow bs m s e = takes as_allow 3 (spelled Allow) refl m bs s (λ ns n h k. allow_had bs ns m n h k) e
chosen_had Wipe bs m s e = stands_alone (spelled Wipe) bs wipe m a_wipe e
chosen_had Start bs m s e = takes as_start parameters (spelled Start) refl m bs s (λ ns n h k. start_had bs ns m n h k) e
chosen_had Step bs m s e = stands_alone (spelled Step) bs step m a_step e
chosen_had Dry bs m s e = takes as_dry 7 (spelled Dry) refl m bs s (λ ns n h k. dry_had bs ns m n h k) e
chosen_had Certify bs m s e = certify_had bs m s e

pub is_had : (bs : List ℕ) (m : Meant) → command_of bs ≡ Some m → CommandIs bs m
is_had bs m e =
    let w = take (until 32 bs) bs in
    let rest = drop (until 32 bs) bs in
    let whole = take-append-drop (until 32 bs) bs in
    let s = stops_after 32 bs in
    subst (λ l. CommandIs l m) whole (go w rest (word_of w) refl s (sym (command_at w rest (lacks_before 32 bs) s) ∙ ap command_of whole ∙ e))
  where
    go : (w rest : List ℕ) (o : Option Word) → word_of w ≡ o → Stops 32 rest → asked o (arguments rest) (drop 1 rest) ≡ Some m → CommandIs (w ++ rest) m
    go w rest None h s k = never None m refl k
    go w rest (Some x) h s k = subst (λ l. CommandIs (l ++ rest) m) (sym (word_had w x h)) (chosen_had x rest m s k)

pub the_command : (bs : List ℕ) (o : Option Meant) → o ≡ command_of bs → TheCommand bs o
the_command bs o e = record { is = found o e; only = λ m i. e ∙ is_read bs m i }
  where
    found : (o : Option Meant) → o ≡ command_of bs → IfSome o (CommandIs bs)
    found None e = tt
    found (Some m) e = is_had bs m (sym e)
