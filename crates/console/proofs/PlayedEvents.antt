-- The events of answers that are accepted but for the last.
use Rattle.std.proofs.Common.{◌≡◌, true, false, cond, ℕ, zero, suc, ◌+◌, ◌<◌, List, [], ◌∷◌, ◌++◌, length, drop, Some, None, Ok, Err, Result, refl, sym, ap, ◌∙◌, subst, add-one, arith}
use Rattle.model.specs.Envelopes.{Envelope}
use Rattle.program.specs.Numbers.{line_refusal}
use Rattle.program.specs.declared.refusal.LineRefusal.{LineRefusal}
use Rattle.session.specs.Refusals.{allow_refusal}
use Rattle.session.specs.declared.refusal.AllowRefusal.{AllowRefusal}
use Rattle.session.specs.Memory.{Memory}
use Rattle.calls.specs.declared.single.Allow.{Allow}
use Rattle.calls.specs.Law.{event, line, allow, done, done_or}
use Rattle.calls.proofs.Played.{Played, played_both}
use Rattle.console.specs.Asked.{ask, asked_by, asked_ranges, behind, program_lines, allow_events, line_events}
use Rattle.console.specs.RangeLines.{range_of}
use Rattle.console.specs.Readings.{is_range}
use Rattle.console.specs.declared.range_line.RangeLine.{RangeLine}
use Rattle.console.specs.Played.{answers, Ends}

one_more : {E : Type 0} (n : ℕ) → answers {E = E} (suc n) [] ≡ answers n (Ok tt ∷ [])
one_more zero = refl
one_more (suc n) = ap (λ rs. Ok tt ∷ rs) (one_more n)

accepted_more : {E : Type 0} (n : ℕ) → answers {E = E} (n + 1) [] ≡ answers n (Ok tt ∷ [])
accepted_more n = rw add-one (one_more n)

pub no_lines : (ss : List (List ℕ)) → line_events ss [] ≡ []
no_lines [] = refl
no_lines (s ∷ ss) = refl

pub no_allows : (cs : List Allow) → allow_events cs [] ≡ []
no_allows [] = refl
no_allows (c ∷ cs) = refl

line_more : (ss : List (List ℕ)) (n : ℕ) (l : List ℕ) (ls : List (List ℕ)) (r : Result (Unit {0}) LineRefusal) → drop n ss ≡ l ∷ ls
    → line_events ss (answers n (r ∷ [])) ≡ line_events ss (answers n []) ++ (event (line l) (done_or line_refusal r) ∷ [])
line_more [] zero l ls r e = let z : ◌≡◌ {A = ℕ} 0 1 = cc in absurd (omega arith)
line_more [] (suc n) l ls r e = let z : ◌≡◌ {A = ℕ} 0 1 = cc in absurd (omega arith)
line_more (x ∷ xs) zero l ls r e = let k : x ≡ l = cc in ap (λ es. event (line x) (done_or line_refusal r) ∷ es) (no_lines xs) ∙ ap (λ s. event (line s) (done_or line_refusal r) ∷ []) k
line_more (x ∷ xs) (suc n) l ls r e = ap (λ es. event (line x) done ∷ es) (line_more xs n l ls r e)

allow_more : (cs : List Allow) (n : ℕ) (c : Allow) (ds : List Allow) (r : Result (Unit {0}) AllowRefusal) → drop n cs ≡ c ∷ ds
    → allow_events cs (answers n (r ∷ [])) ≡ allow_events cs (answers n []) ++ (event (allow c.parameter c.range) (done_or allow_refusal r) ∷ [])
allow_more [] zero c ds r e = let z : ◌≡◌ {A = ℕ} 0 1 = cc in absurd (omega arith)
allow_more [] (suc n) c ds r e = let z : ◌≡◌ {A = ℕ} 0 1 = cc in absurd (omega arith)
allow_more (x ∷ xs) zero c ds r e = let k : x ≡ c = cc in ap (λ es. event (allow x.parameter x.range) (done_or allow_refusal r) ∷ es) (no_allows xs) ∙ ap (λ (s : Allow). event (allow s.parameter s.range) (done_or allow_refusal r) ∷ []) k
allow_more (x ∷ xs) (suc n) c ds r e = ap (λ es. event (allow x.parameter x.range) done ∷ es) (allow_more xs n c ds r e)

pub all_answered : {A : Type 0} (E : Type 0) (xs : List A) (n : ℕ) → drop n xs ≡ [] → n < length xs + 1 → Ends {E = E} (answers n []) (length xs)
all_answered E [] zero e k = refl
all_answered E [] (suc n) e k = absurd (omega arith)
all_answered E (x ∷ xs) zero e k = let z : ◌≡◌ {A = ℕ} 0 1 = cc in absurd (omega arith)
all_answered E (x ∷ xs) (suc n) e k = (length xs, refl, all_answered E xs n e (omega arith))

pub last_refused : {A E : Type 0} (xs : List A) (n : ℕ) (y : A) (ys : List A) (x : E) → drop n xs ≡ y ∷ ys → Ends (answers n (Err x ∷ [])) (length xs)
last_refused [] zero y ys x e = let z : ◌≡◌ {A = ℕ} 0 1 = cc in absurd (omega arith)
last_refused [] (suc n) y ys x e = let z : ◌≡◌ {A = ℕ} 0 1 = cc in absurd (omega arith)
last_refused (w ∷ ws) zero y ys x e = omega arith
last_refused (w ∷ ws) (suc n) y ys x e = (length ws, refl, last_refused ws n y ys x e)

-- what is left after one more
pub drop_next : {A : Type 0} (xs : List A) (n : ℕ) (y : A) (ys : List A) → drop n xs ≡ y ∷ ys → (drop (n + 1) xs ≡ ys) × (n + 1 < length xs + 1)
drop_next xs n y ys e = let k = go xs n e in (rw add-one k.0, let few = k.1 in omega arith)
  where
    go : (xs : List _) (n : ℕ) → drop n xs ≡ y ∷ ys → (drop (suc n) xs ≡ ys) × (n < length xs)
    go [] zero e = let z : ◌≡◌ {A = ℕ} 0 1 = cc in absurd (omega arith)
    go [] (suc n) e = let z : ◌≡◌ {A = ℕ} 0 1 = cc in absurd (omega arith)
    go (x ∷ xs) zero e = (cc, omega arith)
    go (x ∷ xs) (suc n) e = let k = go xs n e in (k.0, let few = k.1 in omega arith)

-- ---- one call more is played
module _ {X : Type 0} (of : X → Envelope) (t u v : X) (m k j : Memory) (n : ℕ) where
  module _ (ss : List (List ℕ)) (l : List ℕ) (ls : List (List ℕ)) (r : Result (Unit {0}) LineRefusal) (left : drop n ss ≡ l ∷ ls)
      (before : Played of t u m k (line_events ss (answers n []))) (one : Played of u v k j (event (line l) (done_or line_refusal r) ∷ [])) where
    line_played : Played of t v m j (line_events ss (answers n (r ∷ [])))
    line_played = subst (Played of t v m j) (sym (line_more ss n l ls r left)) (played_both of t u v m k j _ _ before one)

    pub line_accepted : r ≡ Ok tt → Played of t v m j (line_events ss (answers (n + 1) []))
    line_accepted e = subst (λ rs. Played of t v m j (line_events ss rs)) (ap (λ (q : Result (Unit {0}) LineRefusal). answers n (q ∷ [])) e ∙ sym (accepted_more n)) line_played

    pub line_stopped : (why : LineRefusal) → r ≡ Err why → Played of t v m j (line_events ss (answers n (Err why ∷ [])))
    line_stopped why e = subst (λ q. Played of t v m j (line_events ss (answers n (q ∷ [])))) e line_played

  module _ (cs : List Allow) (c : Allow) (ds : List Allow) (r : Result (Unit {0}) AllowRefusal) (left : drop n cs ≡ c ∷ ds)
      (before : Played of t u m k (allow_events cs (answers n []))) (one : Played of u v k j (event (allow c.parameter c.range) (done_or allow_refusal r) ∷ [])) where
    allow_played : Played of t v m j (allow_events cs (answers n (r ∷ [])))
    allow_played = subst (Played of t v m j) (sym (allow_more cs n c ds r left)) (played_both of t u v m k j _ _ before one)

    pub allow_accepted : r ≡ Ok tt → Played of t v m j (allow_events cs (answers (n + 1) []))
    allow_accepted e = subst (λ rs. Played of t v m j (allow_events cs rs)) (ap (λ (q : Result (Unit {0}) AllowRefusal). answers n (q ∷ [])) e ∙ sym (accepted_more n)) allow_played

    pub allow_stopped : (why : AllowRefusal) → r ≡ Err why → Played of t v m j (allow_events cs (answers n (Err why ∷ [])))
    allow_stopped why e = subst (λ q. Played of t v m j (allow_events cs (answers n (q ∷ [])))) e allow_played

-- ---- the line that is looked at
module _ (ms : List (List ℕ)) (l : List ℕ) (ls : List (List ℕ)) (here : ms ≡ l ∷ ls) where
  pub asked_next : (a : RangeLine) → is_range l ≡ true → range_of l ≡ Some a → (asked_ranges ms ≡ ask a ∷ asked_ranges ls) × (program_lines ms ≡ program_lines ls)
  asked_next a p q = (ap asked_ranges here ∙ (λ i. cond (p i) (asked_by (q i) (asked_ranges ls)) []), ap program_lines here ∙ (λ i. cond (p i) (behind (q i) (program_lines ls)) (Some (l ∷ ls))))

  pub asked_malformed : is_range l ≡ true → range_of l ≡ None → (asked_ranges ms ≡ []) × (program_lines ms ≡ None)
  asked_malformed p q = (ap asked_ranges here ∙ (λ i. cond (p i) (asked_by (q i) (asked_ranges ls)) []), ap program_lines here ∙ (λ i. cond (p i) (behind (q i) (program_lines ls)) (Some (l ∷ ls))))

  pub asked_end : is_range l ≡ false → (asked_ranges ms ≡ []) × (program_lines ms ≡ Some ms)
  asked_end p = (ap asked_ranges here ∙ (λ i. cond (p i) (asked_by (range_of l) (asked_ranges ls)) []), ap program_lines here ∙ (λ i. cond (p i) (behind (range_of l) (program_lines ls)) (Some (l ∷ ls))) ∙ ap Some (sym here))
