-- Calls that are kept from what is remembered keep the law.
use Rattle.std.proofs.Common.{◌≡◌, ℕ, Bool, is_some, List, [], ◌∷◌, Option, sym, subst}
use Rattle.grammar.specs.Answer.{answer}
use Rattle.grammar.proofs.Unique.{the_answer}
use Rattle.model.specs.Envelopes.{Envelope}
use Rattle.model.specs.Environments.{Env}
use Rattle.model.specs.declared.line.Line.{Line}
use Rattle.model.specs.declared.range.Range.{Range}
use Rattle.program.specs.Entry.{line_answer, lines_after}
use Rattle.runner.specs.Plain.{run_at}
use Rattle.session.specs.Answers.{allow_answer, start_answer}
use Rattle.session.specs.Memory.{Memory, blank}
use Rattle.session.specs.Promises.{Hulls}
use Rattle.calls.specs.Law.{Call, line, allow, wipe, certify, start, step, dry, Answer, Event, event, Standing, standing, AnswersStep, Answers, Lawful}
use Rattle.calls.specs.Playing.{AllKept, Leads, after, known}
use Rattle.calls.proofs.Programs.{grown, line_computed}
use Rattle.calls.proofs.Remembered.{Remembers, nothing_remembered, line_by, allow_by, wipe_by, certify_by, start_by, step_by, dry_by}

module _ (travel : Envelope) where
  -- ---- what was remembered still is
  still : (past : List Event) (m : Memory) (c : Call) (a : Answer) → Remembers travel.home past m → Answers travel (known m) c a → Leads m c a → Remembers travel.home (event c a ∷ past) (after travel.home m c a)
  still past m (line text) a r k l =
      subst (λ (b : Answer). Remembers travel.home (event (line text) b ∷ past) (after travel.home m (line text) b)) (sym (line_computed m.program text a k))
      (line_by travel.home past m r text (answer text) (line_answer m.program text) (lines_after m.program text) (the_answer text) (grown m.program text))
  still past m (allow n x) a r k l = subst (λ (b : Answer). Remembers travel.home (event (allow n x) b ∷ past) (after travel.home m (allow n x) b)) (sym k) (allow_by travel.home past m r n x (allow_answer n x))
  still past m wipe a r k l = subst (λ (b : Answer). Remembers travel.home (event wipe b ∷ past) blank) (sym k) (wipe_by travel.home past m r)
  still past m (certify d n) a r k l = certify_by travel.home past m r d n a
  still past m (start vs) a r k l =
      subst (λ (b : Answer). Remembers travel.home (event (start vs) b ∷ past) (after travel.home m (start vs) b)) (sym k.by_rule) (start_by travel.home past m r vs (start_answer m.certificate m.allowed vs))
  still past m step a r k l = step_by travel.home past m r a k.somewhere l
  still past m (dry vs n) a r k l = dry_by travel.home past m r vs n a

  -- ---- what is answered by memory is answered by what stands
  abbrev stood : List Line → List Range → Option Hulls → Bool → (ℕ → Env → Type 0) → Standing
  stood lines ranges hulls b run = record { program = lines; allowed = ranges; certificate = hulls; started = b; run = run }

  module _ (lines : List Line) (ranges : List Range) (hulls : Option Hulls) (b : Bool) (Was Is : ℕ → Env → Type 0) (into : (i : ℕ) (e : Env) → Was i e → Is i e) (back : (i : ℕ) (e : Env) → Is i e → Was i e) where
    step_too : (a : Answer) → AnswersStep travel (stood lines ranges hulls b Was) a → AnswersStep travel (stood lines ranges hulls b Is) a
    step_too a k = record {
      when = k.when;
      somewhere = (λ t. let g = k.somewhere.0 t in (g.0, g.1, into g.0 g.1 g.2), λ g. k.somewhere.1 (g.0, g.1, back g.0 g.1 g.2));
      else = k.else;
      goes_on = λ i e h. k.goes_on i e (back i e h);
      no_fault = λ i e h. k.no_fault i e (back i e h);
      inside = λ i j e f h. k.inside i j e f (back i e h);
    }

    run_too : (c : Call) (a : Answer) → Answers travel (stood lines ranges hulls b Was) c a → Answers travel (stood lines ranges hulls b Is) c a
    run_too (line text) a k = k
    run_too (allow n x) a k = k
    run_too wipe a k = k
    run_too (certify d n) a k = record {
      verdict = k.verdict;
      the_verdict = k.the_verdict;
      promised = k.promised;
      is = k.is;
      exact = λ exact vs one. k.exact exact vs (record { closes = one.closes; straight = one.straight; values = one.values; enough = one.enough });
    }
    run_too (start vs) a k = record { by_rule = k.by_rule; when = k.when }
    run_too step a k = step_too a k
    run_too (dry vs n) a k = k

  answered_too : (past : List Event) (m : Memory) (c : Call) (a : Answer) → Remembers travel.home past m → Answers travel (known m) c a → Answers travel (standing travel.home past m.program) c a
  answered_too past m c a r k =
      let w = standing travel.home past m.program in
      let run = λ (i : ℕ) (e : Env). m.run ≡ run_at i e in
      let goes = is_some m.run.at in
      let by_allowed : Answers travel (stood m.program w.allowed m.certificate goes run) c a = subst (λ (ranges : List Range). Answers travel (stood m.program ranges m.certificate goes run) c a) r.allowed k in
      let by_certificate : Answers travel (stood m.program w.allowed w.certificate goes run) c a = subst (λ (hulls : Option Hulls). Answers travel (stood m.program w.allowed hulls goes run) c a) r.certificate by_allowed in
      let by_start : Answers travel (stood m.program w.allowed w.certificate w.started run) c a = subst (λ (b : Bool). Answers travel (stood m.program w.allowed w.certificate b run) c a) r.started by_certificate in
      run_too m.program w.allowed w.certificate w.started run w.run r.goes r.stands c a by_start

  -- ---- the theorem
  lawful_after : (past es : List Event) (m : Memory) → Remembers travel.home past m → AllKept travel m es → Lawful travel past es
  lawful_after past [] m r kept = tt
  lawful_after past (event c a ∷ more) m r kept =
      ((m.program, r.program, answered_too past m c a r kept.0.0), lawful_after (event c a ∷ past) more (after travel.home m c a) (still past m c a r kept.0.0 kept.0.1) kept.1)

  lawful_list : (es : List Event) → AllKept travel blank es → Lawful travel [] es
  lawful_list es k = lawful_after [] es blank (nothing_remembered travel.home) k

-- on the travel of a session just made
pub lawful_on : {T : Type 0} (of : T → Envelope) (t u : T) (m : Memory) (es : List Event) → t ≡ u → m ≡ blank → AllKept (of t) m es → Lawful (of u) [] es
lawful_on of t u m es p q k = subst (λ v. Lawful (of v) [] es) p (lawful_list (of t) es (subst (λ n. AllKept (of t) n es) q k))
