-- The events of an input are those of its ranges, its lines and the certify, as far as they are called.
use Rattle.std.proofs.Common.{◌≡◌, ℕ, List, [], ◌∷◌, ◌++◌, Some, None, Option, Ok, Err, Result, refl, sym, ap, ◌∙◌}
use Rattle.std.specs.Borrow.{Bor}
use Rattle.program.specs.declared.refusal.LineRefusal.{LineRefusal}
use Rattle.session.specs.declared.refusal.AllowRefusal.{AllowRefusal}
use Rattle.certify.specs.Certifies.{Answer as Verdict}
use Rattle.calls.specs.Law.{Event}
use Rattle.console.specs.Asked.{asked_ranges, program_lines, allow_events, line_events, certify_event}
use Rattle.console.specs.Lines.{lines_of}
use Rattle.console.specs.Played.{answers, refusals, allow_in, lines_behind, asked_events}
use Rattle.console.specs.declared.played.RangeRefusal.{RangeRefusal}
use Rattle.console.specs.declared.played.RangeRefusal.TheVariants.{Text, Allow as NotAllowed}
use Rattle.console.specs.declared.played.Stop.TheVariants.{RangeText as AtText, Allow as AtAllow, Line as AtLine, Verdict as AtVerdict}
use Rattle.console.proofs.PlayedEvents.{no_lines}

nothing_more : (es : List Event) → es ++ [] ≡ es
nothing_more [] = refl
nothing_more (e ∷ es) = ap (λ fs. e ∷ fs) (nothing_more es)

module _ (ls : List (List ℕ)) (states n m : ℕ) (x : Result (Bor (List ℕ)) RangeRefusal) where
  abbrev ranges : List Event
  ranges = allow_events (asked_ranges ls) (answers n (refusals (allow_in x)))

  -- no line and no certify is called behind a refused range
  alone : (e : Option AllowRefusal) → allow_in x ≡ e → ranges ≡ allow_events (asked_ranges ls) (answers n (refusals e)) ++ (line_events (lines_behind (program_lines ls)) [] ++ [])
  alone e k =
      ap (λ y. allow_events (asked_ranges ls) (answers n (refusals y))) k
      ∙ sym (ap (λ es. allow_events (asked_ranges ls) (answers n (refusals e)) ++ (es ++ [])) (no_lines (lines_behind (program_lines ls))) ∙ nothing_more _)

  pub at_text : x ≡ Err Text → ranges ≡ asked_events ls states n 0 AtText
  at_text k = alone None (ap allow_in k)

  pub at_allow : (e : AllowRefusal) → x ≡ Err (NotAllowed e) → ranges ≡ asked_events ls states n 0 (AtAllow e)
  at_allow e k = alone (Some e) (ap allow_in k)

  module _ (text : Bor (List ℕ)) (y : Option LineRefusal) (rest : x ≡ Ok text) (behind : program_lines ls ≡ Some (lines_of text.now)) where
    abbrev lines : List Event
    lines = line_events (lines_of text.now) (answers m (refusals y))

    pub at_line : (e : LineRefusal) → y ≡ Some e → ranges ++ lines ≡ asked_events ls states n m (AtLine e)
    at_line e k =
        (λ i. allow_events (asked_ranges ls) (answers n (refusals (allow_in (rest i)))) ++ line_events (lines_behind (sym behind i)) (answers m (refusals (k i))))
        ∙ ap (λ fs. allow_events (asked_ranges ls) (answers n []) ++ fs) (sym (nothing_more _))

    pub at_verdict : (v : Verdict) → y ≡ None → ranges ++ (lines ++ (certify_event states v ∷ [])) ≡ asked_events ls states n m (AtVerdict v)
    at_verdict v k = λ i. allow_events (asked_ranges ls) (answers n (refusals (allow_in (rest i)))) ++ (line_events (lines_behind (sym behind i)) (answers m (refusals (k i))) ++ (certify_event states v ∷ []))
