use Rattle.std.proofs.Common.{◌≡◌, ℕ, suc, List, [], ◌∷◌, Result, pos, refl, ap, ap₂, ◌∙◌, subst, arith}
use Rattle.model.specs.declared.ending.Cause.TheVariants.{Arithmetic}
use Rattle.model.specs.declared.ending.Ending.TheVariants.{Stopped}
use Rattle.model.specs.declared.expression.Parameter.TheVariants.{P1}
use Rattle.model.specs.declared.line.Line.TheVariants.{Setting}
use Rattle.model.specs.Envelopes.{Envelope}
use Rattle.model.specs.Environments.{Env}
use Rattle.model.specs.Programs.{Closed}
use Rattle.model.specs.Runs.{stops}
use Rattle.model.specs.Whole.{TheEnding, Dry, faulted, here}
use Rattle.model.proofs.Dried.{one_ending}
use Rattle.number_sets.specs.Pairs.{both}
use Rattle.intervals.specs.Makes.{made_some}
use Rattle.intervals.specs.Same.{interval_same}
use Rattle.divisibility.specs.Gcds.{gcd, gcd_by}
use Rattle.divisibility.specs.Leasts.{least}
use Rattle.congruences.specs.Commons.{common}
use Rattle.congruences.specs.Numbers.{congruences}
use Rattle.congruences.specs.Settled.{checked, pick}
use Rattle.congruences.specs.Checks.{checked_some}
use Rattle.model.specs.declared.line.Line.{Line}
use Rattle.grammar.specs.declared.refusal.Cause.TheVariants.{Limit, Twice}
use Rattle.grammar.specs.declared.refusal.Refusal.{Refusal}
use Rattle.grammar.specs.Answer.{answer}
use Rattle.grammar.specs.Law.{TheAnswer}
use Rattle.grammar.proofs.Unique.{the_answer}
use Rattle.cases.specs.Table.{Table, sum, bounded_by, to_4, from_1_to_5, four_by_6, one_by_4, three_by_6, nine_by_12}
use Rattle.cases.proofs.table.Goals as goal

by_law : (s : List ℕ) (r : Result Line Refusal) → answer s ≡ r → TheAnswer s r
by_law s r e = subst (TheAnswer s) e (the_answer s)

joined : congruences.hull (congruences.single (pos 4)) (congruences.single (pos 10)) ≡ four_by_6
unfolding gcd gcd_by checked pick
joined = refl

-- one line that opens no block is a closed program
alone : Closed (Setting P1 sum ∷ [])
alone = record { nested = (tt, refl); once = λ i k l x y s t p q. let a = s.inner in let b = t.inner in omega arith }

stops_at_once : (v : Envelope) (n : ℕ) (e : Env) → Dry (Setting P1 sum ∷ []) v (suc n) 0 e (Stopped (record { line = 1; cause = Arithmetic }))
stops_at_once v n e = faulted (omega arith) here (stops (record { inner = omega arith; is = refl }) refl)

stops_alone : (v : Envelope) (n : ℕ) (e : Env) → TheEnding (Setting P1 sum ∷ []) v (suc n) 0 e (Stopped (record { line = 1; cause = Arithmetic }))
stops_alone v n e = record { is = stops_at_once v n e; only = λ u d. one_ending (Setting P1 sum ∷ []) v alone (suc n) 0 e u _ d (stops_at_once v n e) }

shared : common one_by_4 three_by_6 ≡ checked 12 (pos 9)
unfolding gcd gcd_by least
shared = refl

table : Table
table = record {
  less = ap₂ both (made_some (pos 0) (pos 4) to_4 refl refl) (made_some (pos 1) (pos 5) from_1_to_5 refl refl);
  widened = interval_same _ _ refl refl;
  sum_read = by_law _ _ refl;
  sum_faults = λ e. refl;
  sum_stops = λ ss h n e. stops_alone (bounded_by ss h) n e;
  beyond = (Limit, refl, by_law _ _ refl);
  joined = joined;
  equal = ap (λ o. both o o) (shared ∙ checked_some 12 (pos 9) nine_by_12 refl refl);
  found = refl;
  twice = (Twice, refl, by_law _ _ refl);
}

pub returns : goal.returns
returns c = table
