-- Worked examples: what the rules for intervals, congruences and texts come to where it can be followed by hand.
use Rattle.std.specs.Prelude.{◌≡◌, ℕ, suc, false, List, [], ◌∷◌, pos, Some, Ok, codes, refl}
use Rattle.model.specs.declared.expression.Op.TheVariants.{Add}
use Rattle.model.specs.declared.expression.Parameter.TheVariants.{P1}
use Rattle.model.specs.declared.expression.Rel.TheVariants.{Eq, Lt}
use Rattle.model.specs.declared.expression.Term.TheVariants.{Number}
use Rattle.model.specs.declared.expression.Value.{Value}
use Rattle.model.specs.declared.ending.Cause.TheVariants.{Arithmetic}
use Rattle.model.specs.declared.ending.Ending.TheVariants.{Stopped}
use Rattle.model.specs.declared.line.Line.{Line}
use Rattle.model.specs.declared.line.Line.TheVariants.{Setting}
use Rattle.model.specs.declared.side.Side.{Side}
use Rattle.model.specs.Axes.{Position}
use Rattle.model.specs.Envelopes.{Envelope}
use Rattle.model.specs.Environments.{Env}
use Rattle.model.specs.Values.{fine}
use Rattle.model.specs.Whole.{TheEnding}
use Rattle.intervals.specs.declared.interval.Interval.{Interval}
use Rattle.intervals.specs.Made.{between}
use Rattle.intervals.specs.Intervals.{intervals}
use Rattle.congruences.specs.declared.congruence.Congruence.{Congruence}
use Rattle.congruences.specs.Numbers.{congruences}
use Rattle.grammar.specs.Grammar.{applied}
use Rattle.grammar.specs.declared.refusal.Cause.{Cause}
use Rattle.grammar.specs.Causes.{number_of, refused}
use Rattle.grammar.specs.Law.{TheAnswer}

-- from 0 to a number
abbrev pub to_4 : Interval
to_4 = between (pos 0) (pos 4) refl

abbrev pub to_5 : Interval
to_5 = between (pos 0) (pos 5) refl

abbrev pub to_9 : Interval
to_9 = between (pos 0) (pos 9) refl

abbrev pub to_ten_million : Interval
to_ten_million = between (pos 0) (pos 10000000) refl

abbrev pub from_1_to_5 : Interval
from_1_to_5 = between (pos 1) (pos 5) refl

-- a residue by its modulus
abbrev pub four_by_6 : Congruence
four_by_6 = record { modulus = 6; residue = pos 4; ok = refl }

abbrev pub one_by_4 : Congruence
one_by_4 = record { modulus = 4; residue = pos 1; ok = refl }

abbrev pub three_by_6 : Congruence
three_by_6 = record { modulus = 6; residue = pos 3; ok = refl }

abbrev pub nine_by_12 : Congruence
nine_by_12 = record { modulus = 12; residue = pos 9; ok = refl }

-- the sum that [10000000+1] writes
abbrev pub sum : Value
sum = applied Add (Number (pos 10000000)) (Number (pos 1))

-- sides and a home, with all positions as the region: what a dry run comes to is told by the sides alone
abbrev pub bounded_by : List Side → Position → Envelope
bounded_by ss h = record { region = λ p. Unit {0}; sides = ss; home = h }

-- the text is this line, and nothing else
abbrev pub ReadAs : List ℕ → Line → Type 0
ReadAs s l = TheAnswer s (Ok l)

-- the text is refused for the cause with the number k, at the place p, and nothing else
abbrev pub RefusedWith : List ℕ → ℕ → ℕ → Type 0
RefusedWith s k p = (c : Cause) × (number_of c ≡ k) × TheAnswer s (refused c p)

pub record Table : Type 0 where
  -- a number of 0..9 below one of 0..5 lies in 0..4, and the other in 1..5
  pub less : intervals.kept Lt to_9 to_5 ≡ Some (record { left = to_4; right = from_1_to_5 })
  -- 1..5 comes to 0..4: the lower end stays, the upper one rose and goes as far as it can
  pub widened : intervals.widen to_4 from_1_to_5 ≡ to_ten_million
  -- a sum may be written whatever it comes to
  pub sum_read : ReadAs (codes "#1=[10000000+1]") (Setting P1 sum)
  -- this one comes to more than any register may have, so it faults, whatever the registers have
  pub sum_faults : (e : Env) → fine e sum ≡ false
  -- and a run stops there: on every travel, with at least one step, whatever the registers have
  pub sum_stops : (sides : List Side) (home : Position) (n : ℕ) (e : Env) → TheEnding (Setting P1 sum ∷ []) (bounded_by sides home) (suc n) 0 e (Stopped (record { line = 1; cause = Arithmetic }))
  -- the same number may not be written itself: its digits begin at place 3
  pub beyond : RefusedWith (codes "#1=10000001") 14 3
  -- the numbers 4 and 10, joined
  pub joined : congruences.hull (congruences.single (pos 4)) (congruences.single (pos 10)) ≡ four_by_6
  -- a number that is 1 modulo 4 and equals one that is 3 modulo 6: on both sides 9 modulo 12 is left
  pub equal : congruences.kept Eq one_by_4 three_by_6 ≡ Some (record { left = nine_by_12; right = nine_by_12 })
  -- the least and the greatest such number from 10 to 40
  pub found : congruences.range nine_by_12 (record { lo = pos 10; hi = pos 40 }) ≡ record { lo = pos 21; hi = pos 33 }
  -- X is named again, at place 4
  pub twice : RefusedWith (codes "G1X5X6") 15 4
