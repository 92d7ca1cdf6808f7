-- The grammar of a script's line: which texts are commands, and what each of them means. Words stand one blank apart.
use Rattle.std.specs.Prelude.{◌≡◌, ℕ, List, [], ◌∷◌, ◌++◌, length, codes, ℤ, pos, Some, Option, IfSome}
use Rattle.model.specs.Environments.{parameters}
use Rattle.model.specs.Axes.{Position}
use Rattle.model.specs.declared.range.Range.{Range}
use Rattle.words.specs.Numbers.{NumberIs}
use Rattle.command.specs.declared.domain_name.DomainName.{DomainName}
use Rattle.command.specs.declared.domain_name.DomainName.TheVariants.{Intervals, Congruences, IntervalsAndCongruences, CongruencesAndIntervals, TwiceIntervals}
use Rattle.command.specs.Commands.{Meant, bench_gantry, bench_beam, gantry, beam, line, allow, wipe, start, step, dry, certify}

-- numbers, each after one blank
pub data NumbersAre : List ℕ → List ℤ → Type 0 where
  none : NumbersAre [] []
  more : {bs : List ℕ} {ns : List ℤ} (w : List ℕ) (n : ℤ) → NumberIs w n → NumbersAre bs ns → NumbersAre (32 ∷ (w ++ bs)) (n ∷ ns)

-- a product's sides are joined by a star
pub data DomainIs : List ℕ → DomainName → Type 0 where
  intervals : DomainIs (codes "intervals") Intervals
  congruences : DomainIs (codes "congruences") Congruences
  intervals_and_congruences : DomainIs (codes "intervals*congruences") IntervalsAndCongruences
  congruences_and_intervals : DomainIs (codes "congruences*intervals") CongruencesAndIntervals
  twice_intervals : DomainIs (codes "intervals*intervals") TwiceIntervals

-- the numbers of a position, in the order X, Y, Z, U
abbrev pub four_numbers : Position → List ℤ
four_numbers p = p.x ∷ (p.y ∷ (p.z ∷ (p.u ∷ [])))

pub data CommandIs : List ℕ → Meant → Type 0 where
  a_bench_gantry : CommandIs (codes "benchgantry") bench_gantry
  a_bench_beam : CommandIs (codes "benchbeam") bench_beam
  a_gantry : (bs : List ℕ) (lower upper home : Position) → NumbersAre bs (four_numbers lower ++ (four_numbers upper ++ four_numbers home)) →
      CommandIs (codes "gantry" ++ bs) (gantry (record { lower = lower; home = home; upper = upper }))
  -- the same and then the gap
  a_beam : (bs : List ℕ) (lower upper home : Position) (gap : ℤ) → NumbersAre bs (four_numbers lower ++ (four_numbers upper ++ (four_numbers home ++ (gap ∷ [])))) →
      CommandIs (codes "beam" ++ bs) (beam (record { lower = lower; home = home; upper = upper }) gap)
  -- the empty text, or all that follows one blank, as it is
  no_text : CommandIs (codes "line") (line [])
  a_text : (text : List ℕ) → CommandIs (codes "line" ++ (32 ∷ text)) (line text)
  -- a parameter, and its range from low to high
  an_allow : (bs : List ℕ) (p : ℤ) (r : Range) → NumbersAre bs (p ∷ (r.lo ∷ (r.hi ∷ []))) → CommandIs (codes "allow" ++ bs) (allow p r)
  a_wipe : CommandIs (codes "wipe") wipe
  -- a value for each parameter
  a_start : (bs : List ℕ) (vs : List ℤ) → length vs ≡ parameters → NumbersAre bs vs → CommandIs (codes "start" ++ bs) (start vs)
  a_step : CommandIs (codes "step") step
  -- the same and then a count of steps
  a_dry : (bs : List ℕ) (vs : List ℤ) (k : ℕ) → length vs ≡ parameters → NumbersAre bs (vs ++ (pos k ∷ [])) → CommandIs (codes "dry" ++ bs) (dry vs k)
  -- a domain by its name, and a count of states
  a_certify : (name bs : List ℕ) (d : DomainName) (k : ℕ) → DomainIs name d → NumbersAre bs (pos k ∷ []) → CommandIs (codes "certify" ++ (32 ∷ (name ++ bs))) (certify d k)

-- o is the command that the text is, and it is no other; or the text is none
pub record TheCommand (bs : List ℕ) (o : Option Meant) : Type 0 where
  pub is : IfSome o (CommandIs bs)
  pub only : (m : Meant) → CommandIs bs m → o ≡ Some m
