-- On single values a program without loops is certified exactly where its run ends well, and else fails as its run does.
use Rattle.std.specs.Prelude.{◌≡◌, ℕ, ◌≤◌, ◌↔◌, List, map, length, take, drop, ℤ}
use Rattle.std.specs.List.{AllByRecursion}
use Rattle.model.specs.declared.ending.Ending.{Ending}
use Rattle.model.specs.declared.ending.Ending.TheVariants.{Ended, Stopped}
use Rattle.model.specs.declared.line.Line.{Line}
use Rattle.model.specs.declared.line.Line.TheVariants.{Plain, Setting, Move, While, If, EndIf, EndWhile}
use Rattle.model.specs.Envelopes.{Envelope}
use Rattle.model.specs.Environments.{Env, LegalOf, axes, parameters, registers, position}
use Rattle.model.specs.Written.{WrittenLine}
use Rattle.model.specs.Programs.{Closed}
use Rattle.model.specs.Whole.{Dry}
use Rattle.domain.specs.Lattice.{Lattice, Meaning, single}
use Rattle.sweep.specs.Blocks.{blocks}
use Rattle.sweep.specs.Starts.{start}
use Rattle.sweep.specs.Sweeps.{Verdict, certified, uncertified, verdict, sweep}
use Rattle.sweep.specs.Sound.{Unchanged}

abbrev pub NoWhile : Line → Type 0
NoWhile Plain = Unit {0}
NoWhile (Setting p v) = Unit {0}
NoWhile (Move g x y z u) = Unit {0}
NoWhile (While l c) = ⊥
NoWhile (If l c) = Unit {0}
NoWhile (EndIf l) = Unit {0}
NoWhile (EndWhile l) = Unit {0}

-- certified: the run ended; else it stopped at that line for that cause
abbrev pub ending : Verdict → Ending
ending (certified hulls) = Ended
ending (uncertified f) = Stopped f

-- the parameters' numbers in an environment
abbrev pub values_of : Env → List ℤ
values_of e = take parameters (drop axes e)

-- the allowed ranges leave the one environment e, which has the axes at home: a run of enough steps ends as the verdict of an unchanged
-- sweep says, and no other way
abbrev pub Exact : {S : Type 0} {M : Meaning S} → Lattice M → Envelope → Type 0
Exact {S} l t = (lines : List Line) (e : Env) (store : List S) (k : ℕ) →
    Closed lines → AllByRecursion WrittenLine lines → AllByRecursion NoWhile lines → LegalOf registers e → position e ≡ t.home → length lines ≤ k →
    Unchanged l lines t (start l t (map single (values_of e))) store →
    (o : Ending) → Dry lines t k 0 e o ↔ (o ≡ ending (verdict (sweep l (blocks lines) t lines (start l t (map single (values_of e))) store)))
