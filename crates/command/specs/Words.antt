-- The words of a line: they are separated by exactly one blank. The first says what is asked.
use Rattle.std.specs.Prelude.{ℕ, cond, List, [], ◌∷◌, Some, None, codes, Option, ◌==◌}
use Rattle.std.specs.Str.{bytes_eq}
use Rattle.command.specs.declared.word.Word.{Word}
use Rattle.command.specs.declared.word.Word.TheVariants.{BenchGantry, BenchBeam, Gantry, Beam, Line, Allow, Wipe, Start, Step, Dry, Certify}
use Rattle.command.specs.declared.domain_name.DomainName.{DomainName}
use Rattle.command.specs.declared.domain_name.DomainName.TheVariants.{Intervals, Congruences, IntervalsAndCongruences, CongruencesAndIntervals, TwiceIntervals}
use Rattle.words.specs.Cuts.{before}

-- the words, of which two blanks in a row have an empty one between them
abbrev pub words_of : List ℕ → List (List ℕ)
words_of [] = [] ∷ []
words_of (b ∷ bs) = cond (b == 32) ([] ∷ words_of bs) (before b (words_of bs))

-- command words are written in small letters exactly
abbrev pub word_of : List ℕ → Option Word
word_of w =
    cond (bytes_eq w (codes "benchgantry")) (Some BenchGantry)
    (cond (bytes_eq w (codes "benchbeam")) (Some BenchBeam)
    (cond (bytes_eq w (codes "gantry")) (Some Gantry)
    (cond (bytes_eq w (codes "beam")) (Some Beam)
    (cond (bytes_eq w (codes "line")) (Some Line)
    (cond (bytes_eq w (codes "allow")) (Some Allow)
    (cond (bytes_eq w (codes "wipe")) (Some Wipe)
    (cond (bytes_eq w (codes "start")) (Some Start)
    (cond (bytes_eq w (codes "step")) (Some Step)
    (cond (bytes_eq w (codes "dry")) (Some Dry)
    (cond (bytes_eq w (codes "certify")) (Some Certify) None))))))))))

-- a product's sides are joined by a star
abbrev pub domain_of : List ℕ → Option DomainName
domain_of w =
    cond (bytes_eq w (codes "intervals")) (Some Intervals)
    (cond (bytes_eq w (codes "congruences")) (Some Congruences)
    (cond (bytes_eq w (codes "intervals*congruences")) (Some IntervalsAndCongruences)
    (cond (bytes_eq w (codes "congruences*intervals")) (Some CongruencesAndIntervals)
    (cond (bytes_eq w (codes "intervals*intervals")) (Some TwiceIntervals) None))))

-- ---- for the parts of the reading
-- the words of what follows the first word, each after one blank; where there is no blank, one that is empty
abbrev pub arguments : List ℕ → List (List ℕ)
arguments [] = []
arguments (b ∷ bs) = cond (b == 32) (words_of bs) ([] ∷ [])

-- no word, or one that is empty
abbrev pub NoWord : List (List ℕ) → Type 0
NoWord [] = Unit {0}
NoWord ([] ∷ []) = Unit {0}
NoWord ([] ∷ w ∷ ws) = ⊥
NoWord ((b ∷ bs) ∷ ws) = ⊥
