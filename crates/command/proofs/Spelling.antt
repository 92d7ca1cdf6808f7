-- The words of a script, and how they are spelled.
use Rattle.std.proofs.Common.{◌≡◌, ℕ, Bool, true, false, cond, List, codes, Some, None, Option, sym, refl, subst, arith}
use Rattle.std.specs.Str.{bytes_eq}
use Rattle.std.proofs.lemmas.Slice.Eq.{bytes_eq-Decides}
use Rattle.words.proofs.Cutting.{lacks}
use Rattle.command.specs.declared.word.Word.{Word}
use Rattle.command.specs.declared.word.Word.TheVariants.{BenchGantry, BenchBeam, Gantry, Beam, Line, Allow, Wipe, Start, Step, Dry, Certify}
use Rattle.command.specs.declared.domain_name.DomainName.{DomainName}
use Rattle.command.specs.declared.domain_name.DomainName.TheVariants.{Intervals, Congruences, IntervalsAndCongruences, CongruencesAndIntervals, TwiceIntervals}
use Rattle.command.specs.Words.{word_of, domain_of}
use Rattle.command.specs.Grammar.{DomainIs, intervals, congruences, intervals_and_congruences, congruences_and_intervals, twice_intervals}

abbrev pub spelled : Word → List ℕ
spelled BenchGantry = codes "benchgantry"
spelled BenchBeam = codes "benchbeam"
spelled Gantry = codes "gantry"
spelled Beam = codes "beam"
spelled Line = codes "line"
spelled Allow = codes "allow"
spelled Wipe = codes "wipe"
spelled Start = codes "start"
spelled Step = codes "step"
spelled Dry = codes "dry"
spelled Certify = codes "certify"

-- a table is tried from the front
module _ {A : Type 0} (P : List ℕ → A → Type 0) (w : List ℕ) (x : A) where
  tried : (t : List ℕ) (y : A) (o : Option A) → P t y → (o ≡ Some x → P w x) → cond (bytes_eq w t) (Some y) o ≡ Some x → P w x
  tried t y o p more = go (bytes_eq w t) refl
    where
      go : (b : Bool) → bytes_eq w t ≡ b → cond b (Some y) o ≡ Some x → P w x
      go true e f = let s : y ≡ x = cc in subst (P w) s (subst (λ l. P l y) (sym ((bytes_eq-Decides w t).0 e)) p)
      go false e f = more f

  nothing : None ≡ Some x → P w x
  nothing e = let z : ◌≡◌ {A = ℕ} 0 1 = cc in absurd (omega arith)

pub word_had : (w : List ℕ) (x : Word) → word_of w ≡ Some x → w ≡ spelled x
word_had w x =
    tried P w x _ BenchGantry _ refl (tried P w x _ BenchBeam _ refl (tried P w x _ Gantry _ refl (tried P w x _ Beam _ refl (tried P w x _ Line _ refl (tried P w x _ Allow _ refl
    (tried P w x _ Wipe _ refl (tried P w x _ Start _ refl (tried P w x _ Step _ refl (tried P w x _ Dry _ refl (tried P w x _ Certify _ refl (nothing P w x)))))))))))
  where
    P : List ℕ → Word → Type 0
    P w x = w ≡ spelled x

pub domain_had : (w : List ℕ) (d : DomainName) → domain_of w ≡ Some d → DomainIs w d
domain_had w d =
    tried DomainIs w d _ Intervals _ intervals (tried DomainIs w d _ Congruences _ congruences (tried DomainIs w d _ IntervalsAndCongruences _ intervals_and_congruences
    (tried DomainIs w d _ CongruencesAndIntervals _ congruences_and_intervals (tried DomainIs w d _ TwiceIntervals _ twice_intervals (nothing DomainIs w d)))))

pub domain_read : (w : List ℕ) (d : DomainName) → DomainIs w d → (domain_of w ≡ Some d) × (lacks 32 w ≡ true)
domain_read w d intervals = (refl, refl)
domain_read w d congruences = (refl, refl)
domain_read w d intervals_and_congruences = (refl, refl)
domain_read w d congruences_and_intervals = (refl, refl)
domain_read w d twice_intervals = (refl, refl)

-- no word has a blank
pub spelled_lacks : (x : Word) → lacks 32 (spelled x) ≡ true
spelled_lacks BenchGantry = refl
spelled_lacks BenchBeam = refl
spelled_lacks Gantry = refl
spelled_lacks Beam = refl
spelled_lacks Line = refl
spelled_lacks Allow = refl
spelled_lacks Wipe = refl
spelled_lacks Start = refl
spelled_lacks Step = refl
spelled_lacks Dry = refl
spelled_lacks Certify = refl
