use Rattle.grammar.specs.Axes.{put, no_values, motion_of}
use Rattle.grammar.specs.Combinators.{expect}
use Rattle.grammar.specs.Tests.{axis, digits}
use Rattle.grammar.specs.Parser.{move, value, after_g, after_axis, more_words}
use Rattle.reader.proofs.Chains.{parses_then, parses_stop, parses_same, parses_expected, parses_refused}
use Rattle.reader.proofs.reader.Reader.travel.Goals as goal

pub returns-in_err-g : goal.returns-in_err-g
returns-in_err-g c =
    parses_refused move _ _ _ _ c.from_residual.ensures.1 (parses_stop (expect (digits 0 1)) after_g _ _ _ c.in_err-g.ensures.parses)

pub returns-in_err-a : goal.returns-in_err-a
returns-in_err-a c =
    parses_refused move _ _ _ _ c.from_residual-in_err-a.ensures.1 (parses_then (expect (digits 0 1)) after_g _ _ _ _ _ c.in_ok-g.ensures.parses
    (parses_stop (expect axis) (after_axis (motion_of c.in_ok-g.g)) _ _ _ (parses_expected axis _ _ _ c.in_err-a.ensures)))

pub returns-in_err-v : goal.returns-in_err-v
returns-in_err-v c =
    parses_refused move _ _ _ _ c.from_residual-in_err-v.ensures.1 (parses_then (expect (digits 0 1)) after_g _ _ _ _ _ c.in_ok-g.ensures.parses
    (parses_then (expect axis) (after_axis (motion_of c.in_ok-g.g)) _ _ _ _ _ (parses_expected axis _ _ _ c.in_ok-a.ensures)
    (parses_stop value (λ v. more_words (motion_of c.in_ok-g.g) (put no_values c.in_ok-a.a v)) _ _ _ c.in_err-v.ensures)))

pub returns : goal.returns
returns c = parses_then (expect (digits 0 1)) after_g _ _ _ _ _ c.in_ok-g.ensures.parses
    (parses_then (expect axis) (after_axis (motion_of c.in_ok-g.g)) _ _ _ _ _ (parses_expected axis _ _ _ c.in_ok-a.ensures)
    (parses_then value (λ v. more_words (motion_of c.in_ok-g.g) (put no_values c.in_ok-a.a v)) _ _ _ _ _ c.in_ok-v.ensures
    (parses_same (λ g. more_words g (put no_values c.in_ok-a.a c.in_ok-v.v)) _ _ _ _ _ c.motion_of.ensures c.words.ensures)))
