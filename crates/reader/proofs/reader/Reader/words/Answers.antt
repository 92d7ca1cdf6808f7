use Rattle.std.proofs.Common.{◌≡◌, Ok, sym, ap, ◌∙◌, subst, rules}
use Rattle.grammar.specs.Axes.{put, no_values}
use Rattle.grammar.specs.Parser.{more_words}
use Rattle.reader.specs.Parses.{Parses}
use Rattle.reader.proofs.Chains.{parses_same, parses_refused}
use Rattle.reader.proofs.reader.Reader.words.Goals as goal

pub returns-in_err-more : goal.returns-in_err-more
returns-in_err-more c =
    let from : c.default-values.result ≡ no_values = search rules in
    parses_refused (more_words c.args.motion (put no_values c.args.a c.args.v)) _ _ _ _ c.from_residual.ensures.1 (parses_same (more_words c.args.motion) _ _ _ _ _ (c.set.ensures ∙ ap (λ m. put m c.args.a c.args.v) from) (c.in_err-more.ensures c.args.motion))

pub returns : goal.returns
returns c =
    let from : c.default-values.result ≡ no_values = search rules in
    subst (λ l. Parses (more_words c.args.motion (put no_values c.args.a c.args.v)) c.args.self.now.lexer (Ok l) c.more.new.self.lexer) (sym c.moved.ensures) (parses_same (more_words c.args.motion) _ _ _ _ _ (c.set.ensures ∙ ap (λ m. put m c.args.a c.args.v) from) (c.in_ok-more.ensures c.args.motion))
