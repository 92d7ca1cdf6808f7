use Rattle.std.proofs.Common.{is_some, sym, ap, ◌∙◌, arith, rules}
use Rattle.grammar.specs.Axes.{count}
use Rattle.grammar.specs.Parser.{more_words}
use Rattle.grammar.specs.Tests.{axis}
use Rattle.reader.proofs.Chains.{parses_same, taken_by}
use Rattle.reader.proofs.Words.{words_refused, words_twice, words_stop, words_then, some_symbol, fewer, made_refused}
use Rattle.reader.proofs.reader.Reader.+more.Goals as goal

pub returns-in_err-a : goal.returns-in_err-a
returns-in_err-a t c g =
    let s = some_symbol c.next-item.result.symbol (search rules) in
    made_refused (more_words g c.args.values.now) _ _ g _ _ _ c.from_residual.ensures.1 (words_refused g c.args.values.now _ c.next-item.result _ c.next-item.ensures s.0 s.1 _ (taken_by axis c.next-item.result _ c.in_err-a.ensures))

pub returns-then-is_some : goal.returns-then-is_some
returns-then-is_some t c g =
    let s = some_symbol c.next-item.result.symbol (search rules) in
    words_twice g c.args.values.now _ c.next-item.result _ c.next-item.ensures s.0 s.1 c.in_ok-a.a (taken_by axis c.next-item.result _ c.in_ok-a.ensures) (sym (c.is_some.ensures ∙ ap is_some c.get.ensures) ∙ c.if-is_some.true)

pub returns-in_err-v : goal.returns-in_err-v
returns-in_err-v t c g =
    let s = some_symbol c.next-item.result.symbol (search rules) in
    made_refused (more_words g c.args.values.now) _ _ g _ _ _ c.from_residual-in_err-v.ensures.1 (words_stop g c.args.values.now _ c.next-item.result _ c.next-item.ensures s.0 s.1 c.in_ok-a.a (taken_by axis c.next-item.result _ c.in_ok-a.ensures) _ _ (sym (c.is_some.ensures ∙ ap is_some c.get.ensures) ∙ c.if-is_some.false) c.in_err-v.ensures)

pub more-requires : goal.more-requires
more-requires t c = omega (arith, c.decreases, ap count c.set.ensures, fewer c.args.values.now c.in_ok-a.a c.in_ok-v.v (sym (c.is_some.ensures ∙ ap is_some c.get.ensures) ∙ c.if-is_some.false))

pub returns : goal.returns
returns t c g =
    let s = some_symbol c.next-item.result.symbol (search rules) in
    words_then g c.args.values.now _ c.next-item.result _ c.next-item.ensures s.0 s.1 c.in_ok-a.a (taken_by axis c.next-item.result _ c.in_ok-a.ensures) c.in_ok-v.v _ _ _ (sym (c.is_some.ensures ∙ ap is_some c.get.ensures) ∙ c.if-is_some.false) c.in_ok-v.ensures
    (parses_same (more_words g) _ _ _ _ _ c.set.ensures (c.more.ensures g))
