-- The reader's axis words: what one turn does.
use Rattle.std.proofs.Common.{◌≡◌, ℕ, zero, suc, ◌-◌, ◌<◌, true, false, Some, None, Option, is_some, true≢false, Ok, Err, Result, IsErrAnd, sym, refl, ap, ◌∙◌, subst, arith}
use Rattle.lexer.specs.declared.lexer.Lexer.{Lexer}
use Rattle.model.specs.declared.expression.Value.{Value}
use Rattle.model.specs.declared.line.Axis.{Axis}
use Rattle.model.specs.declared.line.Motion.{Motion}
use Rattle.model.specs.declared.line.Axis.TheVariants.{X, Y, Z, U}
use Rattle.model.specs.declared.line.Line.{Line}
use Rattle.grammar.specs.declared.symbol.Symbol.{Symbol}
use Rattle.grammar.specs.declared.symbol.Symbol.TheVariants.{Fixed, Digits, Long, Letter, Relation, Unknown}
use Rattle.grammar.specs.declared.symbol.Item.{Item}
use Rattle.grammar.specs.declared.refusal.Refusal.{Refusal}
use Rattle.grammar.specs.declared.refusal.Cause.TheVariants.{Unexpected, Twice}
use Rattle.grammar.specs.Axes.{AxisValues, has, put, has_symbol, count, moved}
use Rattle.grammar.specs.Combinators.{Parser, bad, bind, expect, or_more}
use Rattle.grammar.specs.Tests.{axis, tried, outcome}
use Rattle.grammar.specs.Parser.{value, more, more_words}
use Rattle.reader.specs.Parses.{Parses, Takes, made}
use Rattle.reader.proofs.Chains.{parses_then, parses_stop, parses_leaf, parses_again, parses_more}
use Rattle.grammar.proofs.Moves.{tally_le, tally_one}

-- ---- how many axes are ahead
pub room : (m : AxisValues) (a : Axis) → has m a ≡ false → count m < 4
room m X h = omega (arith, tally_one (is_some m.x) h, tally_le (is_some m.y), tally_le (is_some m.z), tally_le (is_some m.u))
room m Y h = omega (arith, tally_one (is_some m.y) h, tally_le (is_some m.x), tally_le (is_some m.z), tally_le (is_some m.u))
room m Z h = omega (arith, tally_one (is_some m.z) h, tally_le (is_some m.x), tally_le (is_some m.y), tally_le (is_some m.u))
room m U h = omega (arith, tally_one (is_some m.u) h, tally_le (is_some m.x), tally_le (is_some m.y), tally_le (is_some m.z))

pub one_less : (m : AxisValues) (a : Axis) (v : Value) → has m a ≡ false → count (put m a v) ≡ suc (count m)
one_less m X v h = omega (arith, tally_one (is_some m.x) h)
one_less m Y v h = omega (arith, tally_one (is_some m.y) h)
one_less m Z v h = omega (arith, tally_one (is_some m.z) h)
one_less m U v h = omega (arith, tally_one (is_some m.u) h)

pub fewer : (m : AxisValues) (a : Axis) (v : Value) → has m a ≡ false → 4 - count (put m a v) < 4 - count m
fewer m a v h = omega (arith, room m a h, one_less m a v h)

-- ---- after an axis
goes : ℕ → Motion → AxisValues → Axis → Parser Line
goes zero g m a = λ ts. bad Unexpected ts
goes (suc n) g m a = bind value (λ v. more n g (put m a v))

more_is : (n : ℕ) (g : Motion) (m : AxisValues) → more n g m ≡ or_more (moved g m) axis (goes n g m)
unfolding goes
more_is zero g m = refl
more_is (suc n) g m = refl

goes_stop : (n : ℕ) (g : Motion) (m : AxisValues) (x : Axis) (b c : Lexer) (e : Refusal) → n ≡ 4 - count m → has m x ≡ false → Parses value b (Err e) c → Parses (goes n g m x) b (Err e) c
unfolding goes
goes_stop zero g m x b c e i h d = absurd (omega (arith, room m x h))
goes_stop (suc k) g m x b c e i h d = parses_stop value (λ v. more k g (put m x v)) b c e d

goes_then : (n : ℕ) (g : Motion) (m : AxisValues) (x : Axis) (b c d : Lexer) (v : Value) (r : Result Line Refusal) → n ≡ 4 - count m → has m x ≡ false → Parses value b (Ok v) c → Parses (more_words g (put m x v)) c r d → Parses (goes n g m x) b r d
unfolding goes
goes_then zero g m x b c d v r i h dv dm = absurd (omega (arith, room m x h))
goes_then (suc k) g m x b c d v r i h dv dm =
    parses_then value (λ v. more k g (put m x v)) b c d v r dv (subst (λ j. Parses (more j g (put m x v)) c r d) (omega (arith, room m x h, one_less m x v h)) dm)

-- ---- what the first token is
axis_read : (t : Symbol) (p : ℕ) (x : Axis) → Ok x ≡ outcome ((axis t)) p → t ≡ Letter x
axis_read (Fixed w) p x e = absurd (let z : ◌≡◌ {A = ℕ} 0 1 = cc in omega arith)
axis_read (Digits n) p x e = absurd (let z : ◌≡◌ {A = ℕ} 0 1 = cc in omega arith)
axis_read Long p x e = absurd (let z : ◌≡◌ {A = ℕ} 0 1 = cc in omega arith)
axis_read (Letter a) p x e = let s : a ≡ x = cc in ap Letter s
axis_read (Relation r) p x e = absurd (let z : ◌≡◌ {A = ℕ} 0 1 = cc in omega arith)
axis_read Unknown p x e = absurd (let z : ◌≡◌ {A = ℕ} 0 1 = cc in omega arith)

axis_not : (t : Symbol) (p : ℕ) (f : Refusal) (m : AxisValues) → Err f ≡ outcome ((axis t)) p → has_symbol m t ≡ false
axis_not (Fixed w) p f m e = refl
axis_not (Digits n) p f m e = refl
axis_not Long p f m e = refl
axis_not (Letter a) p f m e = absurd (let z : ◌≡◌ {A = ℕ} 0 1 = cc in omega arith)
axis_not (Relation r) p f m e = refl
axis_not Unknown p f m e = refl

-- a symbol was taken
pub some_symbol : (o : Option Symbol) → is_some o ≡ true → (s : Symbol) × (o ≡ Some s)
some_symbol None e = absurd (true≢false (sym e))
some_symbol (Some s) e = (s, refl)

module _ (g : Motion) (m : AxisValues) (a : Lexer) (i : Item) (b : Lexer) (t : Takes a i b) (s : Symbol) (e : i.symbol ≡ Some s) where
  -- what an axis is expected to be, at the symbol
  at : (r : Result Axis Refusal) → r ≡ outcome (tried axis i.symbol) i.place → r ≡ outcome (axis s) i.place
  at r h = h ∙ ap (λ o. outcome (tried axis o) i.place) e

  pub words_refused : (f : Refusal) → Err f ≡ outcome (tried axis i.symbol) i.place → Parses (more_words g m) a (Err f) b
  words_refused f h =
      subst (λ p. Parses p a (Err f) b) (sym (more_is (4 - count m) g m))
      (parses_more (moved g m) axis (goes (4 - count m) g m) a i b t s (Err f) b e (axis_not s i.place f m (at _ h))
      (parses_stop (expect axis) (goes (4 - count m) g m) a b f (parses_leaf axis a i b (Err f) t h)))

  module _ (x : Axis) (h : Ok x ≡ outcome (tried axis i.symbol) i.place) where
    pub words_twice : has m x ≡ true → Parses (more_words g m) a (Err (record { cause = Twice; place = i.place })) b
    words_twice k =
        subst (λ p. Parses p a (Err (record { cause = Twice; place = i.place })) b) (sym (more_is (4 - count m) g m))
        (parses_again (moved g m) axis (goes (4 - count m) g m) a i b t s e (ap (has_symbol m) (axis_read s i.place x (at _ h)) ∙ k))

    on : (r : Result Line Refusal) (d : Lexer) → has m x ≡ false → Parses (goes (4 - count m) g m x) b r d → Parses (more_words g m) a r d
    on r d k dg =
        subst (λ p. Parses p a r d) (sym (more_is (4 - count m) g m))
        (parses_more (moved g m) axis (goes (4 - count m) g m) a i b t s r d e (ap (has_symbol m) (axis_read s i.place x (at _ h)) ∙ k)
        (parses_then (expect axis) (goes (4 - count m) g m) a b d x r (parses_leaf axis a i b (Ok x) t h) dg))

    pub words_stop : (f : Refusal) (d : Lexer) → has m x ≡ false → Parses value b (Err f) d → Parses (more_words g m) a (Err f) d
    words_stop f d k dv = on (Err f) d k (goes_stop (4 - count m) g m x b d f refl k dv)

    pub words_then : (v : Value) (r : Result Line Refusal) (c d : Lexer) → has m x ≡ false → Parses value b (Ok v) c → Parses (more_words g (put m x v)) c r d → Parses (more_words g m) a r d
    words_then v r c d k dv dm = on r d k (goes_then (4 - count m) g m x b c d v r refl k dv dm)

-- ---- a move from its words
pub made_refused : (p : Parser Line) (a b : Lexer) (g : Motion) (m : AxisValues) (r : Result (Unit {0}) Refusal) (e : Refusal) → IsErrAnd r (λ x. x ≡ e) → Parses p a (Err e) b → Parses p a (made g m r) b
made_refused p a b g m (Ok u) e h d = absurd h
made_refused p a b g m (Err x) e h d = subst (λ y. Parses p a (Err y) b) (sym h) d
