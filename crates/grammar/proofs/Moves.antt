-- The parser of axis words reads axis words, each axis at most once.
use Rattle.std.proofs.Common.{is_some, ◌≡◌, ℕ, zero, suc, ◌+◌, ◌-◌, ◌≤◌, Bool, true, false, List, [], ◌∷◌, ◌++◌, sym, refl, ap, ◌∙◌, subst, inl, inr, arith, Ok}
use Rattle.model.specs.declared.expression.Value.{Value}
use Rattle.model.specs.declared.line.Axis.{Axis}
use Rattle.model.specs.declared.line.Motion.{Motion}
use Rattle.model.specs.declared.line.Axis.TheVariants.{X, Y, Z, U}
use Rattle.model.specs.declared.line.Line.{Line}
use Rattle.grammar.specs.declared.symbol.Symbol.{Symbol}
use Rattle.grammar.specs.declared.symbol.Symbol.TheVariants.{Digits, Letter}
use Rattle.grammar.specs.Prefixes.{Lang}
use Rattle.grammar.specs.Axes.{AxisValues, has, put, no_values, has_symbol, tally, count, motion_of, moved}
use Rattle.grammar.specs.Grammar.{ValueIs, WordsAre}
use Rattle.grammar.specs.Grammar as is
use Rattle.grammar.proofs.Reading.{bindL, oneL, or_moreL, Lines}
use Rattle.grammar.specs.Tests.{axis, digits}
use Rattle.grammar.specs.Parser.{more, move}
use Rattle.grammar.proofs.Binds.{lines_bind}
use Rattle.grammar.proofs.Ones.{reads_one}
use Rattle.grammar.proofs.Mores.{lines_more}
use Rattle.grammar.proofs.Meets.{err_ok, upto_in, axis_wrong, axis_lawful, axis_is, digits_is}
use Rattle.grammar.proofs.Terms.{reads_digits}
use Rattle.grammar.proofs.Values.{reads_value}

-- ---- how many axes have a value
pub tally_le : (b : Bool) → tally b ≤ 1
tally_le true = omega arith
tally_le false = omega arith

pub tally_one : (b : Bool) → b ≡ false → tally b ≡ 0
tally_one b e = ap tally e

-- with four there is no other
pub full : {P : Type 0} (m : AxisValues) (a : Axis) → count m ≡ 4 → has m a ≡ false → P
full m X c h = absurd (omega (arith, tally_one (is_some m.x) h, tally_le (is_some m.y), tally_le (is_some m.z), tally_le (is_some m.u)))
full m Y c h = absurd (omega (arith, tally_one (is_some m.y) h, tally_le (is_some m.x), tally_le (is_some m.z), tally_le (is_some m.u)))
full m Z c h = absurd (omega (arith, tally_one (is_some m.z) h, tally_le (is_some m.x), tally_le (is_some m.y), tally_le (is_some m.u)))
full m U c h = absurd (omega (arith, tally_one (is_some m.u) h, tally_le (is_some m.x), tally_le (is_some m.y), tally_le (is_some m.z)))

pub one_more : (m : AxisValues) (a : Axis) (v : Value) (n : ℕ) → has m a ≡ false → suc n + count m ≡ 4 → n + count (put m a v) ≡ 4
one_more m X v n h c = omega (arith, tally_one (is_some m.x) h)
one_more m Y v n h c = omega (arith, tally_one (is_some m.y) h)
one_more m Z v n h c = omega (arith, tally_one (is_some m.z) h)
one_more m U v n h c = omega (arith, tally_one (is_some m.u) h)

none_yet : (a : Axis) → has no_values a ≡ false
none_yet X = refl
none_yet Y = refl
none_yet Z = refl
none_yet U = refl

-- ---- the language that the parser goes by
abbrev moreL : ℕ → Motion → AxisValues → Lang Line
moreL zero g m = or_moreL (moved g m) axis (λ a ts b. ⊥)
moreL (suc n) g m = or_moreL (moved g m) axis (λ a. bindL ValueIs (λ v. moreL n g (put m a v)))

pub free : (m : AxisValues) (t : Symbol) (a : Axis) → has_symbol m t ≡ false → axis t ≡ Ok a → has m a ≡ false
free m t a n h = ap (has_symbol m) (sym (axis_is t a h)) ∙ n

more_lines : (n : ℕ) (g : Motion) (m : AxisValues) → n + count m ≡ 4 → Lines (moreL n g m) (more n g m)
more_lines zero g m c = lines_more (moved g m) axis _ _ (λ t a n h. full m a (omega arith) (free m t a n h)) (λ t c e. axis_wrong t c e) (λ n a e. err_ok e)
more_lines (suc k) g m c = lines_more (moved g m) axis _ _ (λ t a n h. lines_bind _ _ _ _ reads_value (λ v. more_lines k g (put m a v) (one_more m a v k (free m t a n h) c))) (λ t c e. axis_wrong t c e) (λ n a e. err_ok e)

-- ---- and the grammar's axis words
more_to : (n : ℕ) (g : Motion) (m : AxisValues) (ts : List Symbol) (b : Line) → moreL n g m ts b → (k : AxisValues) × WordsAre m ts k × (moved g k ≡ b)
more_to zero g m ts b (inl e) = (m, subst (λ l. WordsAre m l m) (sym e.0) is.none, e.1)
more_to zero g m ts b (inr (t, vs, a, e, n, h, y)) = absurd y
more_to (suc k) g m ts b (inl e) = (m, subst (λ l. WordsAre m l m) (sym e.0) is.none, e.1)
more_to (suc k) g m ts b (inr (t, vs, a, e, n, h, (us, ws, v, e2, tv, y))) =
    let r = more_to k g (put m a v) ws b y in
    let row : ts ≡ Letter a ∷ (us ++ ws) = e ∙ (λ i. axis_is t a h i ∷ e2 i) in
    (r.0, subst (λ l. WordsAre m l r.0) (sym row) (is.word a (free m t a n h) tv r.1), r.2)

more_from : (n : ℕ) (g : Motion) (m k : AxisValues) (ts : List Symbol) → n + count m ≡ 4 → WordsAre m ts k → moreL n g m ts (moved g k)
more_from zero g m k ts c (is.none) = inl (refl, refl)
more_from (suc n) g m k ts c (is.none) = inl (refl, refl)
more_from zero g m k ts c (is.word a h tv w) = full m a (omega arith) h
more_from (suc n) g m k ts c (is.word {vs = vs} {ts = us} {v = v} a h tv w) =
    inr (Letter a, vs ++ us, a, refl, h, refl, (vs, us, v, refl, tv, more_from n g (put m a v) k us (one_more m a v n h c) w))

-- ---- moves, after the G
abbrev pub moveL : Lang Line
moveL = bindL (oneL (digits 0 1)) (λ g. bindL (oneL axis) (λ a. bindL ValueIs (λ v. moreL (4 - count (put no_values a v)) (motion_of g) (put no_values a v))))

three : (a : Axis) (v : Value) → (4 - count (put no_values a v)) + count (put no_values a v) ≡ 4
three a v = omega (arith, one_more no_values a v 3 (none_yet a) refl)

pub move_lines : Lines moveL move
move_lines = lines_bind _ _ _ _ (reads_digits 0 1 (omega arith)) (λ g. lines_bind _ _ _ _ (reads_one axis axis_lawful) (λ a. lines_bind _ _ _ _ reads_value (λ v. more_lines (4 - count (put no_values a v)) (motion_of g) (put no_values a v) (three a v))))

-- what a move is, after the G
abbrev pub MoveIs : List Symbol → Line → Type 0
MoveIs vs b = (us : List Symbol) × (ws : List Symbol) × (v : Value) × (m : AxisValues) × (g : ℕ) × (a : Axis) × (vs ≡ Digits g ∷ Letter a ∷ (us ++ ws)) × (g ≤ 1) × ValueIs us v × WordsAre (put no_values a v) ws m × (moved (motion_of g) m ≡ b)

pub move_to : (vs : List Symbol) (b : Line) → moveL vs b → MoveIs vs b
move_to vs b (us1, ws1, g, e1, (t1, f1, h1), (us2, ws2, a, e2, (t2, f2, h2), (us3, ws3, v, e3, tv, y))) =
    let d = digits_is 0 1 t1 g h1 in
    let r = more_to (4 - count (put no_values a v)) (motion_of g) (put no_values a v) ws3 b y in
    let row2 : ws1 ≡ Letter a ∷ (us3 ++ ws3) = e2 ∙ (λ i. f2 i ++ e3 i) ∙ ap (λ c. c ∷ (us3 ++ ws3)) (axis_is t2 a h2) in
    let row1 : vs ≡ Digits g ∷ Letter a ∷ (us3 ++ ws3) = e1 ∙ (λ i. f1 i ++ row2 i) ∙ ap (λ c. c ∷ Letter a ∷ (us3 ++ ws3)) d.0 in
    (us3, ws3, v, r.0, g, a, row1, d.2, tv, r.1, r.2)

pub move_from : (vs ts : List Symbol) (v : Value) (m : AxisValues) (g : ℕ) (a : Axis) → g ≤ 1 → ValueIs vs v → WordsAre (put no_values a v) ts m → moveL (Digits g ∷ Letter a ∷ (vs ++ ts)) (moved (motion_of g) m)
move_from vs ts v m g a h tv w =
    (Digits g ∷ [], Letter a ∷ (vs ++ ts), g, refl, (Digits g, refl, upto_in 0 1 g (λ n. n) (omega arith) h), (Letter a ∷ [], vs ++ ts, a, refl, (Letter a, refl, refl), (vs, ts, v, refl, tv, more_from (4 - count (put no_values a v)) (motion_of g) (put no_values a v) m ts (three a v) w)))
