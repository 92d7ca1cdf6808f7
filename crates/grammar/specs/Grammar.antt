-- The grammar of a line, on rows of symbols: which rows are lines, and which stored line each of them is.
use Rattle.std.specs.Prelude.{◌≡◌, ℕ, ◌≤◌, false, cond, List, [], ◌∷◌, ◌++◌, pos, neg_ℤ, ◌==◌}
use Rattle.model.specs.Limits.{limit}
use Rattle.model.specs.declared.expression.Parameter.{Parameter}
use Rattle.model.specs.declared.expression.Parameter.TheVariants.{P1, P2, P3, P4, P5, P6}
use Rattle.model.specs.declared.expression.Term.{Term}
use Rattle.model.specs.declared.expression.Term.TheVariants.{Number, Parameter as Held}
use Rattle.model.specs.declared.expression.Op.{Op}
use Rattle.model.specs.declared.expression.Op.TheVariants.{Add, Sub, Mul}
use Rattle.model.specs.declared.expression.Value.{Value}
use Rattle.model.specs.declared.expression.Value.TheVariants.{Term as OneTerm, Joined}
use Rattle.model.specs.declared.expression.Rel.{Rel}
use Rattle.model.specs.declared.expression.Condition.{Condition}
use Rattle.model.specs.declared.line.Axis.{Axis}
use Rattle.model.specs.declared.line.Line.{Line}
use Rattle.model.specs.declared.line.Line.TheVariants.{Plain, Setting, While as WhileLine, If as IfLine, EndIf as EndIfLine, EndWhile as EndWhileLine}
use Rattle.grammar.specs.declared.symbol.Keyword.TheVariants.{Hash, Open, Close, Plus, Minus, Star, Equals, G, O, While, If, EndIf, EndWhile}
use Rattle.grammar.specs.declared.symbol.Symbol.{Symbol}
use Rattle.grammar.specs.declared.symbol.Symbol.TheVariants.{Fixed, Digits, Letter, Relation}
use Rattle.grammar.specs.Axes.{AxisValues, has, put, no_values, motion_of, moved}

-- the parameters by their numbers, 1 to 6
abbrev pub parameter_of : ℕ → Parameter
parameter_of n = cond (n == 1) P1 (cond (n == 2) P2 (cond (n == 3) P3 (cond (n == 4) P4 (cond (n == 5) P5 P6))))

-- a value that is a term, and one that applies an operator to two terms
abbrev pub bare : Term → Value
bare t = OneTerm t

abbrev pub applied : Op → Term → Term → Value
applied o a b = Joined o a b

-- a term is digits with an optional sign, at most the greatest length, or # digits, 1 to 6
pub data TermIs : List Symbol → Term → Type 0 where
  number : (n : ℕ) → n ≤ limit → TermIs (Digits n ∷ []) (Number (pos n))
  plus : (n : ℕ) → n ≤ limit → TermIs (Fixed Plus ∷ Digits n ∷ []) (Number (pos n))
  minus : (n : ℕ) → n ≤ limit → TermIs (Fixed Minus ∷ Digits n ∷ []) (Number (neg_ℤ (pos n)))
  parameter : (n : ℕ) → 1 ≤ n → n ≤ 6 → TermIs (Fixed Hash ∷ Digits n ∷ []) (Held (parameter_of n))

pub data OpIs : Symbol → Op → Type 0 where
  add : OpIs (Fixed Plus) Add
  sub : OpIs (Fixed Minus) Sub
  mul : OpIs (Fixed Star) Mul

-- a value is a term or [ term op term ]
pub data ValueIs : List Symbol → Value → Type 0 where
  term : {ts : List Symbol} {t : Term} → TermIs ts t → ValueIs ts (bare t)
  op : {xs ys : List Symbol} {a b : Term} {c : Symbol} {o : Op} → TermIs xs a → OpIs c o → TermIs ys b → ValueIs (Fixed Open ∷ (xs ++ c ∷ (ys ++ Fixed Close ∷ []))) (applied o a b)

-- a condition is [ term relation term ]
pub data ConditionIs : List Symbol → Condition → Type 0 where
  condition : {xs ys : List Symbol} {a b : Term} (r : Rel) → TermIs xs a → TermIs ys b → ConditionIs (Fixed Open ∷ (xs ++ Relation r ∷ (ys ++ Fixed Close ∷ []))) (record { rel = r; left = a; right = b })

-- axis words, each an axis and a value, lead from the values so far to those at the end; no axis is named twice
pub data WordsAre : AxisValues → List Symbol → AxisValues → Type 0 where
  none : {m : AxisValues} → WordsAre m [] m
  word : {m n : AxisValues} {vs ts : List Symbol} {v : Value} (a : Axis) → has m a ≡ false → ValueIs vs v → WordsAre (put m a v) ts n → WordsAre m (Letter a ∷ (vs ++ ts)) n

pub data LineIs : List Symbol → Line → Type 0 where
  -- no symbol
  plain : LineIs [] Plain
  -- # digits = value
  setting : {vs : List Symbol} {v : Value} (n : ℕ) → 1 ≤ n → n ≤ 6 → ValueIs vs v → LineIs (Fixed Hash ∷ Digits n ∷ Fixed Equals ∷ vs) (Setting (parameter_of n) v)
  -- G digits, an axis word, and more of them
  move : {vs ts : List Symbol} {v : Value} {m : AxisValues} (g : ℕ) (a : Axis) → g ≤ 1 → ValueIs vs v → WordsAre (put no_values a v) ts m → LineIs (Fixed G ∷ Digits g ∷ Letter a ∷ (vs ++ ts)) (moved (motion_of g) m)
  -- O digits, and WHILE condition, IF condition, ENDIF or ENDWHILE
  while : {cs : List Symbol} {c : Condition} (n : ℕ) → 1 ≤ n → n ≤ 9999 → ConditionIs cs c → LineIs (Fixed O ∷ Digits n ∷ Fixed While ∷ cs) (WhileLine n c)
  if : {cs : List Symbol} {c : Condition} (n : ℕ) → 1 ≤ n → n ≤ 9999 → ConditionIs cs c → LineIs (Fixed O ∷ Digits n ∷ Fixed If ∷ cs) (IfLine n c)
  endif : (n : ℕ) → 1 ≤ n → n ≤ 9999 → LineIs (Fixed O ∷ Digits n ∷ Fixed EndIf ∷ []) (EndIfLine n)
  endwhile : (n : ℕ) → 1 ≤ n → n ≤ 9999 → LineIs (Fixed O ∷ Digits n ∷ Fixed EndWhile ∷ []) (EndWhileLine n)
