-- One method of the reader after another does what one parser after another reads.
use Rattle.std.proofs.Common.{◌≡◌, ℕ, true, false, cond, List, [], ◌∷◌, ◌++◌, length, Some, None, Ok, Err, Option, Result, IsErrAnd, sym, refl, ap, ◌∙◌, subst, append_assoc}
use Rattle.lexer.specs.declared.lexer.Lexer.{Lexer}
use Rattle.lexer.specs.Lexemes.{Lexeme}
use Rattle.model.specs.declared.line.Line.{Line}
use Rattle.grammar.specs.declared.symbol.Symbol.{Symbol}
use Rattle.grammar.specs.declared.symbol.Item.{Item}
use Rattle.grammar.specs.declared.refusal.Cause.TheVariants.{Unexpected, Twice}
use Rattle.grammar.specs.declared.refusal.Refusal.{Refusal}
use Rattle.grammar.specs.Axes.{names}
use Rattle.grammar.specs.declared.refusal.Cause.{Cause}
use Rattle.grammar.specs.Combinators.{Parsed, got, bad, Parser, after, bind, pure, tested, expect, ends, or_more}
use Rattle.grammar.specs.Symbols.{symbol_of, symbols}
use Rattle.grammar.specs.Answer.{front}
use Rattle.reader.specs.Parses.{ahead, Suffix, Placed, Agrees, Parses, Next, Takes, Taken, Expects}
use Rattle.grammar.specs.Tests.{tried, outcome}

trans : (xs ys zs : List Lexeme) → Suffix xs ys → Suffix ys zs → Suffix xs zs
trans xs ys zs (us, e) (vs, f) = (us ++ vs, e ∙ ap (λ l. us ++ l) f ∙ sym (append_assoc us vs zs))

-- what was said from a later token on is said from an earlier one on
earlier : {A : Type 0} (v : Parsed A) (end : ℕ) (xs ys to : List Lexeme) (r : Result A Refusal) → Suffix xs ys → Agrees v end ys r to → Agrees v end xs r to
earlier (got a rest) end xs ys to (Ok b) h s = s
earlier (got a rest) end xs ys to (Err e) h s = absurd s
earlier (bad k rest) end xs ys to (Ok b) h s = absurd s
earlier (bad k rest) end xs ys to (Err e) h s = (s.0, (s.1.0, trans xs ys s.1.0 h s.1.1, s.1.2, s.1.3))

agrees_then : {A B : Type 0} (v : Parsed A) (q : A → Parser B) (end : ℕ) (xs ys zs : List Lexeme) (x : A) (r : Result B Refusal) → Suffix xs ys → Agrees v end xs (Ok x) ys → Agrees (q x (symbols ys)) end ys r zs → Agrees (after v q) end xs r zs
agrees_then (got y rest) q end xs ys zs x r h s t = earlier (q y rest) end xs ys zs r h (subst (λ z. Agrees (q z rest) end ys r zs) s.0 (subst (λ z. Agrees (q x z) end ys r zs) s.1 t))
agrees_then (bad k rest) q end xs ys zs x r h s t = absurd s

agrees_stop : {A B : Type 0} (v : Parsed A) (q : A → Parser B) (end : ℕ) (xs ys zs : List Lexeme) (e : Refusal) → Agrees v end xs (Err e) ys → Agrees {A = B} (after v q) end xs (Err e) zs
agrees_stop (got y rest) q end xs ys zs e s = absurd s
agrees_stop (bad k rest) q end xs ys zs e s = s

module _ {A B : Type 0} (p : Parser A) (q : A → Parser B) (a b : Lexer) where
  pub parses_then : (c : Lexer) (x : A) (r : Result B Refusal) → Parses p a (Ok x) b → Parses (q x) b r c → Parses (bind p q) a r c
  parses_then c x r d f = record {
    same = f.same ∙ d.same;
    past = trans _ _ _ d.past f.past;
    says = agrees_then (p (symbols (ahead a))) q (length a.text.now) (ahead a) (ahead b) (ahead c) x r d.past d.says (subst (λ n. Agrees (q x (symbols (ahead b))) n (ahead b) r (ahead c)) (ap (λ t. length t.now) d.same) f.says);
  }

  pub parses_stop : (e : Refusal) → Parses p a (Err e) b → Parses (bind p q) a (Err e) b
  parses_stop e d = record { same = d.same; past = d.past; says = agrees_stop (p (symbols (ahead a))) q _ (ahead a) (ahead b) (ahead b) e d.says }

-- a refusal that `?` hands on
pub parses_refused : {A : Type 0} (p : Parser A) (a b : Lexer) (r : Result A Refusal) (e : Refusal) → IsErrAnd r (λ x. x ≡ e) → Parses p a (Err e) b → Parses p a r b
parses_refused p a b (Ok x) e h d = absurd h
parses_refused p a b (Err x) e h d = subst (λ y. Parses p a (Err y) b) (sym h) d

pub parses_pure : {A : Type 0} (a : Lexer) (x : A) → Parses (pure x) a (Ok x) a
parses_pure a x = record { same = refl; past = ([], refl); says = (refl, refl) }

-- the same, where the parser goes by a case that is known
pub parses_by : {K A : Type 0} (p : K → Parser A) (a b : Lexer) (r : Result A Refusal) (k l : K) → k ≡ l → Parses (p l) a r b → Parses (p k) a r b
parses_by p a b r k l e d = subst (λ x. Parses (p x) a r b) (sym e) d

pub parses_same : {K A : Type 0} (p : K → Parser A) (a b : Lexer) (r : Result A Refusal) (k l : K) → k ≡ l → Parses (p k) a r b → Parses (p l) a r b
parses_same p a b r k l e d = subst (λ x. Parses (p x) a r b) e d

-- ---- one token
takes_past : (from to : List Lexeme) (end place : ℕ) (s : Option Symbol) → Next from end place s to → Suffix from to
takes_past from to end place None n = ([], n.0 ∙ sym n.1)
takes_past from to end place (Some s) n = (n.0 ∷ [], n.1)

-- refused at the token that was taken
refused_here : (from to : List Lexeme) (end place : ℕ) (t : Lexeme) → from ≡ t ∷ to → place ≡ t.place → Placed from end (symbols from) place
refused_here from to end place t e p = (from, ([], refl), refl, p ∙ ap (λ l. front l end) (sym e))

refused_end : (from : List Lexeme) (end place : ℕ) → from ≡ [] → place ≡ end → Placed from end (symbols from) place
refused_end from end place e p = (from, ([], refl), refl, p ∙ ap (λ l. front l end) (sym e))

tested_agrees : {A : Type 0} (v : Result A Cause) (from to : List Lexeme) (end place : ℕ) (t : Lexeme) → from ≡ t ∷ to → place ≡ t.place → Agrees (tested v (symbol_of t.bytes) (symbols to)) end from (outcome (v) place) to
tested_agrees (Ok a) from to end place t e p = (refl, refl)
tested_agrees (Err c) from to end place t e p = (refl, subst (λ r. Placed from end r place) (ap symbols e) (refused_here from to end place t e p))

leaf : {A : Type 0} (f : Symbol → Result A Cause) (from to : List Lexeme) (end place : ℕ) (s : Option Symbol) → Next from end place s to → Agrees (expect f (symbols from)) end from (outcome (tried f s) place) to
leaf f from to end place None n = subst (λ l. Agrees (expect f l) end from (outcome (tried f None) place) to) (sym (ap symbols n.0)) (refl, subst (λ r. Placed from end r place) (ap symbols n.0) (refused_end from end place n.0 n.2))
leaf f from to end place (Some s) (t, e, p, se) =
    subst (λ x. Agrees (expect f (symbols from)) end from (outcome ((f x)) place) to) (sym se)
    (subst (λ l. Agrees (expect f l) end from (outcome (f (symbol_of t.bytes)) place) to) (sym (ap symbols e)) (tested_agrees (f (symbol_of t.bytes)) from to end place t e p))

pub parses_leaf : {A : Type 0} (f : Symbol → Result A Cause) (a : Lexer) (i : Item) (b : Lexer) (r : Result A Refusal) → Takes a i b → r ≡ outcome (tried f i.symbol) i.place → Parses (expect f) a r b
parses_leaf f a i b r t e = record {
  same = t.same;
  past = takes_past _ _ _ _ i.symbol t.next;
  says = subst (λ x. Agrees (expect f (symbols (ahead a))) (length a.text.now) (ahead a) x (ahead b)) (sym e) (leaf f (ahead a) (ahead b) _ i.place i.symbol t.next);
}

-- an item that a function has tested, by what the function says
pub taken_by : {A : Type 0} (f : Symbol → Result A Cause) (i : Item) (r : Result A Refusal) → Taken (λ s t. Option Symbol × (t ≡ tried f s)) i r → r ≡ outcome (tried f i.symbol) i.place
taken_by f i r x = x.is ∙ ap (λ t. outcome t i.place) x.gives.1

pub parses_expected : {A : Type 0} (f : Symbol → Result A Cause) (a : Lexer) (r : Result A Refusal) (b : Lexer) → Expects (λ s t. Option Symbol × (t ≡ tried f s)) a r b → Parses (expect f) a r b
parses_expected f a r b x = parses_leaf f a x.item b r x.takes (taken_by f x.item r x.taken)

-- ---- the end of a line, or more
pub parses_last : (l : Line) (a : Lexer) (i : Item) (b : Lexer) → Takes a i b → i.symbol ≡ None → Parses (ends l) a (Ok l) b
parses_last l a i b t e =
    let n = subst (λ s. Next (ahead a) (length a.text.now) i.place s (ahead b)) e t.next in
    record {
      same = t.same;
      past = ([], n.0 ∙ sym n.1);
      says = subst (λ ts. Agrees (ends l ts) (length a.text.now) (ahead a) (Ok l) (ahead b)) (sym (ap symbols n.0)) (refl, ap symbols n.1);
    }

pub parses_beyond : (l : Line) (a : Lexer) (i : Item) (b : Lexer) (s : Symbol) → Takes a i b → i.symbol ≡ Some s → Parses (ends l) a (Err (record { cause = Unexpected; place = i.place })) b
parses_beyond l a i b s t e =
    let n = subst (λ s. Next (ahead a) (length a.text.now) i.place s (ahead b)) e t.next in
    record {
      same = t.same;
      past = (n.0 ∷ [], n.1);
      says = subst (λ ts. Agrees (ends l ts) (length a.text.now) (ahead a) (Err (record { cause = Unexpected; place = i.place })) (ahead b)) (sym (ap symbols n.1))
          (refl, subst (λ r. Placed (ahead a) (length a.text.now) r i.place) (ap symbols n.1) (refused_here (ahead a) (ahead b) _ i.place n.0 n.1 n.2));
    }

module _ {A : Type 0} (l : Line) (f : Symbol → Result A Cause) (q : A → Parser Line) (a : Lexer) (i : Item) (b : Lexer) (t : Takes a i b) where
  pub parses_again : (s : Symbol) → i.symbol ≡ Some s → names l s ≡ true → Parses (or_more l f q) a (Err (record { cause = Twice; place = i.place })) b
  parses_again s e h =
      let n = subst (λ s. Next (ahead a) (length a.text.now) i.place s (ahead b)) e t.next in
      let is : or_more l f q (symbols (ahead a)) ≡ bad Twice (symbols (ahead a)) =
      ap (λ ts. or_more l f q ts) (ap symbols n.1) ∙ ap (λ c. cond c (bad Twice (symbols (n.0 ∷ ahead b))) (after (tested (f (symbol_of n.0.bytes)) (symbol_of n.0.bytes) (symbols (ahead b))) q)) (ap (names l) (sym n.3) ∙ h) ∙ ap (λ ts. bad Twice ts) (sym (ap symbols n.1)) in
      record {
        same = t.same;
        past = (n.0 ∷ [], n.1);
        says = subst (λ v. Agrees v (length a.text.now) (ahead a) (Err (record { cause = Twice; place = i.place })) (ahead b)) (sym is) (refl, refused_here (ahead a) (ahead b) _ i.place n.0 n.1 n.2);
      }

  -- a token that is not named is read as one that is expected
  pub parses_more : (s : Symbol) (r : Result Line Refusal) (c : Lexer) → i.symbol ≡ Some s → names l s ≡ false → Parses (bind (expect f) q) a r c → Parses (or_more l f q) a r c
  parses_more s r c e h d =
      let n = subst (λ s. Next (ahead a) (length a.text.now) i.place s (ahead b)) e t.next in
      let is : or_more l f q (symbols (ahead a)) ≡ bind (expect f) q (symbols (ahead a)) =
      ap (λ ts. or_more l f q ts) (ap symbols n.1) ∙ ap (λ c. cond c (bad Twice (symbols (n.0 ∷ ahead b))) (after (tested (f (symbol_of n.0.bytes)) (symbol_of n.0.bytes) (symbols (ahead b))) q)) (ap (names l) (sym n.3) ∙ h) ∙ ap (λ ts. bind (expect f) q ts) (sym (ap symbols n.1)) in
      record { same = d.same; past = d.past; says = subst (λ v. Agrees v (length a.text.now) (ahead a) r (ahead c)) (sym is) d.says }
