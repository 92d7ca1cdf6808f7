-- The rest of a program from some line on, with the blocks that are open there.
use Rattle.std.proofs.Common.{◌≡◌, ℕ, suc, ◌+◌, ◌⊎◌, List, [], ◌∷◌, length, Some, sym, refl, ap, ◌∙◌, subst, inl, inr, arith}
use Rattle.std.specs.List.{AllByRecursion}
use Rattle.model.specs.declared.expression.Condition.{Condition}
use Rattle.model.specs.declared.block.BlockKind.{BlockKind}
use Rattle.model.specs.declared.block.BlockKind.TheVariants.{If as IfBlock}
use Rattle.model.specs.declared.line.Line.{Line}
use Rattle.model.specs.declared.line.Line.TheVariants.{If, EndIf}
use Rattle.model.specs.Written.{WrittenLine}
use Rattle.model.specs.Programs.{Stands, opening, Once, Leads, Closed}
use Rattle.model.specs.Blocks.{Stack, role_of, labels}
use Rattle.model.proofs.Labels.{Among, opens_among}
use Rattle.model.proofs.Standing.{stands_later, once_rest}
use Rattle.sweep.specs.Blocks.{blocks}
use Rattle.sweep.specs.Exact.{NoWhile}
use Rattle.sweep.proofs.Places.{place_one}

-- a label of an open block
abbrev pub OpenLabel : ℕ → Stack → Type 0
OpenLabel l [] = ⊥
OpenLabel l (b ∷ bs) = (b.1 ≡ l) ⊎ OpenLabel l bs

-- no line to come opens a block that is open
abbrev pub Fresh : Stack → List Line → Type 0
Fresh os xs = (o k : ℕ) (x : Line) → OpenLabel o os → Stands xs k x → opening (role_of x) ≡ Some o → ⊥

-- xs are the lines from i on, and os the open blocks there
pub record Part (lines : List Line) (os : Stack) (xs : List Line) (i : ℕ) : Type 0 where
  pub nested : Leads os xs []
  pub forward : AllByRecursion NoWhile xs
  pub written : AllByRecursion WrittenLine xs
  pub once : Once xs
  pub fresh : Fresh os xs
  pub known : (o : ℕ) → OpenLabel o os → Among o (labels lines)
  pub stands : (k : ℕ) (x : Line) → Stands xs k x → Stands lines (i + k) x
  pub long : i + length xs ≡ length lines

module _ (lines : List Line) where
  pub whole : Closed lines → AllByRecursion WrittenLine lines → AllByRecursion NoWhile lines → Part lines [] lines 0
  whole c v f = record {
    nested = c.nested;
    forward = f;
    written = v;
    once = c.once;
    fresh = λ o k x h st p. h;
    known = λ o h. absurd h;
    stands = λ k x st. let q : k ≡ 0 + k = omega arith in subst (λ (j : ℕ). Stands lines j x) q st;
    long = omega arith;
  }

  pub first_stands : (os : Stack) (x : Line) (xs : List Line) (i : ℕ) → Part lines os (x ∷ xs) i → Stands lines i x
  first_stands os x xs i p = let q : i + 0 ≡ i = omega arith in subst (λ (j : ℕ). Stands lines j x) q (p.stands 0 x (record { inner = omega arith; is = refl }))

  later_stands : (y : Line) (xs : List Line) (i : ℕ) → ((k : ℕ) (x : Line) → Stands (y ∷ xs) k x → Stands lines (i + k) x) → (k : ℕ) (x : Line) → Stands xs k x → Stands lines (suc i + k) x
  later_stands y xs i h k x st = let q : i + suc k ≡ suc i + k = omega arith in subst (λ (j : ℕ). Stands lines j x) q (h (suc k) x (stands_later st))

  -- past a line that neither opens nor ends a block
  pub next_part : (os : Stack) (y : Line) (xs : List Line) (i : ℕ) → Leads os xs [] → Part lines os (y ∷ xs) i → Part lines os xs (suc i)
  next_part os y xs i n p = record {
    nested = n;
    forward = p.forward.1;
    written = p.written.1;
    once = once_rest y xs p.once;
    fresh = λ o k x h st. p.fresh o (suc k) x h (stands_later st);
    known = p.known;
    stands = later_stands y xs i p.stands;
    long = let q = p.long in omega arith;
  }

  push_fresh : (os : Stack) (m : ℕ) (c : Condition) (xs : List Line) → Once (If m c ∷ xs) → Fresh os (If m c ∷ xs) → Fresh ((IfBlock, m) ∷ os) xs
  push_fresh os m c xs one f o k x (inl e) st p = let q = one 0 (suc k) m (If m c) x (record { inner = omega arith; is = refl }) (stands_later st) refl (p ∙ ap Some (sym e)) in omega arith
  push_fresh os m c xs one f o k x (inr h) st p = f o (suc k) x h (stands_later st) p

  push_known : (os : Stack) (m : ℕ) → Among m (labels lines) → ((o : ℕ) → OpenLabel o os → Among o (labels lines)) → (o : ℕ) → OpenLabel o ((IfBlock, m) ∷ os) → Among o (labels lines)
  push_known os m a h o (inl e) = subst (λ (n : ℕ). Among n (labels lines)) e a
  push_known os m a h o (inr k) = h o k

  -- past an IF
  pub push_part : (os : Stack) (m : ℕ) (c : Condition) (xs : List Line) (i : ℕ) → Part lines os (If m c ∷ xs) i → Part lines ((IfBlock, m) ∷ os) xs (suc i)
  push_part os m c xs i p = record {
    nested = p.nested.1;
    forward = p.forward.1;
    written = p.written.1;
    once = once_rest (If m c) xs p.once;
    fresh = push_fresh os m c xs p.once p.fresh;
    known = push_known os m (opens_among lines i m (If m c) (first_stands os (If m c) xs i p) refl) p.known;
    stands = later_stands (If m c) xs i p.stands;
    long = let q = p.long in omega arith;
  }

  -- past an ENDIF
  pub pop_part : (b : BlockKind × ℕ) (os : Stack) (m : ℕ) (xs : List Line) (i : ℕ) → Part lines (b ∷ os) (EndIf m ∷ xs) i → Part lines os xs (suc i)
  pop_part b os m xs i p = record {
    nested = p.nested.1;
    forward = p.forward.1;
    written = p.written.1;
    once = once_rest (EndIf m) xs p.once;
    fresh = λ o k x h st. p.fresh o (suc k) x (inr h) (stands_later st);
    known = λ o h. p.known o (inr h);
    stands = later_stands (EndIf m) xs i p.stands;
    long = let q = p.long in omega arith;
  }

  -- an open block's number is not that of the IF ahead
  pub other_place : (os : Stack) (m o : ℕ) (c : Condition) (xs : List Line) (i : ℕ) → Part lines os (If m c ∷ xs) i → OpenLabel o os → (blocks lines).place o ≡ (blocks lines).place m → ⊥
  other_place os m o c xs i p h e =
      let a = opens_among lines i m (If m c) (first_stands os (If m c) xs i p) refl in
      let q = place_one lines o m (p.known o h) a e in
      p.fresh o 0 (If m c) h (record { inner = omega arith; is = refl }) (ap Some (sym q))
