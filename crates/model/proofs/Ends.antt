-- In a closed program two lines that end one label are one line.
use Rattle.std.proofs.Common.{◌≡◌, ℕ, zero, suc, ◌⊎◌, List, [], ◌∷◌, Some, sym, refl, ap, ◌∙◌, subst, inl, inr, arith}
use Rattle.model.specs.declared.block.BlockKind.{BlockKind}
use Rattle.model.specs.declared.block.Role.{Role}
use Rattle.model.specs.declared.block.Role.TheVariants.{Opens, Ends, Neither}
use Rattle.model.specs.declared.line.Line.{Line}
use Rattle.model.specs.Blocks.{Stack, role_of, outer, past}
use Rattle.model.specs.Programs.{Stands, opening, Once, Innermost, Leads, Closed}
use Rattle.model.proofs.Standing.{stands_later, stands_earlier, once_rest, none_some}
use Rattle.model.proofs.Nesting.{opener, ender, opener_opens, ends_innermost, OpenBlock, innermost_open, open_past, Before, outside, inside, opened_before}

abbrev Distinct : Stack → Type 0
Distinct [] = Unit {0}
Distinct (o ∷ os) = ((b : BlockKind × ℕ) → OpenBlock b os → b.1 ≡ o.1 → ⊥) × Distinct os

-- no label is used twice by the open blocks and the lines ahead
record Tidy (os : Stack) (xs : List Line) : Type 0 where
  nested : Leads os xs []
  once : Once xs
  fresh : (b : BlockKind × ℕ) (k : ℕ) (x : Line) → OpenBlock b os → Stands xs k x → opening (role_of x) ≡ Some b.1 → ⊥
  distinct : Distinct os

first : (y : Line) (ys : List Line) → Stands (y ∷ ys) 0 y
first y ys = record { inner = omega arith; is = refl }

fresh_by : (os : Stack) (y : Line) (ys : List Line) (b : BlockKind × ℕ) (k : ℕ) (x : Line) → Tidy os (y ∷ ys) → OpenBlock b os ⊎ (opener (role_of y) ≡ Some b) → Stands ys k x → opening (role_of x) ≡ Some b.1 → ⊥
fresh_by os y ys b k x t (inl h) st p = t.fresh b (suc k) x h (stands_later st) p
fresh_by os y ys b k x t (inr e) st p = let q = t.once 0 (suc k) b.1 y x (first y ys) (stands_later st) (opener_opens (role_of y) b e) p in omega arith

outer_distinct : (os : Stack) → Distinct os → Distinct (outer os)
outer_distinct [] h = h
outer_distinct (o ∷ os) h = h.1

past_distinct : (os : Stack) (r : Role) → Distinct os → ((b : BlockKind × ℕ) → OpenBlock b os → opening r ≡ Some b.1 → ⊥) → Distinct (past os r)
past_distinct os (Opens k l c) d f = ((λ b h e. f b h (ap Some (sym e))), d)
past_distinct os (Ends k l) d f = outer_distinct os d
past_distinct os Neither d f = d

tidy_past : (os : Stack) (y : Line) (ys : List Line) → Tidy os (y ∷ ys) → Tidy (past os (role_of y)) ys
tidy_past os y ys t = record {
  nested = t.nested.1;
  once = once_rest y ys t.once;
  fresh = λ b k x h. fresh_by os y ys b k x t (open_past os (role_of y) b h);
  distinct = past_distinct os (role_of y) t.distinct (λ b h. t.fresh b 0 y h (first y ys));
}

ender_past : (os : Stack) (r : Role) (b : BlockKind × ℕ) → ender r ≡ Some b → past os r ≡ outer os
ender_past os (Opens k l c) b e = absurd (none_some e)
ender_past os (Ends k l) b e = refl
ender_past os Neither b e = absurd (none_some e)

not_twice : (os : Stack) (b c : BlockKind × ℕ) → Distinct os → Innermost b os → OpenBlock c (outer os) → c.1 ≡ b.1 → ⊥
not_twice [] b c d h k e = h
not_twice (o ∷ os) b c d h k e = d.0 c k (e ∙ ap (λ (x : BlockKind × ℕ). x.1) (sym h))

after_end_by : (os : Stack) (y : Line) (ys : List Line) (j : ℕ) (b c : BlockKind × ℕ) → Tidy os (y ∷ ys) → ender (role_of y) ≡ Some b → c.1 ≡ b.1 → Before (past os (role_of y)) ys j c → ⊥
after_end_by os y ys j b c t e q (outside h) =
    not_twice os b c t.distinct (ends_innermost os (role_of y) b t.nested.0 e) (subst (λ (bs : Stack). OpenBlock c bs) (ender_past os (role_of y) b e) h) q
after_end_by os y ys j b c t e q (inside k x h st p) =
    t.fresh b (suc k) x (innermost_open b os (ends_innermost os (role_of y) b t.nested.0 e)) (stands_later st) (opener_opens (role_of x) c p ∙ ap Some q)

-- the first line ends a block that no later line ends
after_end : (os : Stack) (y : Line) (ys : List Line) (j : ℕ) (x : Line) (b c : BlockKind × ℕ) → Tidy os (y ∷ ys) → ender (role_of y) ≡ Some b → Stands ys j x → ender (role_of x) ≡ Some c → c.1 ≡ b.1 → ⊥
after_end os y ys j x b c t e st f q = after_end_by os y ys j b c t e q (opened_before (past os (role_of y)) [] ys j c x t.nested.1 st f)

abbrev Ender : Line → BlockKind × ℕ → Type 0
Ender x b = ender (role_of x) ≡ Some b

at_first : (y x : Line) (ys : List Line) (b : BlockKind × ℕ) → Stands (y ∷ ys) 0 x → Ender x b → Ender y b
at_first y x ys b s e = ap (λ (z : Line). ender (role_of z)) s.is ∙ e

once_by : (os : Stack) (xs : List Line) (i j : ℕ) (x z : Line) (b c : BlockKind × ℕ) → Tidy os xs → Stands xs i x → Stands xs j z → Ender x b → Ender z c → b.1 ≡ c.1 → i ≡ j
once_by os [] i j x z b c t s r e f q = absurd (let k = s.inner in omega arith)
once_by os (y ∷ ys) zero zero x z b c t s r e f q = refl
once_by os (y ∷ ys) zero (suc j) x z b c t s r e f q = absurd (after_end os y ys j z b c t (at_first y x ys b s e) (stands_earlier r) f (sym q))
once_by os (y ∷ ys) (suc i) zero x z b c t s r e f q = absurd (after_end os y ys i x c b t (at_first y z ys c r f) (stands_earlier s) e q)
once_by os (y ∷ ys) (suc i) (suc j) x z b c t s r e f q = ap suc (once_by (past os (role_of y)) ys i j x z b c (tidy_past os y ys t) (stands_earlier s) (stands_earlier r) e f q)

pub ends_once : (lines : List Line) (i j : ℕ) (x z : Line) (b c : BlockKind × ℕ) → Closed lines → Stands lines i x → Stands lines j z → ender (role_of x) ≡ Some b → ender (role_of z) ≡ Some c → b.1 ≡ c.1 → i ≡ j
ends_once lines i j x z b c p = once_by [] lines i j x z b c (record { nested = p.nested; once = p.once; fresh = λ b k x h st p. h; distinct = tt })
