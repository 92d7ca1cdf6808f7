-- A line that stands in a program stands one place further in a longer one.
use Rattle.std.proofs.Common.{◌≡◌, ℕ, suc, List, ◌∷◌, Some, None, arith}
use Rattle.model.specs.declared.line.Line.{Line}
use Rattle.model.specs.Programs.{Stands, Once}

pub stands_later : {y : Line} {ys : List Line} {i : ℕ} {x : Line} → Stands ys i x → Stands (y ∷ ys) (suc i) x
stands_later st = record { inner = let k = st.inner in omega arith; is = st.is }

pub stands_earlier : {y : Line} {ys : List Line} {i : ℕ} {x : Line} → Stands (y ∷ ys) (suc i) x → Stands ys i x
stands_earlier st = record { inner = let k = st.inner in omega arith; is = st.is }

pub once_rest : (y : Line) (ys : List Line) → Once (y ∷ ys) → Once ys
once_rest y ys h i k l a b s t p q = let e = h (suc i) (suc k) l a b (stands_later s) (stands_later t) p q in omega arith

pub some_one : {A : Type 0} {a b : A} → Some a ≡ Some b → a ≡ b
some_one e = cc

pub none_some : {A : Type 0} {a : A} → None ≡ Some a → ⊥
none_some e = let z : ◌≡◌ {A = ℕ} 0 1 = cc in omega arith
