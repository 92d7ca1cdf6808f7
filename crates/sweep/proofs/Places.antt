-- Each block of a closed program has a place of its own in the working store, and the condition of its first line.
use Rattle.std.proofs.Common.{◌≡◌, ℕ, ◌<◌, List, get_or, Some, sym, ap, ◌∙◌, arith}
use Rattle.model.specs.declared.expression.Condition.{Condition}
use Rattle.model.specs.declared.block.BlockKind.{BlockKind}
use Rattle.model.specs.declared.block.Role.TheVariants.{Opens}
use Rattle.model.specs.declared.line.Line.{Line}
use Rattle.model.specs.declared.line.Line.TheVariants.{If, While}
use Rattle.model.specs.Blocks.{role_of, labels}
use Rattle.model.specs.Programs.{Stands, opening, Once}
use Rattle.model.proofs.Labels.{Among, placed, opens_among}
use Rattle.model.proofs.Found.{block_found}
use Rattle.sweep.specs.Blocks.{blocks, states_for, place_of, condition_of}

pub place_inner : (lines : List Line) (i l : ℕ) (x : Line) → Stands lines i x → opening (role_of x) ≡ Some l → (blocks lines).place l < states_for lines
place_inner lines i l x st h =
    let p = placed 0 (labels lines) l (opens_among lines i l x st h) in
    let e = ap place_of p.found in
    let k = p.inner in
    omega arith

-- two labels of one place are one label
pub place_one : (lines : List Line) (l m : ℕ) → Among l (labels lines) → Among m (labels lines) → (blocks lines).place l ≡ (blocks lines).place m → l ≡ m
place_one lines l m h k e =
    let p = placed 0 (labels lines) l h in
    let q = placed 0 (labels lines) m k in
    let a = ap place_of p.found in
    let b = ap place_of q.found in
    let same : p.ahead ≡ q.ahead = omega arith in
    sym p.is ∙ (ap (λ (i : ℕ). get_or (labels lines) i 0) same ∙ q.is)

-- blocks of one place are opened by one line
pub one_opener : (lines : List Line) (i k l m : ℕ) (x y : Line) → Once lines → Stands lines i x → Stands lines k y → opening (role_of x) ≡ Some l → opening (role_of y) ≡ Some m →
    (blocks lines).place l ≡ (blocks lines).place m → i ≡ k
one_opener lines i k l m x y o s t p q e =
    let same = place_one lines l m (opens_among lines i l x s p) (opens_among lines k m y t q) e in
    o i k l x y s t p (q ∙ ap Some (sym same))

pub condition_is : (lines : List Line) (i l : ℕ) (x : Line) (k : BlockKind) (c : Condition) → Once lines → Stands lines i x → role_of x ≡ Opens k l c → (blocks lines).condition l ≡ c
condition_is lines i l x k c o st r = ap condition_of (block_found lines i l x k c o st r)

pub if_no_while : {m o : ℕ} {c d : Condition} {x : Line} → x ≡ If m c → x ≡ While o d → ⊥
if_no_while e q = let z : ◌≡◌ {A = ℕ} 0 1 = cc in omega arith
