-- The bytes of a token: it is the first token of its own bytes, and where it is of digits, those are digits only.
use Rattle.std.proofs.Common.{◌≡◌, ℕ, suc, ◌<◌, ◌≤◌, Bool, true, false, cond, ◌&&◌, ◌||◌, eqb, leb, List, [], ◌∷◌, length, get_or, take, sym, refl, ap, ◌∙◌, subst, arith, length-take-le, get_or-take}
use Rattle.std.proofs.lemmas.Bool.Decides.{nat_tests}
use Rattle.std.proofs.lemmas.List.{take_all}
use Rattle.std.proofs.lemmas.Str.{digit_value_digit}
use Rattle.std.specs.Char.{digit_value as digitValue}
use Rattle.std.specs.Str.Parse.{AllDigits}
use Rattle.lexer.specs.declared.class.Class.{Class}
use Rattle.lexer.specs.declared.class.Class.TheVariants.{Letter, Digit, Mark, Blank}
use Rattle.lexer.specs.declared.kind.Kind.TheVariants.{Digits}
use Rattle.lexer.specs.declared.token.Token.{Token}
use Rattle.lexer.specs.Classes.{class, same, run}
use Rattle.lexer.specs.Kinds.{size, size_by, kind_by, kind_of}
use Rattle.lexer.proofs.Heads.{run_step, size_some}

by_digit : (p q r : Bool) → same (cond p Letter (cond q Digit (cond r Blank Mark))) Digit ≡ true → q ≡ true
by_digit true q r e = absurd (let z : ◌≡◌ {A = ℕ} 0 1 = cc in omega arith)
by_digit false true r e = refl
by_digit false false true e = absurd (let z : ◌≡◌ {A = ℕ} 0 1 = cc in omega arith)
by_digit false false false e = absurd (let z : ◌≡◌ {A = ℕ} 0 1 = cc in omega arith)

digit_value : (b : ℕ) → same (class b) Digit ≡ true → digitValue b < 10
digit_value b e =
    let q : leb 48 b && leb b 57 ≡ true = by_digit ((leb 65 b && leb b 90) || (leb 97 b && leb b 122)) (leb 48 b && leb b 57) (eqb b 32) e in
    let lo : 48 ≤ b = grind (arith, nat_tests) in
    let hi : b ≤ 57 = grind (arith, nat_tests) in
    omega (arith, digit_value_digit b (lo, hi))

run_digits : (s : List ℕ) → AllDigits 10 (take (run Digit s) s)
run_digits [] = tt
run_digits (b ∷ bs) =
    subst (λ n. AllDigits 10 (take n (b ∷ bs))) (sym (run_step Digit b bs)) (elim (same (class b) Digit) as (λ v. same (class b) Digit ≡ v → AllDigits 10 (take (cond v (suc (run Digit bs)) 0) (b ∷ bs))) [
      | true ↦ λ e. (digit_value b e, run_digits bs)
      | false ↦ λ e. tt
    ] refl)

-- ---- the first token of a text
some : (s : List ℕ) → 0 < length s → 1 ≤ size s
some [] h = absurd (omega arith)
some (b ∷ bs) h = size_some b bs (class b) refl

same_first : (s : List ℕ) → 0 < length s → get_or (take (size s) s) 0 0 ≡ get_or s 0 0
same_first s h = let one : 0 < size s = some s h in get_or-take _ _ _ _ one

pub same_kind : (s : List ℕ) → 0 < length s → kind_of (take (size s) s) ≡ kind_of s
same_kind s h = ap (λ b. kind_by (class b) b) (same_first s h)

run_again : (k : Class) (s : List ℕ) → run k (take (run k s) s) ≡ run k s
run_again k [] = refl
run_again k (b ∷ bs) =
    subst (λ n. run k (take n (b ∷ bs)) ≡ n) (sym (run_step k b bs)) (elim (same (class b) k) as (λ v. same (class b) k ≡ v → run k (take (cond v (suc (run k bs)) 0) (b ∷ bs)) ≡ cond v (suc (run k bs)) 0) [
      | true ↦ λ e. run_step k b (take (run k bs) bs) ∙ ap (λ v. cond v (suc (run k (take (run k bs) bs))) 0) e ∙ ap suc (run_again k bs)
      | false ↦ λ e. refl
    ] refl)

size_again : (k : Class) (s : List ℕ) → size_by k (take (size_by k s) s) ≡ size_by k s
size_again Letter s = run_again Letter s
size_again Digit s = run_again Digit s
size_again Blank s = refl
size_again Mark s = refl

pub same_size : (s : List ℕ) → 0 < length s → size s ≤ length s → size (take (size s) s) ≡ length (take (size s) s)
same_size s h w = ap (λ b. size_by (class b) (take (size s) s)) (same_first s h) ∙ size_again (class (get_or s 0 0)) s ∙ sym (length-take-le (size s) s w)

-- ---- digits
class_by : (k : Class) (b : ℕ) → Digits ≡ kind_by k b → k ≡ Digit
class_by Letter b e = absurd (let z : ◌≡◌ {A = ℕ} 0 1 = cc in omega arith)
class_by Digit b e = refl
class_by Blank b e = absurd (let z : ◌≡◌ {A = ℕ} 0 1 = cc in omega arith)
class_by Mark b e = absurd (grind arith)

pub token_digits : (t : Token) → t.kind ≡ Digits → AllDigits 10 t.part.now
token_digits t e =
    let s = t.part.now in
    let digit : class (get_or s 0 0) ≡ Digit = class_by (class (get_or s 0 0)) (get_or s 0 0) (sym e ∙ t.kind_fits) in
    let all : run Digit s ≡ length s = sym (ap (λ k. size_by k s) digit) ∙ t.whole in
    subst (AllDigits 10) (take_all (run Digit s) s (omega (arith, all))) (run_digits s)
