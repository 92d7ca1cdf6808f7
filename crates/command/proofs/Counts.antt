-- Exactly so many numbers, read one after the other.
use Rattle.std.proofs.Common.{◌≡◌, ℕ, suc, ◌+◌, ◌-◌, ◌<◌, ◌≤◌, Bool, true, false, cond, eqb, List, [], ◌∷◌, ◌++◌, length, take, set, ℤ, Some, None, Option, sym, refl, ap, ◌∙◌, append_assoc, arith, length-set}
use Rattle.std.proofs.lemmas.Bool.{eqb-true, eqb-false}
use Rattle.std.proofs.lemmas.List.{take_more_set, take_all, append-nil}
use Rattle.command.specs.Words.{arguments}
use Rattle.words.specs.Numbers.{number_of}
use Rattle.command.specs.Numbers.{put, numbers_of}
use Rattle.command.proofs.Blanks.{no_argument, some_argument}

-- the number in the first word
pub first_number : (ws : List (List ℕ)) (w : List ℕ) (more : List (List ℕ)) (o : Option ℤ) → ws ≡ w ∷ more → o ≡ number_of w → (k : ℕ) → numbers_of (suc k) ws ≡ put o (numbers_of k more)
first_number ws w more o same is k = ap (numbers_of (suc k)) same ∙ ap (λ x. put x (numbers_of k more)) (sym is)

-- numbers that were read, in front of those to come
abbrev pub prepend : List ℤ → Option (List ℤ) → Option (List ℤ)
prepend xs None = None
prepend xs (Some ys) = Some (xs ++ ys)

none_before : (o : Option (List ℤ)) → prepend [] o ≡ o
none_before None = refl
none_before (Some ys) = refl

one_more : (vs : List ℤ) (i : ℕ) (x : ℤ) (o : Option (List ℤ)) → i < length vs → prepend (take i vs) (put (Some x) o) ≡ prepend (take (i + 1) (set vs i x)) o
one_more vs i x None h = refl
one_more vs i x (Some ys) h = ap Some (sym (append_assoc (take i vs) (x ∷ []) ys) ∙ ap (λ xs. xs ++ ys) (sym (take_more_set vs i x h)))

-- after i of n numbers: those read, and the text that is left
pub record Read (n i : ℕ) (text rest : List ℕ) (vs : List ℤ) : Type 0 where
  pub long : length vs ≡ n
  pub so_far : numbers_of n (arguments text) ≡ prepend (take i vs) (numbers_of (n - i) (arguments rest))

pub none_read : (n : ℕ) (text : List ℕ) (vs : List ℤ) → length vs ≡ n → Read n 0 text text vs
none_read n text vs h =
    let all : n - 0 ≡ n = omega arith in
    record { long = h; so_far = rw all (sym (none_before (numbers_of n (arguments text)))) }

module _ (n i : ℕ) (text rest : List ℕ) (vs : List ℤ) (r : Read n i text rest vs) where
  pub stops : i < n → ((k : ℕ) → numbers_of (suc k) (arguments rest) ≡ None) → None ≡ numbers_of n (arguments text)
  stops lt none =
      let left : n - i ≡ suc (n - (i + 1)) = omega arith in
      sym (r.so_far ∙ ap (λ k. prepend (take i vs) (numbers_of k (arguments rest))) left ∙ ap (prepend (take i vs)) (none (n - (i + 1))))

  pub goes_on : (x : ℤ) (more : List ℕ) → i < n → ((k : ℕ) → numbers_of (suc k) (arguments rest) ≡ put (Some x) (numbers_of k (arguments more))) → Read n (i + 1) text more (set vs i x)
  goes_on x more lt some =
      let left : n - i ≡ suc (n - (i + 1)) = omega arith in
      let h = r.long in
      record {
        long = simp length-set r.long;
        so_far = r.so_far ∙ ap (λ k. prepend (take i vs) (numbers_of k (arguments rest))) left ∙ ap (prepend (take i vs)) (some (n - (i + 1))) ∙ one_more vs i x (numbers_of (n - (i + 1)) (arguments more)) (omega arith);
      }

  at_end : n ≤ i → numbers_of n (arguments text) ≡ prepend vs (numbers_of 0 (arguments rest))
  at_end le =
      let h = r.long in
      let none : n - i ≡ 0 = omega arith in
      r.so_far ∙ ap (λ k. prepend (take i vs) (numbers_of k (arguments rest))) none ∙ ap (λ xs. prepend xs (numbers_of 0 (arguments rest))) (take_all i vs (omega arith))

  -- all are read, if nothing is left then
  pub whole_if : n ≤ i → (b : Bool) → b ≡ eqb (length rest) 0 → cond b (Some vs) None ≡ numbers_of n (arguments text)
  whole_if le true e = sym (at_end le ∙ ap (λ ws. prepend vs (numbers_of 0 ws)) (no_argument rest (eqb-true _ _ (sym e))) ∙ ap Some (append-nil vs))
  whole_if le false e = sym (at_end le ∙ some_argument (λ ws. prepend vs (numbers_of 0 ws)) None (λ w ws. refl) rest (eqb-false _ _ (sym e)))
