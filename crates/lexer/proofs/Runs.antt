-- A token that is a run, found from behind its first byte.
use Rattle.std.proofs.Common.{◌≡◌, ℕ, ◌+◌, ◌-◌, ◌≤◌, List, [], ◌∷◌, length, get_or, take, drop, Some, sym, ap, ◌∙◌, arith, length-drop, Bor}
use Rattle.std.proofs.lemmas.List.{drop-drop}
use Rattle.lexer.specs.declared.class.Class.{Class}
use Rattle.lexer.specs.declared.kind.Kind.{Kind}
use Rattle.lexer.specs.Classes.{class, run}
use Rattle.lexer.specs.Kinds.{size, size_by, kind_by}
use Rattle.lexer.specs.Parts.{Cut}
use Rattle.lexer.proofs.Found.{rest_is}
use Rattle.lexer.proofs.Lexemes.{run_cons}

-- with the first byte, a run is one longer
one_more : (k : Class) (s : List ℕ) → 1 ≤ length s → class (get_or s 0 0) ≡ k → run k s ≡ run k (drop 1 s) + 1
one_more k [] h e = absurd (omega arith)
one_more k (b ∷ bs) h e = run_cons k b bs e ∙ omega arith

-- a text s that begins with the class k, of whose runs the kind is w; r is behind its first byte, q behind the n bytes of k in r
module _ (s q : Bor (List ℕ)) (r : List ℕ) (n : ℕ) (k : Class) (w : Kind)
    (some : 1 ≤ length s.now) (first : class (get_or s.now 0 0) ≡ k) (kind : w ≡ kind_by k (get_or s.now 0 0)) (runs : size_by k s.now ≡ run k s.now)
    (r-is : r ≡ take (length s.now - 1) (drop 1 s.now)) (n-is : n ≡ run k r) (within : n ≤ length r)
    (q-is : (q.ref_ptr.0 ≡ s.ref_ptr.0) × (q.ref_ptr.1 ≡ n + (1 + s.ref_ptr.1)) × (q.now ≡ take (length r - n) (drop n r))) where
  behind : r ≡ drop 1 s.now
  behind = r-is ∙ rest_is s.now 1

  sizes : size s.now ≡ n + 1
  sizes = ap (λ j. size_by j s.now) first ∙ runs ∙ one_more k s.now some first ∙ ap (λ m. m + 1) (sym (n-is ∙ ap (run k) behind))

  left : q.now ≡ take (length s.now - size s.now) (drop (size s.now) s.now)
  left =
      let past : 1 + n ≡ size s.now = omega (arith, sizes) in
      q-is.2 ∙ rest_is r n ∙ ap (drop n) behind ∙ drop-drop n 1 s.now ∙ ap (λ m. drop m s.now) past ∙ sym (rest_is s.now (size s.now))

  pub run_cut : Cut s (Some (w, q))
  run_cut = (
    kind ∙ ap (λ j. kind_by j (get_or s.now 0 0)) (sym first),
    record { block = q-is.0; offset = omega (arith, q-is.1, sizes); bytes = left },
    omega (arith, sizes, within, ap length behind ∙ length-drop 1 s.now, some),
    some,
  )
