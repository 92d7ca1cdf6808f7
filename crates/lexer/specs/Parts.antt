-- The first token of a text, as a part of that text: which bytes it has, and where they lie in memory.
use Rattle.std.specs.Prelude.{◌≡◌, ℕ, ◌+◌, ◌-◌, ◌<◌, ◌≤◌, List, length, take, drop, Some, None, Option}
use Rattle.std.specs.Borrow.{Bor}
use Rattle.lexer.specs.declared.class.Class.TheVariants.{Blank}
use Rattle.lexer.specs.declared.kind.Kind.{Kind}
use Rattle.lexer.specs.declared.token.Token.{Token}
use Rattle.lexer.specs.Classes.{run}
use Rattle.lexer.specs.Kinds.{kind_of, size}

-- p is the part of s from n on, m long, in the same block of memory
pub record Part (s : Bor (List ℕ)) (n m : ℕ) (p : Bor (List ℕ)) : Type 0 where
  pub block : p.ref_ptr.0 ≡ s.ref_ptr.0
  pub offset : p.ref_ptr.1 ≡ s.ref_ptr.1 + n
  pub bytes : p.now ≡ take m (drop n s.now)

-- s is empty, or its first token is of the kind k and q is what is left behind that token
abbrev pub Cut : Bor (List ℕ) → Option (Kind × Bor (List ℕ)) → Type 0
Cut s None = length s.now ≡ 0
Cut s (Some (k, q)) = (k ≡ kind_of s.now) × Part s (size s.now) (length s.now - size s.now) q × (size s.now ≤ length s.now) × (0 < length s.now)

-- where the next token from n on begins: past the blanks
abbrev pub start : List ℕ → ℕ → ℕ
start s n = n + run Blank (drop n s)

-- the token t of the text is the first from n on, and m is where it ends
pub record Found (text : Bor (List ℕ)) (n : ℕ) (t : Token) (m : ℕ) : Type 0 where
  pub place : t.place ≡ start text.now n
  pub part : Part text t.place (size (drop t.place text.now)) t.part
  pub after : m ≡ t.place + size (drop t.place text.now)
  pub within : m ≤ length text.now
  pub some : t.place < length text.now

abbrev pub Next : Bor (List ℕ) → ℕ → Option Token → ℕ → Type 0
Next text n None m = (start text.now n ≡ length text.now) × (m ≡ length text.now)
Next text n (Some t) m = Found text n t m
