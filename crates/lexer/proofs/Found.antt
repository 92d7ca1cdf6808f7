-- The token behind the blanks is the next one of the text.
use Rattle.std.proofs.Common.{◌≡◌, ℕ, ◌+◌, ◌-◌, ◌≤◌, List, ◌∷◌, length, take, drop, Some, None, sym, refl, ap, ◌∙◌, subst, arith, length-drop, Bor}
use Rattle.std.proofs.lemmas.Slice.{between_to_end}
use Rattle.lexer.specs.declared.class.Class.TheVariants.{Blank}
use Rattle.lexer.specs.declared.kind.Kind.{Kind}
use Rattle.lexer.specs.declared.token.Token.{Token}
use Rattle.lexer.specs.Classes.{run}
use Rattle.lexer.specs.Kinds.{size, kind_of}
use Rattle.lexer.specs.Lexemes.{lexemes_from}
use Rattle.lexer.specs.Parts.{Cut, start, Found, Next}
use Rattle.lexer.proofs.Bytes.{same_kind, same_size}
use Rattle.lexer.proofs.Heads.{found_heads}

pub rest_is : (s : List ℕ) (n : ℕ) → take (length s - n) (drop n s) ≡ drop n s
rest_is s n = between_to_end s n (length s) (omega arith)

-- the text from at on, r; past its k blanks, q
module _ (text : Bor (List ℕ)) (at k : ℕ) (r : List ℕ) (q : Bor (List ℕ)) (in-text : at ≤ length text.now)
    (r-is : r ≡ take (length text.now - at) (drop at text.now))
    (q-is : (q.ref_ptr.0 ≡ text.ref_ptr.0) × (q.ref_ptr.1 ≡ (at + k) + text.ref_ptr.1) × (q.now ≡ take (length text.now - (at + k)) (drop (at + k) text.now)))
    (blanks : k ≡ run Blank r) (within : k ≤ length r) where
  at_start : at + k ≡ start text.now at
  at_start = ap (λ n. at + n) (blanks ∙ ap (run Blank) (r-is ∙ rest_is text.now at))

  room : at + k ≤ length text.now
  room = omega (arith, ap length (r-is ∙ rest_is text.now at), length-drop at text.now)

  q_now : q.now ≡ drop (at + k) text.now
  q_now = q-is.2 ∙ rest_is text.now (at + k)

  q_long : length q.now ≡ length text.now - (at + k)
  q_long = ap length q_now ∙ length-drop (at + k) text.now

  pub none_left : Cut q None → Next (text) at None (at + k)
  none_left e = (omega (arith, q_long, room, at_start), omega (arith, q_long, room))

  -- a token is found at q, with the bytes up to m, and rest is left behind it
  module _ (w : Kind) (rest part : Bor (List ℕ)) (m : ℕ) (h : Cut q (Some (w, rest))) (m-is : m ≡ length text.now - length rest.now)
      (part-is : (part.ref_ptr.0 ≡ text.ref_ptr.0) × (part.ref_ptr.1 ≡ (at + k) + text.ref_ptr.1) × (part.now ≡ take (m - (at + k)) (drop (at + k) text.now))) where
    rest_long : length rest.now ≡ length q.now - size q.now
    rest_long = ap length (h.1.bytes ∙ rest_is q.now (size q.now)) ∙ length-drop (size q.now) q.now

    long : m - (at + k) ≡ size q.now
    long = omega (arith, rest_long, q_long, m-is, h.2, room)

    bytes : part.now ≡ take (size q.now) q.now
    bytes = part-is.2 ∙ (λ i. take (long i) (sym q_now i))

    pub kind_fits : w ≡ kind_of part.now
    kind_fits = h.0 ∙ sym (ap kind_of bytes ∙ same_kind q.now h.3)

    pub whole : size part.now ≡ length part.now
    whole = subst (λ l. size l ≡ length l) (sym bytes) (same_size q.now h.3 h.2)

    pub found : (t : Token) → t.place ≡ at + k → t.part ≡ part → Found text at t m
    found t e f =
        let here : q.now ≡ drop t.place text.now = q_now ∙ ap (λ n. drop n text.now) (sym e) in
        record {
          place = e ∙ at_start;
          part = record {
            block = ap (λ p. p.ref_ptr.0) f ∙ part-is.0;
            offset = omega (arith, ap (λ p. p.ref_ptr.1) f ∙ part-is.1, e);
            bytes = ap (λ p. p.now) f ∙ bytes ∙ (λ i. take (size (here i)) (here i));
          };
          after = omega (arith, long, m-is, rest_long, q_long, ap size here, e, h.2, room);
          within = omega (arith, m-is);
          some = omega (arith, q_long, h.3, e);
        }

    pub heads : lexemes_from 0 at (drop at text.now) ≡ record { place = at + k; bytes = part.now } ∷ lexemes_from 0 m (drop m text.now)
    heads = let t : Token = record { kind = w; place = at + k; part = part; kind_fits = kind_fits; whole = whole } in found_heads text at t m in-text (found t refl refl)
