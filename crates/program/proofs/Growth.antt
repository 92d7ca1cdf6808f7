-- A line put into a table: the table still agrees with its lines, and what is answered.
use Rattle.std.proofs.Common.{◌≡◌, ℕ, ◌+◌, ◌<◌, true, false, leb, [], ◌∷◌, ◌++◌, length, get_or, set, is_some, is_ok, Some, None, Ok, Option, sym, ap, ◌∙◌, arith}
use mathlib.Core.Logic.{∥∥₁_map}
use Rattle.std.proofs.lemmas.Bool.{lt-leb}
use Rattle.model.specs.declared.expression.Condition.{Condition}
use Rattle.model.specs.declared.line.Line.{Line}
use Rattle.model.specs.declared.block.BlockKind.{BlockKind}
use Rattle.model.specs.declared.block.Role.{Role}
use Rattle.model.specs.declared.block.Role.TheVariants.{Opens, Ends, Neither}
use Rattle.model.proofs.Found.{made}
use Rattle.model.specs.Blocks.{role_of, open_blocks, labels, block_number}
use Rattle.program.specs.declared.table.Program.{Program}
use Rattle.program.specs.Limits.{max_lines, max_blocks}
use Rattle.program.specs.Refusals.{role_answer, push_answer, all_taken}
use Rattle.program.proofs.Nested.{taken_more}
use Rattle.program.specs.Agree.{no_block, Agrees, Last}
use Rattle.program.specs.Held.{held, held_blocks}
use Rattle.program.proofs.Readings.{with_end}
use Rattle.program.proofs.Agreed.{is_none, one_kept, one_opened, one_ended}
use Rattle.program.proofs.Lookup.{block_total}

module _ (p : Program) (x : Line) where
  -- the line is taken, so all lines are
  pub taken_line : (r : Role) → length (held p) < max_lines → role_of x ≡ r → Ok tt ≡ role_answer (open_blocks (held p)) (labels (held p)) r → all_taken [] (held p ++ (x ∷ [])) ≡ true
  taken_line r room e h =
      let few : leb max_lines (length (held p)) ≡ false = lt-leb _ _ (omega arith) in
      let ok : push_answer (held p) x ≡ Ok tt = rw few (ap (role_answer (open_blocks (held p)) (labels (held p))) e ∙ sym h) in
      taken_more [] (held p) x p.taken (ap is_ok ok)

  pub keeps : role_of x ≡ Neither → ∥ Agrees (held p ++ (x ∷ [])) (held_blocks p) ∥₁
  keeps e = ∥∥₁_map p.agrees (one_kept (held p) (held_blocks p) x e)

  pub opens : (k : BlockKind) (l : ℕ) (c : Condition) (r : Option ℕ) → role_of x ≡ Opens k l c → r ≡ block_number (held p) l → is_some r ≡ false → ∥ Agrees (held p ++ (x ∷ [])) (held_blocks p ++ (made k l c (length (held p) + 1) None ∷ [])) ∥₁
  opens k l c r e q none = ∥∥₁_map p.agrees (one_opened (held p) (held_blocks p) x k l c e (sym q ∙ is_none r none))

  pub closes : (k : BlockKind) (l i : ℕ) → role_of x ≡ Ends k l → (get_or (held_blocks p) i no_block).label ≡ l → Last (held_blocks p) (Some i) → ∥ Agrees (held p ++ (x ∷ [])) (set (held_blocks p) i (with_end (Some (length (held p) + 1)) (get_or (held_blocks p) i no_block))) ∥₁
  closes k l i e s last = ∥∥₁_map p.agrees (one_ended (held p) (held_blocks p) x k i (e ∙ ap (Ends k) (sym s)) last)

-- what a line that opens a block of a new label is answered
module _ (p : Program) (k : BlockKind) (l : ℕ) (c : Condition) (r : Option ℕ) (q : r ≡ block_number (held p) l) (none : is_some r ≡ false) where
  new : is_some (block_number (held p) l) ≡ false
  new = ap is_some (sym q) ∙ none

  pub says_opened : leb max_blocks (length (held_blocks p)) ≡ false → Ok tt ≡ role_answer (open_blocks (held p)) (labels (held p)) (Opens k l c)
  says_opened h = rw (new, sym (block_total p), h)
