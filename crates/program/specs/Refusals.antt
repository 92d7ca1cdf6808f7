-- What the next line is answered, from the held lines alone: that the table takes it, or for what it refuses it.
use Rattle.std.specs.Prelude.{ℕ, Bool, true, false, cond, ◌&&◌, List, [], ◌∷◌, ◌++◌, length, is_some, is_ok, Ok, Err, Result, ◌==◌, nat_le}
use Rattle.model.specs.declared.line.Line.{Line}
use Rattle.model.specs.declared.block.BlockKind.{BlockKind}
use Rattle.model.specs.declared.block.BlockKind.TheVariants.{While, If}
use Rattle.model.specs.declared.block.Role.{Role}
use Rattle.model.specs.declared.block.Role.TheVariants.{Opens, Ends, Neither}
use Rattle.model.specs.Blocks.{Stack, role_of, open_blocks, labels, place_from}
use Rattle.program.specs.declared.refusal.TableRefusal.{TableRefusal}
use Rattle.program.specs.declared.refusal.TableRefusal.TheVariants.{Lines, End, Label, Blocks}
use Rattle.program.specs.Limits.{max_lines, max_blocks}

abbrev pub same_kind : BlockKind → BlockKind → Bool
same_kind While While = true
same_kind While If = false
same_kind If While = false
same_kind If If = true

-- an end has the kind and the label of the innermost open block
abbrev pub fits : Stack → BlockKind → ℕ → Bool
fits [] k l = false
fits (b ∷ s) k l = same_kind b.0 k && b.1 == l

-- the answer to a line of a role, where these blocks are open and these labels had
abbrev pub role_answer : Stack → List ℕ → Role → Result (Unit {0}) TableRefusal
role_answer s ls (Opens k l c) = cond (is_some (place_from 0 ls l)) (Err Label) (cond (nat_le max_blocks (length ls)) (Err Blocks) (Ok tt))
role_answer s ls (Ends k l) = cond (fits s k l) (Ok tt) (Err End)
role_answer s ls Neither = Ok tt

-- what the next line is answered behind these
abbrev pub push_answer : List Line → Line → Result (Unit {0}) TableRefusal
push_answer xs x = cond (nat_le max_lines (length xs)) (Err Lines) (role_answer (open_blocks xs) (labels xs) (role_of x))

-- the lines behind the answer
abbrev pub pushed : Result (Unit {0}) TableRefusal → List Line → Line → List Line
pushed (Ok u) xs x = xs ++ (x ∷ [])
pushed (Err e) xs x = xs

-- each of the lines ys is taken, where xs are held before them
abbrev pub all_taken : List Line → List Line → Bool
all_taken xs [] = true
all_taken xs (y ∷ ys) = is_ok (push_answer xs y) && all_taken (xs ++ (y ∷ [])) ys
