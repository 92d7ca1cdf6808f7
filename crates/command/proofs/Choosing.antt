-- A line that is cut after its first word is the command that the word chooses.
use Rattle.std.proofs.Common.{◌≡◌, ℕ, ◌+◌, ◌-◌, ◌≤◌, Bool, true, false, cond, eqb, List, length, take, drop, Some, None, Option, sym, refl, ap, ◌∙◌, arith}
use Rattle.std.proofs.lemmas.Bool.{eqb-true, eqb-false}
use Rattle.std.proofs.lemmas.List.{take_rest, drop-drop, length-take-le}
use Rattle.command.specs.declared.word.Word.{Word}
use Rattle.words.specs.Cuts.{until}
use Rattle.command.specs.Words.{word_of, arguments}
use Rattle.command.specs.Commands.{Meant, alone, asked, by_words, command_of}
use Rattle.command.proofs.Blanks.{cut_at, no_argument, some_argument}

module _ (bs : List ℕ) (n : ℕ) (e : n ≡ until 32 bs) (le : n ≤ length bs) (w : Option Word) (is : w ≡ word_of (take (n - 0) bs)) where
  -- the text after one blank
  text : drop 1 (take (length bs - n) (drop n bs)) ≡ drop (length (take (n - 0) bs) + 1) bs
  text =
      let none : n - 0 ≡ n = omega arith in
      ap (drop 1) (take_rest bs n) ∙ drop-drop 1 n bs ∙ ap (λ k. drop (k + 1) bs) (sym (length-take-le n bs le) ∙ ap (λ k. length (take k bs)) (sym none))

  pub by_word : asked w (arguments (take (length bs - n) (drop n bs))) (drop 1 (take (length bs - n) (drop n bs))) ≡ command_of bs
  by_word =
      ap (λ v. asked v (arguments (take (length bs - n) (drop n bs))) (drop 1 (take (length bs - n) (drop n bs)))) is ∙ ap (asked (word_of (take (n - 0) bs)) (arguments (take (length bs - n) (drop n bs)))) text ∙ ap (λ ws. by_words ws bs) (sym (cut_at bs n e))

-- it stands alone exactly if no byte follows
pub alone_if : (m : Meant) (bs : List ℕ) (b : Bool) → b ≡ eqb (length bs) 0 → cond b (Some m) None ≡ alone m (arguments bs)
alone_if m bs true e = sym (ap (alone m) (no_argument bs (eqb-true _ _ (sym e))))
alone_if m bs false e = sym (some_argument (alone m) None (λ w ws. refl) bs (eqb-false _ _ (sym e)))
