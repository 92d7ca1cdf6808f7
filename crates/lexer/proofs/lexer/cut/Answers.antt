use Rattle.std.proofs.Common.{◌≡◌, get_or, refl, rules}
use Rattle.lexer.specs.declared.class.Class.TheVariants.{Letter, Digit}
use Rattle.lexer.specs.Classes.{class}
use Rattle.lexer.proofs.Runs.{run_cut}
use Rattle.lexer.proofs.lexer.cut.Goals as goal

pub returns-in-len1-up : goal.returns-in-len1-up
returns-in-len1-up c =
    let first : class (get_or c.args.s.now 0 0) ≡ Digit = search rules in
    run_cut c.args.s _ _ c.digits.result Digit _ c.in-len1-up.len_at_least first refl refl refl c.digits.ensures.is c.digits.ensures.within (refl, refl, refl)

pub returns-in-len1-up-2 : goal.returns-in-len1-up-2
returns-in-len1-up-2 c =
    let first : class (get_or c.args.s.now 0 0) ≡ Letter = search rules in
    run_cut c.args.s _ _ c.letters.result Letter _ c.in-len1-up.len_at_least first refl refl refl c.letters.ensures.is c.letters.ensures.within (refl, refl, refl)
