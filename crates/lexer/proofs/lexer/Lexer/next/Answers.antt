use Rattle.std.proofs.Common.{refl}
use Rattle.lexer.proofs.Found.{none_left, kind_fits, whole, found, heads}
use Rattle.lexer.proofs.Heads.{none_heads}
use Rattle.lexer.proofs.lexer.Lexer.next.Goals as goal

pub returns-in_err-kind-clause-heads : goal.returns-in_err-kind-clause-heads
returns-in_err-kind-clause-heads c =
    let t = none_left c.args.self.now.text c.args.self.now.at c.blanks-blanks.result _ (record { ref_ptr = _; now = _ }) c.args.self.now.inside refl (refl, refl, refl) c.blanks-blanks.ensures.is c.blanks-blanks.ensures.within c.in_err-kind.ensures in
    rw c.from_residual.ensures (none_heads c.args.self.now.text.now c.args.self.now.at t.0)

pub invariant_of-result-clause-kind_fits : goal.invariant_of-result-clause-kind_fits
invariant_of-result-clause-kind_fits c = kind_fits c.args.self.now.text c.args.self.now.at c.blanks-blanks.result _ _ c.args.self.now.inside refl (refl, refl, refl) c.blanks-blanks.ensures.is c.blanks-blanks.ensures.within _ _ _ _ c.in_ok-kind.ensures refl (refl, refl, refl)

pub invariant_of-result-clause-whole : goal.invariant_of-result-clause-whole
invariant_of-result-clause-whole c = whole c.args.self.now.text c.args.self.now.at c.blanks-blanks.result _ _ c.args.self.now.inside refl (refl, refl, refl) c.blanks-blanks.ensures.is c.blanks-blanks.ensures.within _ _ _ _ c.in_ok-kind.ensures refl (refl, refl, refl)

pub returns-clause-heads : goal.returns-clause-heads
returns-clause-heads c = heads c.args.self.now.text c.args.self.now.at c.blanks-blanks.result _ _ c.args.self.now.inside refl (refl, refl, refl) c.blanks-blanks.ensures.is c.blanks-blanks.ensures.within _ _ _ _ c.in_ok-kind.ensures refl (refl, refl, refl)

pub returns-clause-token : goal.returns-clause-token
returns-clause-token c = found c.args.self.now.text c.args.self.now.at c.blanks-blanks.result _ _ c.args.self.now.inside refl (refl, refl, refl) c.blanks-blanks.ensures.is c.blanks-blanks.ensures.within _ _ _ _ c.in_ok-kind.ensures refl (refl, refl, refl) _ refl refl
