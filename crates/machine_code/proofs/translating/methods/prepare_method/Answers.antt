use Rattle.std.proofs.Common.{sym, subst, ◌∙◌}
use Rattle.machine_code.specs.Prepared.{IsPrepared}
use Rattle.machine_code.proofs.RunCodes.{is_prepared, no_code}
use Rattle.machine_code.proofs.translating.methods.prepare_method.Goals as goal

pub returns-in_ok-new-in-Some : goal.returns-in_ok-new-in-Some
returns-in_ok-new-in-Some c = λ P is.
    subst (IsPrepared P c.args.at) (sym c.in_ok-new-in-Some.ensures.ok)
    (is_prepared c.args.tree.now P is c.args.at c.in-Some.code c.in_ok-method-in-Some.method
    c.in_ok-method-in-Some.ensures (sym c.in_ok-code.ensures.code ∙ c.in-Some.is))

pub returns-in-None : goal.returns-in-None
returns-in-None c = λ P is.
    no_code c.args.tree.now P is c.args.at (sym c.in_ok-code.ensures.code ∙ c.in-None.is)
