use Rattle.std.proofs.Common.{Err, refl, subst}
use Rattle.type_rules.specs.Rule.{Rules}
use Rattle.member_link.specs.Scope.{Scope}
use Rattle.type_rules.specs.declared.fault.RuleFault.{RuleFault}
use Rattle.verify_folder.proofs.typing.Typing.rule.Goals as goal

pub returns-in-Err-Fails : goal.returns-in-Err-Fails
returns-in-Err-Fails c =
    let told = subst (λ (s : Scope). Rules s c.args.placed.now c.args.before.now (Err c.in-Err-Fails.field-0)) c.self.view_is c.in-Err-Fails.ensures in
    rw c.fails.ensures (refl, subst (λ (fault : RuleFault). Rules c.args.self.now c.args.placed.now c.args.before.now (Err fault)) c.in-Err-Fails.field-0-is told)
