use Rattle.std.proofs.Common.{◌∙◌, ap}
use Rattle.member_link.specs.CodedMethods.{CodedMethod}
use Rattle.member_link.specs.CodedMethods as methods
use Rattle.member_link.specs.Scope.{Scope}
use Rattle.type_rules.specs.Stated.{stated_at}
use Rattle.type_rules.proofs.method_rules.MethodRules.stated_at.Goals as goal

pub returns : goal.returns
returns c =
    c.stated_at.ensures
    ∙ ap (λ (m : CodedMethod). methods.stated_at m c.args.at) c.self.invariant.body_is
    ∙ ap (λ (s : Scope). stated_at s c.args.at) c.self.view_is
