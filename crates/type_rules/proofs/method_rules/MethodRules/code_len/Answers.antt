use Rattle.std.proofs.Common.{◌∙◌, length, ap}
use Rattle.member_link.specs.CodedMethods.{CodedMethod}
use Rattle.member_link.specs.Scope.{Scope}
use Rattle.type_rules.proofs.method_rules.MethodRules.code_len.Goals as goal

pub returns : goal.returns
returns c = c.code_len.ensures ∙ ap (λ (m : CodedMethod). length m.part.code) c.self.invariant.body_is ∙ ap (λ (s : Scope). length s.part.code) c.self.view_is
