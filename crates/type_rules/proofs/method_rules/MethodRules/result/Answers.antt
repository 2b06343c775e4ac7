use Rattle.std.proofs.Common.{◌∙◌, sym, ap}
use Rattle.member_link.specs.CodedMethods.{descriptor_text}
use Rattle.member_link.specs.Signatures.{result_of}
use Rattle.member_link.specs.Scope.{own_descriptor}
use Rattle.type_rules.proofs.method_rules.MethodRules.result.Goals as goal

pub returns : goal.returns
returns c =
    let text = descriptor_text c.self.inside.body in
    let back = c.a_descriptor_is_read_back.ensures text c.descriptor.result.now c.descriptor.ensures in
    let own = ap descriptor_text c.self.invariant.body_is ∙ ap own_descriptor c.self.view_is in
    c.as_ref.ensures.value ∙ sym back.1 ∙ ap result_of own
