use Rattle.std.proofs.Common.{◌∙◌, ap}
use Rattle.member_link.specs.CodedMethods as methods
use Rattle.type_rules.specs.Stated.{entry}
use Rattle.type_rules.proofs.method_rules.MethodRules.entry.Goals as goal

pub returns : goal.returns
returns c = c.entry.ensures ∙ ap methods.entry c.self.invariant.body_is ∙ ap entry c.self.view_is
