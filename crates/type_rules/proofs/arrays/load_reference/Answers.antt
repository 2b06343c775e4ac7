use Rattle.std.proofs.Common.{ap, [], ◌∷◌}
use Rattle.class_model.specs.declared.descriptor.Kind.TheVariants as kinds
use Rattle.class_model.specs.declared.frame.VType.{VType}
use Rattle.member_link.specs.Rows.ArrayRows.{component_type}
use Rattle.member_link.specs.Rows.Operands.{array_of_references, of_kind, lowest_of}
use Rattle.type_rules.proofs.PushedElements.{gives_where_fit}
use Rattle.type_rules.proofs.arrays.load_reference.Goals as goal
use Rattle.member_link.specs.Scope.{row_scope}

pub returns : goal.returns
returns c =
    let step = c.args.step.now in
    gives_where_fit (row_scope step.rules.now) step.before.now (array_of_references ∷ of_kind kinds.Int ∷ []) (c.in_ok-element.element ∷ []) (component_type (lowest_of 2 step.before.now.stack) ∷ []) c.plain.result
    (λ fits. ap (λ (type : VType). type ∷ []) (c.in_ok-element.ensures fits)) c.plain.ensures
