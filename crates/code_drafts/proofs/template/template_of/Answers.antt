use Rattle.std.proofs.Common.{◌≡◌, ◌==◌, sym, ap, subst, ◌∙◌}
use Rattle.class_tree.specs.Headers.{headers_of}
use Rattle.code_drafts.proofs.template.template_of.Goals as goal
use Rattle.code_drafts.specs.Emits.{Writing}
use Rattle.code_drafts.specs.TemplateWords.{template_meant}
use Rattle.code_drafts.specs.Writable.{scope}
use Rattle.class_model.specs.PoolChecks.{class_at}
use Rattle.class_model.specs.declared.opcodes.TheConstants.{INVOKESPECIAL}
use Rattle.flow_code.specs.FlatCode.{FlatCode}
use Rattle.member_link.specs.Machine.Links.{AreLinksOf}
use Rattle.plan_flow.specs.PlanScope.{field_of, member_of, pool_of, scope_of}
use Rattle.plan_flow.specs.PlanSlots.{held}
use Rattle.plan_flow.specs.PlanTable.{operand}
use Rattle.plan_flow.specs.Written.Templates.{get_template, init_template, instance_template, put_template, template}

pub returns-in_ok-method-in-Invoke : goal.returns-in_ok-method-in-Invoke
returns-in_ok-method-in-Invoke c = λ links route are.
    let w = c.args.setting.now in
    let f = c.args.types.now in
    let state = c.args.state.now in
    let method = c.in_ok-method-in-Invoke.method in
    let is_special = c.in-Invoke.opcode == INVOKESPECIAL in
    subst (λ (flat : FlatCode). template_meant (scope_of w.classes links flat) f state route c.of_call.result ≡ init_template (scope_of w.classes links flat) f state is_special method)
    (ap (λ (one : Writing). one.flat) c.setting.view_is) (c.of_call.ensures w.classes links route)
    ∙ ap (init_template (scope w links) f state is_special)
    (c.in_ok-method-in-Invoke.ensures links c.setting.inside.flat.now ∙ ap (λ (one : Writing). member_of (scope one links) c.args.class c.in-Invoke.index) c.setting.view_is)
    ∙ ap (template (scope w links) c.args.at f state route c.args.class) (sym c.in-Invoke.is)

pub returns-in_ok-field-in-GetField : goal.returns-in_ok-field-in-GetField
returns-in_ok-field-in-GetField c = λ links route are.
    let w = c.args.setting.now in
    let f = c.args.types.now in
    let state = c.args.state.now in
    let inner = subst (λ (one : Writing). AreLinksOf (headers_of one.classes) links) (sym c.setting.view_is) are in
    c.of_get_field.ensures links route
    ∙ ap (get_template (scope w links) state (held state (operand f 0)))
    (c.in_ok-field-in-GetField.ensures links c.setting.inside.flat.now inner ∙ ap (λ (one : Writing). field_of (scope one links) c.args.class c.in-GetField.index) c.setting.view_is)
    ∙ ap (template (scope w links) c.args.at f state route c.args.class) (sym c.in-GetField.is)

pub returns-in_ok-field-in-PutField : goal.returns-in_ok-field-in-PutField
returns-in_ok-field-in-PutField c = λ links route are.
    let w = c.args.setting.now in
    let f = c.args.types.now in
    let state = c.args.state.now in
    let inner = subst (λ (one : Writing). AreLinksOf (headers_of one.classes) links) (sym c.setting.view_is) are in
    c.of_put_field.ensures links route
    ∙ ap (put_template (scope w links) (held state (operand f 1)) (held state (operand f 0)))
    (c.in_ok-field-in-PutField.ensures links c.setting.inside.flat.now inner ∙ ap (λ (one : Writing). field_of (scope one links) c.args.class c.in-PutField.index) c.setting.view_is)
    ∙ ap (template (scope w links) c.args.at f state route c.args.class) (sym c.in-PutField.is)

pub returns-in-InstanceOf : goal.returns-in-InstanceOf
returns-in-InstanceOf c = λ links route are.
    let w = c.args.setting.now in
    let f = c.args.types.now in
    let state = c.args.state.now in
    c.of_instance_of.ensures links route are
    ∙ ap (instance_template (scope w links) (held state (operand f 0)))
    (c.class_named-name.ensures links c.setting.inside.flat.now ∙ ap (λ (one : Writing). class_at (pool_of (scope one links) c.args.class) c.in-InstanceOf.index) c.setting.view_is)
    ∙ ap (template (scope w links) c.args.at f state route c.args.class) (sym c.in-InstanceOf.is)
