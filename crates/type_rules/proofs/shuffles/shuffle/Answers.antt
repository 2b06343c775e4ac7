use Rattle.std.proofs.Common.{◌≡◌, ◌++◌, Some, List, length, map, ap, sym, ◌∙◌}
use Rattle.std.specs.Option.{option_map, option_copied}
use Rattle.std.proofs.lemmas.List.{length-map}
use Rattle.class_model.specs.declared.frame.VType.{VType}
use Rattle.member_link.specs.Rows.Operands.{topmost, under}
use Rattle.member_link.specs.Rows.ShuffleRows.{Form, form_in, forms_of, picked}
use Rattle.type_rules.proofs.ShuffleForms.{row_of_form}
use Rattle.type_rules.proofs.shuffles.shuffle.Goals as goal
use Rattle.type_rules.specs.Inner.Forms.{form_meant, width_meant}
use Rattle.member_link.specs.Scope.{row_scope}

pub returns : goal.returns
returns c =
    let step = c.args.step.now in
    let entries = step.before.now.stack in
    let form = c.in-Some.form.now in
    let count = length form.takes.now in
    let asked : Some (form_meant form) ≡ form_in (map form_meant c.forms_of.result.now) c.as_slice-stack.result.now =
    ap (λ r. option_map form_meant (option_copied r)) (sym c.in-Some.is) ∙ c.form_in.ensures in
    let found : form_in (forms_of c.args.opcode) entries ≡ Some (form_meant form) =
    sym (asked ∙ ap (λ (forms : List Form). form_in forms c.as_slice-stack.result.now) c.forms_of.ensures ∙ ap (form_in (forms_of c.args.opcode)) c.as_slice-stack.ensures) in
    let operands : c.topmost-operands.result.now ≡ topmost count entries = c.topmost-operands.ensures ∙ ap (topmost count) c.as_slice-stack.ensures in
    let behind : c.push_picked.new.stack ≡ under count entries ++ picked (topmost count entries) form.gives.now =
    c.in_ok-push_picked.ensures ∙ ap (λ (s : List VType). s ++ picked c.topmost-operands.result.now form.gives.now) c.in_ok-behind.ensures
    ∙ ap (λ (s : List VType). under count entries ++ picked s form.gives.now) operands in
    row_of_form (row_scope step.rules.now) step.before.now (forms_of c.args.opcode) c.conclude.result (form_meant form) count c.push_picked.new.stack c.in_ok-locals.locals found
    (sym (length-map form.takes.now width_meant)) behind c.in_ok-locals.ensures c.conclude.ensures
