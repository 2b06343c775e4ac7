use Rattle.std.proofs.Common.{◌∙◌, sym, ap, subst}
use Rattle.member_link.specs.Bodies.{asked_access}
use Rattle.member_link.specs.BodyTyping.{RowHolds}
use Rattle.member_link.specs.Machine.Codes.{instr_op}
use Rattle.member_link.specs.RowScope.{RowScope}
use Rattle.member_link.specs.Rows.Row.{row_frame}
use Rattle.member_link.specs.Rows.Table.{row_of}
use Rattle.type_rules.proofs.Grown.Operations.{call_grown}
use Rattle.type_rules.proofs.Grown.Whole.{instr_linked, left_still, op_still, operands_kept, row_still}
use Rattle.type_rules.proofs.laws.a_grown_class_keeps_its_instructions.Goals as goal

pub returns-clause-operands : goal.returns-clause-operands
returns-clause-operands c = λ old new max_locals instr is grown fits. operands_kept old new is grown max_locals instr fits

pub returns-clause-linked : goal.returns-clause-linked
returns-clause-linked c = λ before after old new max_locals instr site headers is grown fits asks.
    instr_linked old new is grown max_locals instr fits c.alike_classes_have_one_look_up.ensures.methods before after headers site asks

pub returns-clause-held : goal.returns-clause-held
returns-clause-held c = λ scope now old new max_locals instr before place asks is grown fits over held.
    subst (λ (s : RowScope). RowHolds s before (asked_access asks (row_of s before place instr))) (sym over.rest)
    (row_still old new is grown max_locals instr fits c.alike_classes_have_one_look_up.ensures.methods scope now.headers now.own over.headers over.own over.of_pool before place asks held)

pub returns-clause-left : goal.returns-clause-left
returns-clause-left c = λ scope now old new max_locals instr before place is grown fits over.
    ap (λ (s : RowScope). row_frame before (row_of s before place instr)) over.rest
    ∙ left_still old new is grown max_locals instr fits c.alike_classes_have_one_look_up.ensures.methods scope now.headers now.own over.headers over.own over.of_pool before place

pub returns-clause-runs : goal.returns-clause-runs
returns-clause-runs c = λ scope now old new max_locals instr links number is grown fits over.
    ap (λ (s : RowScope). instr_op links number s instr) over.rest
    ∙ op_still old new is grown max_locals instr fits links number scope now.headers now.own over.headers over.own over.of_pool

pub returns-clause-calls : goal.returns-clause-calls
returns-clause-calls c = λ scope now links opcode reference headers own. call_grown links scope now headers own opcode reference
