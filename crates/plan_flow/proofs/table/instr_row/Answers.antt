use Rattle.std.proofs.Common.{sym, ap, ◌∙◌}
use Rattle.class_model.specs.Pool.{constant_at}
use Rattle.plan_flow.specs.Inner.RowViews.{described_row}
use Rattle.plan_flow.specs.PlanScope.{pool_of, scope_of}
use Rattle.plan_flow.specs.PlanTable.{call_row, cast_row, get_field_row, instr_row, put_field_row}
use Rattle.plan_flow.proofs.RowUpdates.{dynamic_is}
use Rattle.plan_flow.proofs.table.instr_row.Goals as goal

pub returns-in_ok-field_of-in-GetField : goal.returns-in_ok-field_of-in-GetField
returns-in_ok-field_of-in-GetField c = λ links are.
    let f = c.args.types.now in
    let s = scope_of c.args.tree.now links c.args.flat.now in
    c.get_field_row.ensures links c.args.flat.now
    ∙ ap (get_field_row s f) (c.in_ok-field_of-in-GetField.ensures links c.args.flat.now are)
    ∙ ap (instr_row s c.args.at f c.args.class) (sym c.in-GetField.is)

pub returns-in_ok-field_of-in-PutField : goal.returns-in_ok-field_of-in-PutField
returns-in_ok-field_of-in-PutField c = λ links are.
    let f = c.args.types.now in
    let s = scope_of c.args.tree.now links c.args.flat.now in
    c.put_field_row.ensures links c.args.flat.now
    ∙ ap (put_field_row s f) (c.in_ok-field_of-in-PutField.ensures links c.args.flat.now are)
    ∙ ap (instr_row s c.args.at f c.args.class) (sym c.in-PutField.is)

pub returns-in_ok-member_of-in-Invoke : goal.returns-in_ok-member_of-in-Invoke
returns-in_ok-member_of-in-Invoke c = λ links are.
    let f = c.args.types.now in
    let s = scope_of c.args.tree.now links c.args.flat.now in
    c.call_row.ensures
    ∙ ap (call_row f c.in-Invoke.opcode) (c.in_ok-member_of-in-Invoke.ensures links c.args.flat.now)
    ∙ ap (instr_row s c.args.at f c.args.class) (sym c.in-Invoke.is)

pub returns-in-Dynamic : goal.returns-in-Dynamic
returns-in-Dynamic c = λ links are.
    let f = c.args.types.now in
    let s = scope_of c.args.tree.now links c.args.flat.now in
    let pool = pool_of s c.args.class in
    c.dynamic_row.ensures
    ∙ ap (described_row f) (c.dynamic_descriptor.ensures links c.args.flat.now)
    ∙ dynamic_is pool f (constant_at pool c.in-Dynamic.index)
    ∙ ap (instr_row s c.args.at f c.args.class) (sym c.in-Dynamic.is)

pub returns-in_ok-cast_row-in-Cast : goal.returns-in_ok-cast_row-in-Cast
returns-in_ok-cast_row-in-Cast c = λ links are.
    let f = c.args.types.now in
    let s = scope_of c.args.tree.now links c.args.flat.now in
    c.in_ok-cast_row-in-Cast.ensures
    ∙ ap (cast_row f) (c.class_named.ensures links c.args.flat.now)
    ∙ ap (instr_row s c.args.at f c.args.class) (sym c.in-Cast.is)
