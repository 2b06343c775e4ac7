use Rattle.std.proofs.Common.{length, refl, sym, ap, ◌∙◌, arith}
use Rattle.std.proofs.lemmas.Result.{IfOk-weaker}
use Rattle.machine_values.specs.Frames.{MethodState}
use Rattle.member_link.specs.Machine.Stepping.{op_step, point_step}
use Rattle.member_link.specs.declared.run_op.RunOp.{RunOp}
use Rattle.machine_run.proofs.PreparedPoints.{bounded_with, op_read, op_resolved, point_with, with_op}
use Rattle.machine_run.proofs.stepping.operate_frame.Goals as goal

pub returns-clause-prepared : goal.returns-clause-prepared
returns-clause-prepared c = λ P at program is.
    let method = c.args.method.now in
    let old : RunOp = c.index_mut.result.now in
    let place = c.frame.inside.place in
    let stands = op_read method.ops.items c.len.result place place old refl (c.len.ensures ∙ method.ops.ok.0) (omega (arith, c.if-place-len.false)) c.index_mut.ensures.value in
    with_op P at method is place old c.operate_op.new.op _ stands.1 c.operate_op.ensures.same
    (c.operate_op.ensures.resolved P program (op_resolved P at method is place old stands.0 stands.1)) refl

pub returns-clause-operated : goal.returns-clause-operated
returns-clause-operated c =
    let method = c.args.method.now in
    let frame = c.args.frame.now in
    let old : RunOp = c.index_mut.result.now in
    let stands = op_read method.ops.items c.len.result c.frame.inside.place frame.place old (ap (λ (g : MethodState). g.place) c.frame.view_is)
    (c.len.ensures ∙ method.ops.ok.0) (omega (arith, c.if-place-len.false)) c.index_mut.ensures.value in
    IfOk-weaker c.operate_op.result _ _
    (λ operated steps P w rest program is memory.
    let found = point_with P frame.at method is frame.place old stands.1 in
    steps P w rest program (op_resolved P frame.at method is frame.place old stands.0 stands.1) memory
    ∙ ap (op_step P w frame rest) (sym found.2)
    ∙ ap (point_step P w frame rest) (sym found.1))
    c.operate_op.ensures.operated

pub returns-clause-can : goal.returns-clause-can
returns-clause-can c =
    let method = c.args.method.now in
    let frame = c.args.frame.now in
    let old : RunOp = c.index_mut.result.now in
    let stands = op_read method.ops.items c.len.result c.frame.inside.place frame.place old (ap (λ (g : MethodState). g.place) c.frame.view_is)
    (c.len.ensures ∙ method.ops.ok.0) (omega (arith, c.if-place-len.false)) c.index_mut.ensures.value in
    IfOk-weaker c.operate_op.result _ _
    (λ operated can P program is. can P program (op_resolved P frame.at method is frame.place old stands.0 stands.1))
    c.operate_op.ensures.can

pub returns-clause-next : goal.returns-clause-next
returns-clause-next c = λ P is.
    let method = c.args.method.now in
    let frame = c.args.frame.now in
    let old : RunOp = c.index.result.now in
    let stands = op_read method.ops.items c.len.result c.frame.inside.place frame.place old (ap (λ (g : MethodState). g.place) c.frame.view_is)
    (c.len.ensures ∙ method.ops.ok.0) (omega (arith, c.if-place-len.false)) c.index.ensures in
    bounded_with P frame.at method is frame old refl stands.1
    (c.an_operation_has_few_dimensions.ensures P (op_resolved P frame.at method is frame.place old stands.0 stands.1)) stands.0
