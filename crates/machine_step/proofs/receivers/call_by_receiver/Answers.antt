use Rattle.std.proofs.Common.{sym, subst, ◌∙◌}
use Rattle.std.proofs.lemmas.Result.{IfOk-weaker}
use Rattle.machine_step.specs.Completing.{Completes}
use Rattle.machine_step.specs.Inner.Receivers.{by_shape}
use Rattle.machine_step.proofs.ReceiverCalls.{by_receiver, receiver_target, work_is}
use Rattle.machine_step.proofs.receivers.call_by_receiver.Goals as goal

pub returns-in-Ok-clause-completed : goal.returns-in-Ok-clause-completed
returns-in-Ok-clause-completed c = IfOk-weaker c.on_shape.result _ _
    (λ completed is P program parameters found.
    let op = c.args.op.now in
    let method = c.in-Some.target.method in
    let target = receiver_target P c.args.form op c.in-Some.target c.in-Some.is found in
    subst (Completes c.args.memory.now c.args.memory.now c.args.operands.now completed)
    (sym (work_is P c.args.memory.now op.named c.args.form c.args.operands.now method target.link (sym target.found.static ∙ c.if-target.false)
    ∙ c.in-Ok.ensures.shape P op.named.desc (by_shape P c.args.form op.named method c.args.operands.now)
    (parameters ∙ sym c.deref.ensures.value)))
    (is P c.args.memory.now c.args.operands.now program (by_receiver P c.args.form op c.in-Some.target target c.if-target.false)))
    c.on_shape.ensures.completed

pub returns-in-Err-clause-completed : goal.returns-in-Err-clause-completed
returns-in-Err-clause-completed c = λ P program parameters found.
    let op = c.args.op.now in
    let method = c.in-Some.target.method in
    let target = receiver_target P c.args.form op c.in-Some.target c.in-Some.is found in
    subst (Completes c.args.memory.now c.args.memory.now c.args.operands.now c.in-Err.completed)
    (sym (work_is P c.args.memory.now op.named c.args.form c.args.operands.now method target.link (sym target.found.static ∙ c.if-target.false)))
    (c.in-Err.ensures.without P op.named.desc (by_shape P c.args.form op.named method c.args.operands.now)
    (parameters ∙ sym c.deref.ensures.value))
