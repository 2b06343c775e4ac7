use Rattle.std.proofs.Common.{sym, subst, ◌∙◌}
use Rattle.std.proofs.lemmas.Result.{IfOk-weaker}
use Rattle.member_link.specs.Machine.CallSteps.{if_conforms, special_on}
use Rattle.machine_step.specs.Completing.{Completes}
use Rattle.machine_step.proofs.ReceiverCalls.{special_is, special_target}
use Rattle.machine_step.proofs.receivers.call_special.Goals as goal

pub returns-in-Ok : goal.returns-in-Ok
returns-in-Ok c = IfOk-weaker c.special_on.result _ _
    (λ completed is P from program parameters starts found.
    let op = c.args.op.now in
    let method = c.in-Some.target.method in
    let target = special_target P op from c.in-Some.target starts c.in-Some.is found in
    subst (Completes c.args.memory.now c.args.memory.now c.args.operands.now completed)
    (sym (special_is P c.args.memory.now op.named from c.args.operands.now method target.link (sym target.found.static ∙ c.if-target.false)
    ∙ c.in-Ok.ensures.shape P op.named.desc (if_conforms P op.named (special_on P c.args.memory.now op.named from method c.args.operands.now))
    (parameters ∙ sym c.deref.ensures.value)))
    (is P from c.args.memory.now c.args.operands.now program target.found (target.runs c.if-target.false)))
    c.special_on.ensures

pub returns-in-Err : goal.returns-in-Err
returns-in-Err c = λ P from program parameters starts found.
    let op = c.args.op.now in
    let method = c.in-Some.target.method in
    let target = special_target P op from c.in-Some.target starts c.in-Some.is found in
    subst (Completes c.args.memory.now c.args.memory.now c.args.operands.now c.in-Err.completed)
    (sym (special_is P c.args.memory.now op.named from c.args.operands.now method target.link (sym target.found.static ∙ c.if-target.false)))
    (c.in-Err.ensures.without P op.named.desc (if_conforms P op.named (special_on P c.args.memory.now op.named from method c.args.operands.now))
    (parameters ∙ sym c.deref.ensures.value))
