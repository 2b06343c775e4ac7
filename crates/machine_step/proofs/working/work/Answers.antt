use Rattle.std.proofs.Common.{◌≡◌, sym, subst}
use Rattle.member_link.specs.Machine.ObjectSteps.{new_object_work}
use Rattle.member_link.specs.Machine.Work.{work}
use Rattle.member_link.specs.declared.selection.CallForm.TheVariants as CallForm
use Rattle.machine_step.proofs.ReceiverCalls.{called_by, interface_is, virtual_is}
use Rattle.member_link.specs.declared.run_op.CallOp.{CallOp}
use Rattle.machine_step.proofs.Oks.{ok_weaker}
use Rattle.machine_step.specs.Completing.{Completes}
use Rattle.member_link.specs.RunOps.{IsNewOp, IsResolved, op_of}
use Rattle.member_link.specs.declared.run_op.NewOp.{NewOp}
use Rattle.member_link.specs.declared.run_op.RunOp.{RunOp}
use Rattle.machine_step.proofs.working.work.Goals as goal

pub returns-in-PushConstant-clause-completed : goal.returns-in-PushConstant-clause-completed
returns-in-PushConstant-clause-completed c =
    ok_weaker c.push_constant.result (λ completed is. λ P program resolved.
    subst
    (λ (op : RunOp). Completes c.args.memory.now c.push_constant.new.memory c.args.operands.now
    completed (work P c.args.memory.now (op_of op) c.args.operands.now))
    (sym c.in-PushConstant.is) (is c.args.operands.now)) c.push_constant.ensures

pub returns-in-New-clause-completed : goal.returns-in-New-clause-completed
returns-in-New-clause-completed c =
    ok_weaker c.new_object.result (λ completed is. λ P program resolved.
    let here : c.deref-in-New.result.now ≡ c.in-New.op.value = c.deref-in-New.ensures in
    let is_new : IsNewOp P c.in-New.op.value = subst (IsResolved P) c.in-New.is resolved in
    subst
    (λ (op : RunOp). Completes c.args.memory.now c.new_object.new.memory c.args.operands.now
    completed (work P c.args.memory.now (op_of op) c.args.operands.now))
    (sym c.in-New.is)
    (subst
    (λ (op : NewOp). Completes c.args.memory.now c.new_object.new.memory c.args.operands.now
    completed (new_object_work P c.args.memory.now op.class))
    here (is P c.args.operands.now (subst (IsNewOp P) (sym here) is_new))))
    c.new_object.ensures

pub returns-in-StoreElement-clause-completed : goal.returns-in-StoreElement-clause-completed
returns-in-StoreElement-clause-completed c = λ P program resolved.
    subst
    (λ (op : RunOp). Completes c.args.memory.now c.store_element.new.memory c.args.operands.now
    c.store_element.result (work P c.args.memory.now (op_of op) c.args.operands.now))
    (sym c.in-StoreElement.is) (c.store_element.ensures P program)

pub returns-in-CallVirtual-clause-completed : goal.returns-in-CallVirtual-clause-completed
returns-in-CallVirtual-clause-completed c =
    ok_weaker c.call_by_receiver.result (λ completed is. λ P program resolved.
    let memory = c.args.memory.now in
    let operands = c.args.operands.now in
    let op : CallOp = c.in-CallVirtual.op.value in
    subst (λ (op : RunOp). Completes memory memory operands completed (work P memory (op_of op) operands)) (sym c.in-CallVirtual.is)
    (subst (Completes memory memory operands completed) (virtual_is P memory op.named (P.links.method op.named) operands)
    (called_by P CallForm.Virtual memory operands completed c.deref_mut-in-CallVirtual.result.now op c.deref_mut-in-CallVirtual.ensures.value (is P program)
    (subst (IsResolved P) c.in-CallVirtual.is resolved))))
    c.call_by_receiver.ensures.completed

pub returns-in-CallInterface-clause-completed : goal.returns-in-CallInterface-clause-completed
returns-in-CallInterface-clause-completed c =
    ok_weaker c.call_by_receiver-in-CallInterface.result (λ completed is. λ P program resolved.
    let memory = c.args.memory.now in
    let operands = c.args.operands.now in
    let op : CallOp = c.in-CallInterface.op.value in
    subst (λ (op : RunOp). Completes memory memory operands completed (work P memory (op_of op) operands)) (sym c.in-CallInterface.is)
    (subst (Completes memory memory operands completed) (interface_is P memory op.named (P.links.method op.named) operands)
    (called_by P CallForm.Interface memory operands completed c.deref_mut-in-CallInterface.result.now op c.deref_mut-in-CallInterface.ensures.value (is P program)
    (subst (IsResolved P) c.in-CallInterface.is resolved))))
    c.call_by_receiver-in-CallInterface.ensures.completed
