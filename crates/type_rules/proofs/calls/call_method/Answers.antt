use Rattle.std.proofs.Common.{Some, refl}
use Rattle.type_rules.proofs.CallRows.{chosen_by_receiver}
use Rattle.type_rules.proofs.calls.call_method.Goals as goal
use Rattle.member_link.specs.MemberRefs.{reference_meant}
use Rattle.member_link.specs.Scope.{row_scope}

-- neither invokestatic nor invokespecial
pub returns : goal.returns
returns c =
    let reference = reference_meant c.args.reference.now in
    chosen_by_receiver (row_scope c.args.step.now.rules.now) c.args.step.now.before.now c.args.opcode reference (Some reference) c.call_virtual.result refl c.if-opcode-eq-INVOKESTATIC.false c.if-opcode-eq-INVOKESPECIAL.false c.call_virtual.ensures
