use Rattle.member_link.specs.Machine.Arithmetic.{meaning_in, pure_meanings}
use Rattle.machine_step.proofs.Results.{no_result}
use Rattle.machine_step.proofs.arithmetic.pure.Goals as goal

pub returns-else-operands-eq2 : goal.returns-else-operands-eq2
returns-else-operands-eq2 c =
    no_result (meaning_in pure_meanings c.args.opcode) c.args.operands.now c.if-operands-eq1.false
    c.if-operands-eq2.false
