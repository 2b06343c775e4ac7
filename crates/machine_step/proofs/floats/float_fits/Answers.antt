use Rattle.machine_step.proofs.FloatOperands.{not_asked}
use Rattle.machine_step.proofs.floats.float_fits.Goals as goal

pub returns-else-operands-eq2 : goal.returns-else-operands-eq2
returns-else-operands-eq2 c =
    not_asked c.args.opcode c.args.operands.now c.if-operands-eq1.false c.if-operands-eq2.false
