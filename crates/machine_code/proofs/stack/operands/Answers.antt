use Rattle.machine_code.proofs.Stacks.{operands_are}
use Rattle.machine_code.proofs.stack.operands.Goals as goal

pub returns-then-count-values-clause-some : goal.returns-then-count-values-clause-some
returns-then-count-values-clause-some c =
    operands_are c.as_slice-values.result.now c.args.stack.now c.args.count
    c.as_slice-values.ensures c.if-count-values.true
