use Rattle.plan_flow.proofs.Adding.{HasOperands}
use Rattle.plan_flow.proofs.asked.add_operands.Given as goal

abbrev pub invariant-loop-number : goal.invariant-loop-number
invariant-loop-number l = HasOperands l.initial.sites l.sites l.state l.types l.number
