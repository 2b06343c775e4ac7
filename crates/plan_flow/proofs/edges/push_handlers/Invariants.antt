use Rattle.plan_flow.proofs.Opening.{HandlersLeft}
use Rattle.plan_flow.proofs.edges.push_handlers.Given as goal

abbrev pub invariant-loop-handler : goal.invariant-loop-handler
invariant-loop-handler l = HandlersLeft l.state l.initial.edges.items l.edges.items l.guard l.handlers l.handler-index l.number
