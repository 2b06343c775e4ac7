-- Edges of plans as they are borrowed.
use Rattle.plan_flow.specs.Plans.{MadeEdge}
use Rattle.plan_flow.specs.declared.plan.PlanEdge.{PlanEdge}

abbrev pub made_edge_meant : PlanEdge → MadeEdge
made_edge_meant edge = record { by = edge.by; to = edge.to; made = edge.made.now }
