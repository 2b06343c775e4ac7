use Rattle.std.proofs.Common.{◌++◌, List, sym, ap, ◌∙◌}
use Rattle.plan_flow.specs.Inner.Sharing.{or_no_edge}
use Rattle.plan_flow.specs.Plans.{MadeEdge}
use Rattle.plan_flow.proofs.plan.EdgePlans.own.Goals as goal

pub returns : goal.returns
returns c = record { caught = or_no_edge c.self.inside.thrown; is = sym c.self.view_is ∙ ap (λ (own : List MadeEdge). own ++ or_no_edge c.self.inside.thrown) (sym c.as_slice.ensures.value); thrown = c.self.invariant.0 }
